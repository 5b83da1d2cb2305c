use Rattle.std.proofs.Common.{◌≡◌, ℕ, ◌<◌, Option, length, get_or}
use Rattle.state_model.specs.declared.parts.Attribute.{Attribute}
use Rattle.limits.specs.declared.TheConstants.{LOCATIONS}
use Rattle.trace_text.specs.LibraryLines.{attribute_at}
use Rattle.trace_text.proofs.adding_libraries.by_location.Given as goal

abbrev pub invariant-loop-i : goal.invariant-loop-i
invariant-loop-i l = record {
  count : length l.places ≡ LOCATIONS;
  filled : (k : ℕ) (d : Option Attribute) → k < l.i → get_or l.places k d ≡ attribute_at l.attributes k;
}
