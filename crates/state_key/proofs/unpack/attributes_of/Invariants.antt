use Rattle.std.proofs.Common.{◌≡◌, ℕ, ◌<◌, Option, length, get_or}
use Rattle.state_key.specs.Unpacked.{attribute_at}
use Rattle.limits.specs.declared.TheConstants.{LOCATIONS}
use Rattle.state_model.specs.declared.parts.Attribute.{Attribute}
use Rattle.state_key.proofs.unpack.attributes_of.Given as goal

abbrev pub invariant-loop-i : goal.invariant-loop-i
invariant-loop-i l = record {
  count : length l.attributes ≡ LOCATIONS;
  filled : (k : ℕ) (d : Option Attribute) → k < l.i → get_or l.attributes k d ≡ attribute_at l.key k;
}
