use Rattle.std.proofs.Common.{◌≡◌, ℕ, ◌<◌, Option, length, get_or, slice_get}
use Rattle.state_model.specs.declared.parts.Entry.{Entry}
use Rattle.limits.specs.declared.TheConstants.{ENTRIES}
use Rattle.trace_text.proofs.places.entries_of.Given as goal

abbrev pub invariant-loop-i : goal.invariant-loop-i
invariant-loop-i l = record {
  count : length l.entries ≡ ENTRIES;
  filled : (k : ℕ) (d : Option Entry) → k < l.i → get_or l.entries k d ≡ slice_get l.list k;
}
