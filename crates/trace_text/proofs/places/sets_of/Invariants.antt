use Rattle.std.proofs.Common.{◌≡◌, ℕ, ◌<◌, Option, length, get_or}
use Rattle.state_model.specs.Lawful.{present_at}
use Rattle.limits.specs.declared.TheConstants.{DESCRIPTOR_SETS}
use Rattle.trace_text.proofs.places.sets_of.Given as goal

abbrev pub invariant-loop-i : goal.invariant-loop-i
invariant-loop-i l = record {
  count : length l.sets ≡ DESCRIPTOR_SETS;
  filled : (k : ℕ) (d : Option ℕ) → k < l.i → get_or l.sets k d ≡ present_at l.masks k;
}
