use Rattle.std.proofs.Common.{◌≡◌, ℕ, ◌<◌, Option, length, get_or}
use Rattle.state_model.specs.Lawful.{present_at}
use Rattle.limits.specs.declared.TheConstants.{ATTACHMENTS}
use Rattle.trace_text.proofs.places.numbers_of.Given as goal

abbrev pub invariant-loop-i : goal.invariant-loop-i
invariant-loop-i l = record {
  count : length l.numbers ≡ ATTACHMENTS;
  filled : (k : ℕ) (d : Option ℕ) → k < l.i → get_or l.numbers k d ≡ present_at l.list k;
}
