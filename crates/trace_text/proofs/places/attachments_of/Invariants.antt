use Rattle.std.proofs.Common.{◌≡◌, ℕ, ◌<◌, Option, length, get_or}
use Rattle.state_model.specs.Lawful.{present_at}
use Rattle.state_model.specs.declared.parts.Attachment.{Attachment}
use Rattle.limits.specs.declared.TheConstants.{ATTACHMENTS}
use Rattle.trace_text.proofs.places.attachments_of.Given as goal

abbrev pub invariant-loop-i : goal.invariant-loop-i
invariant-loop-i l = record {
  count : length l.attachments ≡ ATTACHMENTS;
  filled : (k : ℕ) (d : Option Attachment) → k < l.i → get_or l.attachments k d ≡ present_at l.list k;
}
