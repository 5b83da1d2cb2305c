use Rattle.std.proofs.Common.{◌≡◌, ℕ, ◌<◌, Option, length, get_or}
use Rattle.state_key.specs.Unpacked.{attachment_at}
use Rattle.limits.specs.declared.TheConstants.{ATTACHMENTS}
use Rattle.state_model.specs.declared.parts.Attachment.{Attachment}
use Rattle.state_key.proofs.unpack.attachments_of.Given as goal

abbrev pub invariant-loop-i : goal.invariant-loop-i
invariant-loop-i l = record {
  count : length l.attachments ≡ ATTACHMENTS;
  filled : (k : ℕ) (d : Option Attachment) → k < l.i → get_or l.attachments k d ≡ attachment_at l.word k;
}
