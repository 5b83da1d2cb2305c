use Rattle.state_model.specs.Key.{attachment_byte}
use Rattle.limits.specs.declared.TheConstants.{ATTACHMENTS}
use Rattle.state_key.proofs.Packing.{Packs}
use Rattle.state_key.proofs.key.attachments_word.Given as goal

abbrev pub invariant-loop-i : goal.invariant-loop-i
invariant-loop-i l = Packs 8 ATTACHMENTS attachment_byte l.attachments l.i l.word

abbrev pub decreases-loop-i : goal.decreases-loop-i
decreases-loop-i l = l.i
