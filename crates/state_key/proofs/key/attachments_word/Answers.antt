use Rattle.std.proofs.Common.{lit≤, rules}
use Rattle.state_model.specs.Key.{attachment_byte}
use Rattle.limits.specs.declared.TheConstants.{ATTACHMENTS}
use Rattle.state_key.proofs.Packing.{Packs-start, Packs-next, Packs-room}
use Rattle.state_key.proofs.key.attachments_word.Goals as goal

pub loop-i-init : goal.loop-i-init
loop-i-init c = Packs-start 8 ATTACHMENTS attachment_byte c.args.attachments.now (search rules)

pub loop-i-preserved : goal.loop-i-preserved
loop-i-preserved c =
    Packs-next 8 ATTACHMENTS attachment_byte c.args.attachments.now (search rules) c.loop-i.i c.loop-i.word c.attachment_byte.result c.with_lowest-word.result _ c.loop-i-test.true c.loop-i.invariant c.attachment_byte.ensures.value c.attachment_byte.ensures.bound c.with_lowest-word.ensures

pub with_lowest-word-requires-clause-fits : goal.with_lowest-word-requires-clause-fits
with_lowest-word-requires-clause-fits c =
    Packs-room 8 ATTACHMENTS attachment_byte c.args.attachments.now (search rules) c.loop-i.i c.loop-i.word c.attachment_byte.result c.loop-i-test.true c.loop-i.invariant c.attachment_byte.ensures.bound (lit≤ tt)
