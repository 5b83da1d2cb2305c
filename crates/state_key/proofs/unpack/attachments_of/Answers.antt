use Rattle.std.proofs.Common.{None, rules}
use Rattle.std.proofs.lemmas.List.FromFn.{fill_by_all}
use Rattle.state_key.specs.Unpacked.{attachment_at, attachments_of}
use Rattle.limits.specs.declared.TheConstants.{ATTACHMENTS}
use Rattle.state_key.proofs.unpack.attachments_of.Goals as goal

pub returns : goal.returns
unfolding attachments_of
returns c =
    fill_by_all (attachment_at c.args.word) c.loop-i.attachments ATTACHMENTS None c.loop-i.invariant.count (search rules)
