use Rattle.std.proofs.Common.{None, arith}
use Rattle.state_model.specs.Canonical.{if_declared}
use Rattle.state_key.proofs.EntryOrder.{map_from_each}
use Rattle.state_key.proofs.canonical.declared_entries.Goals as goal

pub returns : goal.returns
returns c =
    map_from_each (if_declared c.args.ids.now) c.args.entries.now c.loop-i.kept None (omega (arith, c.loop-i.invariant.count)) (λ k within. c.loop-i.invariant.filled k None (omega (arith, c.loop-i.invariant.count)))
