use Rattle.std.proofs.Common.{arith, rules}
use Rattle.state_key.proofs.Order.{OrderedBelow-more}
use Rattle.state_key.proofs.tidy.are_in_order.Goals as goal

pub loop-i-preserved : goal.loop-i-preserved
loop-i-preserved c =
    OrderedBelow-more c.args.entries.now c.loop-i.i (omega arith) c.loop-i.invariant (c.precedes_next.ensures.0 (search rules))
