use Rattle.std.proofs.Common.{arith}
use Rattle.trace_text.proofs.Filled.{filled-is}
use Rattle.trace_text.proofs.places.numbers_of.Goals as goal

pub returns : goal.returns
returns c =
    filled-is c.args.list.now c.loop-i.numbers _ c.requires c.loop-i.invariant.count (λ k d within. c.loop-i.invariant.filled k d (omega (arith, within)))
