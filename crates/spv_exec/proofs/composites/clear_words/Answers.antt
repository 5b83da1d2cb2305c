use Rattle.std.proofs.Common.{arith}
use Rattle.spv_exec.proofs.PickedWords.{cleared_more}
use Rattle.spv_exec.proofs.composites.clear_words.Goals as goal

pub loop-k-preserved : goal.loop-k-preserved
loop-k-preserved c = let less = c.loop-k-test.true in let fits = c.requires in cleared_more c.args.to.now c.loop-k.to c.loop-k.k c.loop-k.invariant (omega (arith, less, fits))
