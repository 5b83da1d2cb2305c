use Rattle.std.proofs.Common.{arith}
use Rattle.spv_exec.proofs.FilledWords.{cleared, filled_more}
use Rattle.spv_exec.proofs.variables.fill_in.Goals as goal

pub loop-fill-init : goal.loop-fill-init
loop-fill-init c = λ at less. cleared c.args.inputs.now c.args.buffers.now at _ (c.clear.ensures at (omega (arith, less, c.clear.auto.memory)))

pub loop-fill-preserved : goal.loop-fill-preserved
loop-fill-preserved c = λ at less.
    filled_more c.args.inputs.now c.args.buffers.now c.args.fills.now c.loop-fill.fill-index at c.word-word.result c.loop-fill.memory c.fill_word.new.memory _ c.loop-fill-test.true c.word-word.ensures
    (c.fill_word.ensures at (omega (arith, less, c.fill_word.auto.memory))) (c.loop-fill.invariant at (omega (arith, less, c.fill_word.auto.memory)))
