use Rattle.std.proofs.Common.{sym}
use Rattle.spv_words.proofs.Passing.{fit-step}
use Rattle.spv_words.proofs.operands.fit.Goals as goal

pub loop-left-preserved : goal.loop-left-preserved
loop-left-preserved c =
    let passed = c.after_first-left.ensures in
    fit-step c.loop-left.left c.after_first-left.result c.in-Some.operand c.loop-left.words.now c.split_at.result.1.now c.in-Some-operand_words.count _ c.loop-left.invariant
    (c.in-Some.is, passed.listed, passed.rest) (sym c.in-Some-operand_words.ensures.value) c.split_at.ensures.back
