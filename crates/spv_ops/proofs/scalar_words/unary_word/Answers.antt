use Rattle.std.proofs.Common.{◌∙◌}
use Rattle.spv_ops.proofs.ScalarWords.{is_word_of_one}
use Rattle.spv_ops.proofs.scalar_words.unary_word.Goals as goal

pub returns-clause-gives : goal.returns-clause-gives
returns-clause-gives c first value is at = c.from_one.ensures ∙ is_word_of_one c.args.op c.args.operand first value is at
