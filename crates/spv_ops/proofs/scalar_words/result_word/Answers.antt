use Rattle.std.proofs.Common.{◌∙◌}
use Rattle.spv_ops.proofs.ScalarWords.{is_word_of_all}
use Rattle.spv_ops.proofs.scalar_words.result_word.Goals as goal

pub returns-clause-gives : goal.returns-clause-gives
returns-clause-gives c operands value is are = c.from_all.ensures ∙ is_word_of_all c.args.op c.args.words.now operands value is are
