use Rattle.std.proofs.Common.{◌∙◌}
use Rattle.spv_ops.proofs.ScalarWords.{is_word_of_two}
use Rattle.spv_ops.proofs.scalar_words.binary_word.Goals as goal

pub returns-clause-gives : goal.returns-clause-gives
returns-clause-gives c first second value is at also = c.from_two.ensures ∙ is_word_of_two c.args.op c.args.left c.args.right first second value is at also
