use Rattle.std.proofs.Common.{length, ap, ◌∙◌}
use Rattle.spirv_model.specs.Operands.{words_from}
use Rattle.spv_exec.proofs.OperationWords.{other_count}
use Rattle.spv_exec.proofs.constants.operation_word.Goals as goal

pub returns : goal.returns
returns c = λ read value are is.
    absurd (other_count c.args.of.now.insts c.args.frame.now (words_from 3 c.args.inst.now) read _ value (λ e. c.if-ids-eq1.false (ap length c.words_from-ids.ensures ∙ e)) (λ e. c.if-ids-eq2.false (ap length c.words_from-ids.ensures ∙ e))
    (λ e. c.if-ids-eq3.false (ap length c.words_from-ids.ensures ∙ e)) are is)
