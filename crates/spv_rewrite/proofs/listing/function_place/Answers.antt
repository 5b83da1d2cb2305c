use Rattle.std.proofs.Common.{sym, ◌∙◌, ap, arith}
use Rattle.std.proofs.lemmas.Bool.{eq-eqb}
use Rattle.std.proofs.lemmas.List.Sums.{position_or_len_is}
use Rattle.spirv_model.specs.declared.op.TheConstants.{FUNCTION}
use Rattle.valid_model.specs.Definitions.{no_instruction}
use Rattle.check_model.specs.EntryPoints.{is_op_function}
use Rattle.spv_rewrite.proofs.listing.function_place.Goals as goal

pub returns-then-inst-eq-FUNCTION-clause-place : goal.returns-then-inst-eq-FUNCTION-clause-place
returns-then-inst-eq-FUNCTION-clause-place c =
    sym (position_or_len_is is_op_function c.args.insts.now c.loop-place.place no_instruction (omega arith) c.loop-place.invariant
    (λ more. ap is_op_function (sym c.inst_at-inst.ensures) ∙ eq-eqb c.inst_at-inst.result.now.op FUNCTION c.if-inst-eq-FUNCTION.true))

pub returns-clause-place : goal.returns-clause-place
returns-clause-place c =
    sym (position_or_len_is is_op_function c.args.insts.now _ no_instruction (omega arith) (λ k less. c.loop-place.invariant k (omega (arith, less))) (λ more. absurd (omega (arith, more))))
