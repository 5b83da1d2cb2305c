use Rattle.std.proofs.Common.{arith}
use Rattle.frame_model.proofs.FrameLimits.{memory_few}
use Rattle.spv_exec.proofs.DefinedWords.{true_here, false_left, number_here, spec_true_here, spec_false_here, spec_number_here, variable_here}
use Rattle.spv_exec.proofs.OperationWords.{operation_here}
use Rattle.spv_exec.proofs.constants.defined_word.Goals as goal

pub overflow_cast-result : goal.overflow_cast-result
overflow_cast-result c =
    let few = memory_few c.args.of.now c.module-module.ensures.valid c.args.place (let w = c.requires.within in omega (arith, w)) in
    let is = c.memory_place.ensures in
    omega (arith, few, is)

pub returns-then-inst-eq-VARIABLE : goal.returns-then-inst-eq-VARIABLE
returns-then-inst-eq-VARIABLE c =
    variable_here c.args.of.now c.module-module.ensures.valid c.args.values.now c.args.place c.memory_place.result c.inst-inst.result.now c.requires.within c.inst-inst.ensures c.if-inst-eq-VARIABLE.true c.memory_place.ensures

pub returns-then-inst-eq-CONSTANT : goal.returns-then-inst-eq-CONSTANT
returns-then-inst-eq-CONSTANT c = number_here c.args.of.now.insts c.args.values.now c.args.place _ c.inst-inst.result.now c.inst-inst.ensures c.if-inst-eq-CONSTANT.true c.word.ensures

pub returns-then-inst-eq-CONSTANT_TRUE : goal.returns-then-inst-eq-CONSTANT_TRUE
returns-then-inst-eq-CONSTANT_TRUE c = true_here c.args.of.now.insts c.args.values.now c.args.place c.inst-inst.result.now c.inst-inst.ensures c.if-inst-eq-CONSTANT_TRUE.true

pub returns-then-inst-eq-SPEC_CONSTANT_TRUE : goal.returns-then-inst-eq-SPEC_CONSTANT_TRUE
returns-then-inst-eq-SPEC_CONSTANT_TRUE c =
    spec_true_here c.args.of.now.insts c.args.values.now c.args.place _ _ c.inst-inst.result.now c.inst-inst.ensures c.if-inst-eq-SPEC_CONSTANT_TRUE.true c.word-then-inst-eq-SPEC_CONSTANT_TRUE.ensures c.truth_word.ensures

pub returns-then-inst-eq-SPEC_CONSTANT_FALSE : goal.returns-then-inst-eq-SPEC_CONSTANT_FALSE
returns-then-inst-eq-SPEC_CONSTANT_FALSE c =
    spec_false_here c.args.of.now.insts c.args.values.now c.args.place _ _ c.inst-inst.result.now c.inst-inst.ensures c.if-inst-eq-SPEC_CONSTANT_FALSE.true c.word-then-inst-eq-SPEC_CONSTANT_FALSE.ensures c.truth_word-then-inst-eq-SPEC_CONSTANT_FALSE.ensures

pub returns-then-inst-eq-SPEC_CONSTANT : goal.returns-then-inst-eq-SPEC_CONSTANT
returns-then-inst-eq-SPEC_CONSTANT c =
    spec_number_here c.args.of.now.insts c.args.values.now c.args.place _ _ _ c.inst-inst.result.now c.inst-inst.ensures c.if-inst-eq-SPEC_CONSTANT.true c.word-then-inst-eq-SPEC_CONSTANT.ensures c.word-then-inst-eq-SPEC_CONSTANT-2.ensures c.number_word.ensures

pub returns-then-inst-eq-SPEC_CONSTANT_OP : goal.returns-then-inst-eq-SPEC_CONSTANT_OP
returns-then-inst-eq-SPEC_CONSTANT_OP c =
    operation_here c.args.of.now.insts c.args.values.now c.args.place c.args.frame.now c.operation_word.result c.inst-inst.result.now c.inst-inst.ensures c.if-inst-eq-SPEC_CONSTANT_OP.true c.requires.before c.operation_word.ensures

pub returns : goal.returns
returns c =
    false_left c.args.of.now.insts c.args.values.now c.args.place c.inst-inst.result.now c.inst-inst.ensures c.requires.value c.requires.zeros c.requires.composite c.if-inst-eq-CONSTANT_TRUE.false c.if-inst-eq-CONSTANT.false
    c.if-inst-eq-SPEC_CONSTANT_TRUE.false c.if-inst-eq-SPEC_CONSTANT_FALSE.false c.if-inst-eq-SPEC_CONSTANT.false c.if-inst-eq-SPEC_CONSTANT_OP.false c.if-inst-eq-VARIABLE.false
