use Rattle.std.proofs.Common.{◌≡◌, ℕ, ap, ◌∙◌, arith}
use Rattle.spirv_model.specs.declared.module.Inst.{Inst}
use Rattle.spirv_model.specs.declared.op.TheConstants as op
use Rattle.valid_model.specs.Definitions.{inst_at}
use Rattle.stage_model.specs.Program.{program_of}
use Rattle.spv_exec.proofs.ResultOpcodes.{on_components}
use Rattle.spv_exec.proofs.results.run_result.Goals as goal

pub inst-requires : goal.inst-requires
unfolding program_of
inst-requires c = c.requires.gives.gives.within

pub run_operation-requires-clause-is : goal.run_operation-requires-clause-is
run_operation-requires-clause-is c =
    let e : c.inst.result.now.op ≡ (inst_at c.args.of.now.insts c.args.place).op = ap (λ (i : Inst). i.op) c.inst.ensures in
    on_components (inst_at c.args.of.now.insts c.args.place).op c.requires.is
    (λ is. let f : c.inst.result.now.op ≡ op.VARIABLE = e ∙ is in omega (arith, f))
    (λ is. let f : c.inst.result.now.op ≡ op.LOAD = e ∙ is in omega (arith, f))
    (λ is. let f : c.inst.result.now.op ≡ op.ACCESS_CHAIN = e ∙ is in omega (arith, f))
    (λ is. let f : c.inst.result.now.op ≡ op.UNDEF = e ∙ is in omega (arith, f))
    (λ is. let f : c.inst.result.now.op ≡ op.VECTOR_SHUFFLE = e ∙ is in omega (arith, f))
    (λ is. let f : c.inst.result.now.op ≡ op.COMPOSITE_CONSTRUCT = e ∙ is in omega (arith, f))
    (λ is. let f : c.inst.result.now.op ≡ op.COMPOSITE_EXTRACT = e ∙ is in omega (arith, f))
    (λ is. let f : c.inst.result.now.op ≡ op.COMPOSITE_INSERT = e ∙ is in omega (arith, f))

pub returns-in-59 : goal.returns-in-59
returns-in-59 c = λ held value holds gives. c.run_variable.ensures held value gives

pub returns-in-65 : goal.returns-in-65
returns-in-65 c = λ held value holds gives. c.run_chain.ensures held value gives

pub returns-in-1 : goal.returns-in-1
returns-in-1 c = λ held value holds gives. c.run_undef.ensures held value gives

pub returns-in-79 : goal.returns-in-79
returns-in-79 c = λ held value holds gives. c.run_shuffle.ensures held value gives

pub returns-in-80 : goal.returns-in-80
returns-in-80 c = λ held value holds gives. c.run_construct.ensures held value gives

pub returns-in-81 : goal.returns-in-81
returns-in-81 c = λ held value holds gives. c.run_extract.ensures held value gives

pub returns-in-82 : goal.returns-in-82
returns-in-82 c = λ held value holds gives. c.run_insert.ensures held value gives

pub returns-in_default : goal.returns-in_default
returns-in_default c = λ held value holds gives. c.run_operation.ensures held value gives
