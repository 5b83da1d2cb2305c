use Rattle.std.proofs.Common.{◌≡◌, ℕ, ◌≤◌, inl, inr, ap, sym, ◌∙◌, subst, arith}
use Rattle.spirv_model.specs.declared.module.Inst.{Inst}
use Rattle.spirv_model.specs.declared.op.TheConstants as op
use Rattle.valid_model.specs.Definitions.{inst_at}
use Rattle.spv_exec.proofs.StepArms.{is_other, few_insts, place_fits, stores_some, result_some, result_given, result_arm, label_arm, phi_arm, selection_arm, loop_arm, store_arm, branch_arm, return_arm, unreachable_arm, kill_arm, two_ops, three_ops}
use Rattle.spv_exec.proofs.OpcodeEffects.{IsOther}
use Rattle.spv_exec.proofs.walk.step.Goals as goal
use Rattle.spv_exec.proofs.walk.step.Goals.{in_default-via-then-inst-lt245, in_default-via-else-inst-lt245+else-inst-lt248+else-inst-lt252}

pub enter-requires-clause-few : goal.enter-requires-clause-few
enter-requires-clause-few c = few_insts c.args.of.now c.args.at.now c.args.frame.now c.args.incoming.now c.args.memory.now c.requires.stands

pub overflow_add-at-in-245 : goal.overflow_add-at-in-245
overflow_add-at-in-245 c = omega (arith, place_fits c.args.of.now c.args.at.now c.args.frame.now c.args.incoming.now c.args.memory.now c.requires.stands)

pub overflow_add-at-in-62 : goal.overflow_add-at-in-62
overflow_add-at-in-62 c = omega (arith, place_fits c.args.of.now c.args.at.now c.args.frame.now c.args.incoming.now c.args.memory.now c.requires.stands)

pub overflow_add-at-in-247 : goal.overflow_add-at-in-247
overflow_add-at-in-247 c = omega (arith, place_fits c.args.of.now c.args.at.now c.args.frame.now c.args.incoming.now c.args.memory.now c.requires.stands)

pub overflow_add-at-in_default : goal.overflow_add-at-in_default
overflow_add-at-in_default c = omega (arith, place_fits c.args.of.now c.args.at.now c.args.frame.now c.args.incoming.now c.args.memory.now c.requires.stands)

pub run_store-requires : goal.run_store-requires
run_store-requires c =
    record { stores = stores_some c.args.of.now c.args.at.now c.args.frame.now c.args.incoming.now c.args.memory.now c.requires.stands (ap (λ (i : Inst). i.op) (sym c.inst.ensures) ∙ c.in-62.is) }

-- any other opcode
other_op : (c : goal.After-run_result-arg-1) → IsOther c.inst.result.now.op
other_op c =
    elim c.in_default.branch [
      | in_default-via-then-inst-lt245 w ↦ is_other c.inst.result.now.op (λ is. omega (arith, is)) (λ is. omega (arith, is)) (λ is. omega (arith, is)) (λ is. omega (arith, is)) (λ is. omega (arith, is)) (λ is. omega (arith, is)) (λ is. omega (arith, is)) (λ is. omega (arith, is)) (λ is. omega (arith, is)) (λ is. omega (arith, is)) (λ is. omega (arith, is))
      | in_default-via-else-inst-lt245+else-inst-lt248+else-inst-lt252 w ↦ is_other c.inst.result.now.op (λ is. omega (arith, is)) (λ is. omega (arith, is)) (λ is. omega (arith, is)) (λ is. omega (arith, is)) (λ is. omega (arith, is)) (λ is. omega (arith, is)) (λ is. omega (arith, is)) (λ is. omega (arith, is)) (λ is. omega (arith, is)) (λ is. omega (arith, is)) (λ is. omega (arith, is))
    ]

pub run_result-requires-clause-gives : goal.run_result-requires-clause-gives
run_result-requires-clause-gives c =
    result_some c.args.of.now c.args.at.now c.args.frame.now c.args.incoming.now c.args.memory.now c.requires.stands
    (subst IsOther (ap (λ (i : Inst). i.op) c.inst.ensures) (other_op c))

pub run_result-requires-clause-is : goal.run_result-requires-clause-is
run_result-requires-clause-is c =
    result_given c.args.of.now c.args.at.now c.args.frame.now c.args.incoming.now c.args.memory.now c.requires.stands
    (subst IsOther (ap (λ (i : Inst). i.op) c.inst.ensures) (other_op c))

pub returns-in-248-clause-steps : goal.returns-in-248-clause-steps
returns-in-248-clause-steps c = λ m s.
    label_arm c.args.of.now m c.args.at.now c.enter.new.at c.args.frame.now c.args.incoming.now c.args.memory.now c.enter.new.incoming s (ap (λ (i : Inst). i.op) (sym c.inst.ensures) ∙ c.in-248.is) c.enter.ensures.stands c.enter.auto.incoming
    c.enter.ensures.taken

pub returns-in-245-clause-steps : goal.returns-in-245-clause-steps
returns-in-245-clause-steps c = λ m s.
    phi_arm c.args.of.now m c.args.at.now c.args.frame.now c.args.incoming.now c.args.memory.now c.run_phi.new.frame s (ap (λ (i : Inst). i.op) (sym c.inst.ensures) ∙ c.in-245.is) c.run_phi.ensures

pub returns-in-62-clause-steps : goal.returns-in-62-clause-steps
returns-in-62-clause-steps c = λ m s.
    store_arm c.args.of.now m c.args.at.now c.args.frame.now c.args.incoming.now c.args.memory.now c.run_store.new.memory s (ap (λ (i : Inst). i.op) (sym c.inst.ensures) ∙ c.in-62.is) c.run_store.ensures

pub returns-in-253-clause-steps : goal.returns-in-253-clause-steps
returns-in-253-clause-steps c = λ m s. return_arm c.args.of.now m c.args.at.now c.args.frame.now c.args.incoming.now c.args.memory.now s (ap (λ (i : Inst). i.op) (sym c.inst.ensures) ∙ c.in-253.is)

pub returns-in-255-clause-steps : goal.returns-in-255-clause-steps
returns-in-255-clause-steps c = λ m s. unreachable_arm c.args.of.now m c.args.at.now c.args.frame.now c.args.incoming.now c.args.memory.now s (ap (λ (i : Inst). i.op) (sym c.inst.ensures) ∙ c.in-255.is)

pub returns-in-252-clause-steps : goal.returns-in-252-clause-steps
returns-in-252-clause-steps c = λ m s. kill_arm c.args.of.now m c.args.at.now c.args.frame.now c.args.incoming.now c.args.memory.now s (ap (λ (i : Inst). i.op) (sym c.inst.ensures) ∙ c.in-252.is)

pub returns-in-247-clause-steps : goal.returns-in-247-clause-steps
returns-in-247-clause-steps c = λ m s.
    let e : (inst_at c.args.of.now.insts c.args.at.now.place).op ≡ c.inst.result.now.op = ap (λ (i : Inst). i.op) (sym c.inst.ensures) in
    elim (two_ops (inst_at c.args.of.now.insts c.args.at.now.place).op (omega (arith, e)) (omega (arith, e))) [
      | inl is ↦ loop_arm c.args.of.now m c.args.at.now c.args.frame.now c.args.incoming.now c.args.memory.now s is
      | inr is ↦ selection_arm c.args.of.now m c.args.at.now c.args.frame.now c.args.incoming.now c.args.memory.now s is
    ]

pub returns-in-249-clause-steps : goal.returns-in-249-clause-steps
returns-in-249-clause-steps c = λ m s.
    let e : (inst_at c.args.of.now.insts c.args.at.now.place).op ≡ c.inst.result.now.op = ap (λ (i : Inst). i.op) (sym c.inst.ensures) in
    branch_arm c.args.of.now m c.args.at.now c.branch-of.new.at c.args.frame.now c.args.incoming.now c.args.memory.now c.branch-of.result s
    (three_ops (inst_at c.args.of.now.insts c.args.at.now.place).op (omega (arith, e)) (omega (arith, e))) c.branch-of.ensures.jumps c.branch-of.ensures.few

pub returns-in_default-clause-steps : goal.returns-in_default-clause-steps
returns-in_default-clause-steps c = λ m s.
    result_arm c.args.of.now m c.args.at.now c.args.frame.now c.args.incoming.now c.args.memory.now c.run_result.new.frame s
    (subst IsOther (ap (λ (i : Inst). i.op) c.inst.ensures) (
    elim c.in_default.branch [
      | in_default-via-then-inst-lt245 w ↦ is_other c.inst.result.now.op (λ is. omega (arith, is)) (λ is. omega (arith, is)) (λ is. omega (arith, is)) (λ is. omega (arith, is)) (λ is. omega (arith, is)) (λ is. omega (arith, is)) (λ is. omega (arith, is)) (λ is. omega (arith, is)) (λ is. omega (arith, is)) (λ is. omega (arith, is)) (λ is. omega (arith, is))
      | in_default-via-else-inst-lt245+else-inst-lt248+else-inst-lt252 w ↦ is_other c.inst.result.now.op (λ is. omega (arith, is)) (λ is. omega (arith, is)) (λ is. omega (arith, is)) (λ is. omega (arith, is)) (λ is. omega (arith, is)) (λ is. omega (arith, is)) (λ is. omega (arith, is)) (λ is. omega (arith, is)) (λ is. omega (arith, is)) (λ is. omega (arith, is)) (λ is. omega (arith, is))
    ])) c.run_result.ensures
