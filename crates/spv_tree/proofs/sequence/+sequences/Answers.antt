use Rattle.std.proofs.Common.{rules, ℕ, ◌==◌, if◌then◌else◌, Some, Ok, refl, ap, subst, sym, ◌∙◌, arith}
use Rattle.std.proofs.lemmas.Result.{err_from_is_err_and}
use Rattle.std.specs.Ordering.{nat_cmp}
use Rattle.std.specs.BTreeMap.{get}
use Rattle.body_model.specs.Scope.{Scope, switch_arm}
use Rattle.body_model.specs.Switches.{cases_of, labels_of, without}
use Rattle.body_model.specs.Due.{only}
use Rattle.body_model.specs.Grammar.{straight}
use Rattle.body_model.proofs.Dues.{due_within}
use Rattle.body_model.specs.Faults.{broken_block}
use Rattle.body_model.proofs.Forward.{forward, arm_forward, arms_forward}
use Rattle.spv_tree.specs.declared.sequence.ReadSequence.{ReadSequence}
use Rattle.spv_tree.specs.Barred.{HasLabels, as_cases, barred_by, scope_in}
use Rattle.spv_tree.specs.Parts.{IsBlock, IsSequence}
use Rattle.spv_tree.proofs.ArmNumbers.{no_arms, one_more, some_left, all_read, none_numbered, is_none, is_some}
use Rattle.spv_tree.proofs.FaultReasons.{reason_for}
use Rattle.spv_tree.proofs.Fronts.{both, after_block, after_choice, after_pick, after_round, at_end, front_as, pushed_block, pushed_both}
use Rattle.spv_tree.proofs.Readings.{arm_read, arm_fails, first_arm_fails, second_arm_fails, test_fails, body_fails, step_fails, round_read, words_are, labels_are, pick_read, scope_of_arm, unlabelled, switch_arm_fails, no_arm_fails}
use Rattle.spv_tree.proofs.sequence.+sequences.Goals as goal

pub arm-returns-then-target-merge : goal.arm-returns-then-target-merge
arm-returns-then-target-merge t c = (straight c.if-target-merge.true refl, refl)

pub arm-returns-in_err-read : goal.arm-returns-in_err-read
arm-returns-in_err-read t c =
    let p = err_from_is_err_and c.from_residual.result c.from_residual.ensures.1 in
    let insts = c.args.insts.now in
    rw (p.1, p.2)
    (arm_fails insts (scope_in insts c.args.arms.now c.args.scope) (scope_in insts c.args.arms.now c.arm-scope.result) c.args.merge c.args.target c.args.place _ c.if-target-merge.false
    (c.arm-scope.ensures.is (barred_by insts c.args.arms.now)) c.in_err-read.ensures)

pub arm-returns : goal.arm-returns
arm-returns t c =
    let read = c.in_ok-read.read in
    let insts = c.args.insts.now in
    arm_read insts (scope_in insts c.args.arms.now c.args.scope) (scope_in insts c.args.arms.now c.arm-scope.result) c.args.merge c.args.target c.args.place read.place read.next read.run c.if-target-merge.false
    (c.arm-scope.ensures.is (barred_by insts c.args.arms.now)) c.in_ok-read.ensures

pub selection-returns-in_err-yes : goal.selection-returns-in_err-yes
selection-returns-in_err-yes t c =
    let p = err_from_is_err_and c.from_residual.result c.from_residual.ensures.1 in
    rw (p.1, p.2) (first_arm_fails c.args.insts.now (scope_in c.args.insts.now c.args.arms.now c.args.scope) c.args.head _ c.in_err-yes.ensures)

pub selection-returns-in_err-no : goal.selection-returns-in_err-no
selection-returns-in_err-no t c =
    let p = err_from_is_err_and c.from_residual-in_err-no.result c.from_residual-in_err-no.ensures.1 in
    rw (p.1, p.2) (second_arm_fails c.args.insts.now (scope_in c.args.insts.now c.args.arms.now c.args.scope) c.args.head c.in_ok-yes.yes.place _ c.in_ok-yes.ensures.0 c.in_err-no.ensures)

pub round-returns-in_err-test : goal.round-returns-in_err-test
round-returns-in_err-test t c =
    let p = err_from_is_err_and c.from_residual.result c.from_residual.ensures.1 in
    let insts = c.args.insts.now in
    let arms = c.args.arms.now in
    rw (p.1, p.2) (test_fails insts (scope_in insts arms c.args.scope) (scope_in insts arms c.condition-of_test.result) c.args.head _ (c.condition-of_test.ensures.is (barred_by insts arms)) c.in_err-test.ensures)

pub round-returns-in_err-inner : goal.round-returns-in_err-inner
round-returns-in_err-inner t c =
    let p = err_from_is_err_and c.from_residual-in_err-inner.result c.from_residual-in_err-inner.ensures.1 in
    let insts = c.args.insts.now in
    let arms = c.args.arms.now in
    let test = c.in_ok-test.test in
    rw (p.1, p.2)
    (body_fails insts (scope_in insts arms c.args.scope) (scope_in insts arms c.condition-of_test.result) (scope_in insts arms c.body-of_inner.result) c.args.head test.place test.next test.run _
    (c.condition-of_test.ensures.is (barred_by insts arms)) (c.body-of_inner.ensures.is (barred_by insts arms)) c.in_ok-test.ensures c.in_err-inner.ensures)

pub round-returns-in_err-step : goal.round-returns-in_err-step
round-returns-in_err-step t c =
    let p = err_from_is_err_and c.from_residual-in_err-step.result c.from_residual-in_err-step.ensures.1 in
    let insts = c.args.insts.now in
    let arms = c.args.arms.now in
    let test = c.in_ok-test.test in
    let inner = c.in_ok-inner.inner in
    rw (p.1, p.2)
    (step_fails insts (scope_in insts arms c.args.scope) (scope_in insts arms c.condition-of_test.result) (scope_in insts arms c.body-of_inner.result) (scope_in insts arms c.continuing-of_step.result) c.args.head
    test.place inner.place test.next inner.next test.run inner.run _
    (c.condition-of_test.ensures.is (barred_by insts arms)) (c.body-of_inner.ensures.is (barred_by insts arms)) (c.continuing-of_step.ensures.is (barred_by insts arms))
    c.in_ok-test.ensures c.in_ok-inner.ensures c.in_err-step.ensures)

pub round-returns : goal.round-returns
round-returns t c =
    let insts = c.args.insts.now in
    let arms = c.args.arms.now in
    let test = c.in_ok-test.test in
    let inner = c.in_ok-inner.inner in
    let step = c.in_ok-step.step in
    round_read insts (scope_in insts arms c.args.scope) (scope_in insts arms c.condition-of_test.result) (scope_in insts arms c.body-of_inner.result) (scope_in insts arms c.continuing-of_step.result) c.args.head
    test.place inner.place step.place test.next inner.next step.next test.run inner.run step.run _
    (c.condition-of_test.ensures.is (barred_by insts arms)) (c.body-of_inner.ensures.is (barred_by insts arms)) (c.continuing-of_step.ensures.is (barred_by insts arms))
    c.in_ok-test.ensures c.in_ok-inner.ensures c.in_ok-step.ensures (search rules)

pub sequence-returns-in-Broken : goal.sequence-returns-in-Broken
sequence-returns-in-Broken t c =
    let insts = c.args.insts.now in
    let so = c.loop-nodes in
    let block = subst (IsBlock insts (scope_in insts c.args.arms.now so.scope) so.wanted so.place) c.in-Broken.is c.in_ok-fault.ensures in
    reason_for _ insts c.in-Broken.fault (λ reached. broken_block (so.invariant.reached reached) block.here block.is)

pub sequence-returns-in-Ends : goal.sequence-returns-in-Ends
sequence-returns-in-Ends t c =
    let insts = c.args.insts.now in
    let so = c.loop-nodes in
    let scope = scope_in insts c.args.arms.now c.args.scope in
    let now = scope_in insts c.args.arms.now so.scope in
    let last = c.in-Ends.last in
    let block = subst (IsBlock insts now so.wanted so.place) c.in-Ends.is c.in_ok-fault.ensures in
    subst (λ (read : ReadSequence). IsSequence insts scope c.args.wanted c.args.place (Ok read)) (sym c.in_ok-ended-in-Ends.ensures)
    (at_end insts scope c.args.wanted c.args.place so.nodes now so.wanted so.place last _ so.invariant block.here block.is refl)

pub sequence-loop-nodes-preserved-in-GoesOn : goal.sequence-loop-nodes-preserved-in-GoesOn
sequence-loop-nodes-preserved-in-GoesOn t c =
    let insts = c.args.insts.now in
    let arms = c.args.arms.now in
    let so = c.loop-nodes in
    let now = scope_in insts arms so.scope in
    let after = c.in-GoesOn.after in
    let block = subst (IsBlock insts now so.wanted so.place) c.in-GoesOn.is c.in_ok-fault.ensures in
    front_as insts (scope_in insts arms c.args.scope) c.args.wanted c.args.place _ c.push.new.self _ (scope_in insts arms c.behind_block-scope.result) _ after
    (both insts (scope_in insts arms c.args.scope) c.args.wanted c.args.place so.nodes now so.wanted so.place _ _ _ after so.invariant (after_block insts now so.wanted so.place after block.here block.is))
    (pushed_block insts so.nodes c.push.new.self so.place after c.block.result c.in_ok-push-in-GoesOn.ensures.ok c.block.ensures) (c.behind_block-scope.ensures (barred_by insts arms))

pub sequence-loop-nodes-smaller-in-Selects : goal.sequence-loop-nodes-smaller-in-Selects
sequence-loop-nodes-smaller-in-Selects t c =
    let insts = c.args.insts.now in
    let so = c.loop-nodes in
    let block = subst (IsBlock insts (scope_in insts c.args.arms.now so.scope) so.wanted so.place) c.in-Selects.is c.in_ok-fault.ensures in
    let choice = c.in_ok-read-in-Selects.ensures in
    omega (arith, arm_forward insts choice.on_true, arm_forward insts choice.on_false, block.stands.forward, block.stands.within)

pub sequence-loop-nodes-preserved-in-Selects : goal.sequence-loop-nodes-preserved-in-Selects
sequence-loop-nodes-preserved-in-Selects t c =
    let insts = c.args.insts.now in
    let arms = c.args.arms.now in
    let so = c.loop-nodes in
    let now = scope_in insts arms so.scope in
    let head = c.in-Selects.head in
    let read = c.in_ok-read-in-Selects.read in
    let block = subst (IsBlock insts now so.wanted so.place) c.in-Selects.is c.in_ok-fault.ensures in
    front_as insts (scope_in insts arms c.args.scope) c.args.wanted c.args.place _ c.push-in-Selects-2.new.self _ (scope_in insts arms c.behind_selection-scope.result) _ read.place
    (both insts (scope_in insts arms c.args.scope) c.args.wanted c.args.place so.nodes now so.wanted so.place _ _ _ read.place so.invariant
    (after_choice insts now so.wanted so.place head read.place read.node block.stands.here block.stands.is c.in_ok-read-in-Selects.ensures))
    (pushed_both insts so.nodes c.push-in-Selects.new.self c.push-in-Selects-2.new.self read.node so.place head.after c.block-in-Selects.result
    c.in_ok-push-in-Selects.ensures.ok c.block-in-Selects.ensures c.in_ok-push-in-Selects-2.ensures.ok) (c.behind_selection-scope.ensures (barred_by insts arms))

pub sequence-loop-nodes-smaller-in-Picks : goal.sequence-loop-nodes-smaller-in-Picks
sequence-loop-nodes-smaller-in-Picks t c =
    let insts = c.args.insts.now in
    let so = c.loop-nodes in
    let block = subst (IsBlock insts (scope_in insts c.args.arms.now so.scope) so.wanted so.place) c.in-Picks.is c.in_ok-fault.ensures in
    omega (arith, arms_forward insts c.in_ok-read-in-Picks.ensures.arms, block.opens.stands.forward, block.opens.stands.within)

pub sequence-loop-nodes-preserved-in-Picks : goal.sequence-loop-nodes-preserved-in-Picks
sequence-loop-nodes-preserved-in-Picks t c =
    let insts = c.args.insts.now in
    let arms = c.args.arms.now in
    let so = c.loop-nodes in
    let now = scope_in insts arms so.scope in
    let head = c.in-Picks.head in
    let read = c.in_ok-read-in-Picks.read in
    let block = subst (IsBlock insts now so.wanted so.place) c.in-Picks.is c.in_ok-fault.ensures in
    front_as insts (scope_in insts arms c.args.scope) c.args.wanted c.args.place _ c.push-in-Picks-2.new.self _ (scope_in insts arms c.behind_selection-scope-in-Picks.result) _ read.place
    (both insts (scope_in insts arms c.args.scope) c.args.wanted c.args.place so.nodes now so.wanted so.place _ _ _ read.place so.invariant
    (after_pick insts now so.wanted so.place head read.place read.node block.opens.stands.here block.opens.stands.is c.in_ok-read-in-Picks.ensures))
    (pushed_both insts so.nodes c.push-in-Picks.new.self c.push-in-Picks-2.new.self read.node so.place head.after c.block-in-Picks.result
    c.in_ok-push-in-Picks.ensures.ok c.block-in-Picks.ensures c.in_ok-push-in-Picks-2.ensures.ok) (c.behind_selection-scope-in-Picks.ensures (barred_by insts arms))

pub sequence-loop-nodes-smaller : goal.sequence-loop-nodes-smaller
sequence-loop-nodes-smaller t c =
    let insts = c.args.insts.now in
    let so = c.loop-nodes in
    let block = subst (IsBlock insts (scope_in insts c.args.arms.now so.scope) so.wanted so.place) c.in-Loops.is c.in_ok-fault.ensures in
    let round = c.in_ok-read-in-Loops.ensures in
    let one = forward insts {scope = _} round.tested in
    let two = forward insts round.inside in
    let three = forward insts round.step in
    omega (arith, one.forward, two.forward, three.forward, block.stands.forward, block.stands.within)

pub sequence-loop-nodes-preserved : goal.sequence-loop-nodes-preserved
sequence-loop-nodes-preserved t c =
    let insts = c.args.insts.now in
    let arms = c.args.arms.now in
    let so = c.loop-nodes in
    let now = scope_in insts arms so.scope in
    let head = c.in-Loops.head in
    let read = c.in_ok-read-in-Loops.read in
    let block = subst (IsBlock insts now so.wanted so.place) c.in-Loops.is c.in_ok-fault.ensures in
    front_as insts (scope_in insts arms c.args.scope) c.args.wanted c.args.place _ c.push-in-Loops-2.new.self _ (scope_in insts arms c.behind_loop-scope.result) _ read.place
    (both insts (scope_in insts arms c.args.scope) c.args.wanted c.args.place so.nodes now so.wanted so.place _ _ _ read.place so.invariant
    (after_round insts now so.wanted so.place head read.place read.node block.stands.here block.stands.is c.in_ok-read-in-Loops.ensures))
    (pushed_both insts so.nodes c.push-in-Loops.new.self c.push-in-Loops-2.new.self read.node so.place head.after c.block-in-Loops.result
    c.in_ok-push-in-Loops.ensures.ok c.block-in-Loops.ensures c.in_ok-push-in-Loops-2.ensures.ok) (c.behind_loop-scope.ensures (barred_by insts arms))

pub switch-switch_arms-requires : goal.switch-switch_arms-requires
switch-switch_arms-requires t c =
    let insts = c.args.insts.now in
    let head = c.args.head in
    let inst = c.index-insts-after in
    let labels = subst (HasLabels c.in_ok-left.left)
    (labels_are insts head inst.result c.word.result c.as_slice-2.result.now (words_are insts head inst.result c.requires.last inst.is) c.word.ensures
    (ap as_cases c.as_slice-2.ensures.value ∙ c.in_ok-literals.ensures ∙ ap cases_of c.as_slice.ensures)) c.in_ok-left.ensures in
    (omega (arith, c.decreases, c.requires.open), (c.requires.few, (c.requires.known, (c.requires.switches, (c.requires.open, (c.requires.last, (c.requires.behind, labels)))))))

pub switch-returns : goal.switch-returns
switch-returns t c =
    let insts = c.args.insts.now in
    let head = c.args.head in
    let inst = c.index-insts-after in
    pick_read insts (scope_in insts c.args.arms.now c.args.scope) head c.in_ok-read.read inst.result c.as_slice-3.result.now c.in_ok-cases.cases c.copied-default.result _ c.in_ok-read.ensures
    (words_are insts head inst.result c.requires.last inst.is) (ap as_cases c.as_slice-3.ensures.value ∙ c.in_ok-literals.ensures ∙ ap cases_of c.as_slice.ensures)
    c.in_ok-cases.ensures (c.copied-default.ensures ∙ c.get.ensures.value) (search rules)

pub switch_arm-returns : goal.switch_arm-returns
switch_arm-returns t c =
    let insts = c.args.insts.now in
    let arms = c.args.arms.now in
    subst (λ (s : Scope). IsSequence insts s (Some c.args.label) c.args.place c.sequence.result)
    (scope_of_arm insts arms c.as_slice.result.now c.args.head c.args.label c.args.scope c.switch_arm-scope.result (c.as_slice.ensures.value ∙ c.in_ok-all.ensures) c.switch_arm-scope.ensures.is)
    c.sequence.ensures

pub switch_arms-loop-alloc-init : goal.switch_arms-loop-alloc-init
switch_arms-loop-alloc-init t c =
    no_arms c.args.insts.now (scope_in c.args.insts.now c.args.arms.now c.args.scope) c.args.head c.args.labels c.new-runs.result c.new-numbers.result c.requires.labels c.new-runs.ensures (none_numbered c.new-numbers.result c.new-numbers.ensures.empty)

pub switch_arms-returns-in_err-label : goal.switch_arms-returns-in_err-label
switch_arms-returns-in_err-label t c =
    let p = err_from_is_err_and c.from_residual.result c.from_residual.ensures.1 in
    let so = c.loop-alloc.invariant in
    rw (p.1, p.2)
    (no_arm_fails c.args.insts.now (scope_in c.args.insts.now c.args.arms.now c.args.scope) c.args.head so.left c.loop-alloc.place _ so.arms
    (some_left c.loop-alloc.left so.left so.left_are (is_some c.is_empty.result _ c.is_empty.ensures c.loop-alloc-test.true)) (c.in_err-label.ensures so.left so.left_are))

pub switch_arms-returns-in_err-read : goal.switch_arms-returns-in_err-read
switch_arms-returns-in_err-read t c =
    let p = err_from_is_err_and c.from_residual-in_err-read.result c.from_residual-in_err-read.ensures.1 in
    let so = c.loop-alloc.invariant in
    rw (p.1, p.2)
    (switch_arm_fails c.args.insts.now (scope_in c.args.insts.now c.args.arms.now c.args.scope) c.args.head so.left c.loop-alloc.place c.in_ok-label.label _ so.arms
    (c.in_ok-label.ensures so.left so.left_are) c.in_err-read.ensures)

pub switch_arms-overflow_cast-len : goal.switch_arms-overflow_cast-len
switch_arms-overflow_cast-len t c =
    let so = c.loop-alloc.invariant in
    let found = c.in_ok-label.ensures so.left so.left_are in
    omega (arith, so.room, c.len.ensures, due_within c.args.insts.now (only (Some c.in_ok-label.label)) c.loop-alloc.place found.here, c.requires.few)

pub switch_arms-loop-alloc-smaller : goal.switch_arms-loop-alloc-smaller
switch_arms-loop-alloc-smaller t c =
    let more = forward c.args.insts.now c.in_ok-read.ensures.0 in
    omega (arith, more.forward, more.within)

pub switch_arms-loop-alloc-preserved : goal.switch_arms-loop-alloc-preserved
switch_arms-loop-alloc-preserved t c =
    let insts = c.args.insts.now in
    let scope = scope_in insts c.args.arms.now c.args.scope in
    let so = c.loop-alloc in
    let label = c.in_ok-label.label in
    let read = c.in_ok-read.read in
    let found = c.in_ok-label.ensures so.invariant.left so.invariant.left_are in
    let run = unlabelled insts _ (switch_arm scope c.args.head.merge (without label (labels_of insts c.args.head))) (Some label) so.place read.place read.next read.run refl refl c.in_ok-read.ensures in
    one_more insts scope c.args.head so.left c.drop_label.new.labels so.runs c.push.new.self so.numbers c.add_number.new.numbers so.place read.place label read.run
    so.invariant found.among run.0 run.1 c.drop_label.ensures (λ x. c.in_ok-add_number.ensures x ∙ ap (λ (n : ℕ). if label == x then Some n else get nat_cmp so.numbers x) c.len.ensures) c.in_ok-push.ensures.ok

pub switch_arms-returns : goal.switch_arms-returns
switch_arms-returns t c =
    all_read c.args.insts.now (scope_in c.args.insts.now c.args.arms.now c.args.scope) c.args.head c.loop-alloc.left c.loop-alloc.runs c.loop-alloc.numbers c.loop-alloc.place c.loop-alloc.invariant (is_none c.is_empty.result _ c.is_empty.ensures c.loop-alloc-test.false)
