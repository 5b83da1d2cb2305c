-- A block that opens an OpSwitch has it as its last instruction.
use Rattle.std.proofs.Common.{◌≡◌, ℕ, suc, ◌+◌, ◌-◌, Bool, true, false, not, ◌==◌, ◌||◌, ◌&&◌, if◌then◌else◌, nat_le, List, [], ◌∷◌, drop, Option, None, Some, refl, ap, subst, ◌∙◌, arith}
use Rattle.std.specs.Prelude.{slice_get, slice_index}
use Rattle.std.proofs.lemmas.Bool.{eqb-true}
use Rattle.limits.specs.declared.TheConstants.{NESTING}
use Rattle.spirv_model.specs.declared.module.Inst.{Inst}
use Rattle.spirv_model.specs.declared.op.TheConstants.{PHI, VARIABLE, LOOP_MERGE, SELECTION_MERGE, BRANCH, BRANCH_CONDITIONAL, SWITCH, KILL, RETURN, UNREACHABLE}
use Rattle.body_model.specs.declared.scope.End.{End}
use Rattle.body_model.specs.declared.block_end.BlockEnd.{BlockEnd}
use Rattle.body_model.specs.declared.block_end.SwitchHead.{SwitchHead}
use Rattle.body_model.specs.declared.block_end.BlockEnd.TheVariants.{Broken, Ends, GoesOn, Selects, Picks, Loops}
use Rattle.body_model.specs.Classes.{is_plain, is_terminator}
use Rattle.body_model.specs.Scope.{Scope}
use Rattle.body_model.specs.Switches.{is_among, repeat, literals_of}
use Rattle.body_model.specs.Grammar.{IsOp}
use Rattle.body_model.proofs.Slices.{slice_get-drop}
use Rattle.body_model.specs.Blocks.{begins_with, leads_to_loop, may_have_phis, exit_to, branch_end, branch, test_end, invocation_end, terminator_end, unmerged, switch_head, selection_end, loop_branch, last_part, rest_of_block, block_from, block_end}

-- an OpSwitch among these instructions, the first of which stands at a place, is the last of the block that ends so
abbrev LastSwitch : List Inst → ℕ → BlockEnd → Type 0
LastSwitch insts place (Picks head) = (n : ℕ) × (head.after ≡ place + n + 1) × IsOp SWITCH (slice_get insts n)
LastSwitch insts place end = Unit {0}

record Is (insts : List Inst) (place : ℕ) (end : BlockEnd) : Type 0 where
  is : LastSwitch insts place end

by_test : {insts : List Inst} {place : ℕ} {x y : BlockEnd} (b : Bool) → (b ≡ true → Is insts place x) → (b ≡ false → Is insts place y) → Is insts place (if b then x else y)
by_test true is isnt = is refl
by_test false is isnt = isnt refl

of_if : {insts : List Inst} {place : ℕ} {x y : BlockEnd} (b : Bool) → Is insts place x → Is insts place y → Is insts place (if b then x else y)
of_if true is isnt = is
of_if false is isnt = isnt

of_exit : (insts : List Inst) (place at : ℕ) (exit : Option End) (stands : Bool) → Is insts place (branch_end exit stands at)
of_exit insts place at (Some end) stands = record { is = tt }
of_exit insts place at None true = record { is = tt }
of_exit insts place at None false = record { is = tt }

of_branch : (insts : List Inst) (place : ℕ) (scope : Scope) (label : ℕ) (rest : List Inst) (at : ℕ) → Is insts place (branch scope label rest at)
of_branch insts place scope label rest at = of_if (is_among label scope.barred) (record { is = tt }) (of_exit insts place at (exit_to scope label) (begins_with label rest))

of_test : (insts : List Inst) (place : ℕ) (test : Option ℕ) (cond on_true on_false at : ℕ) → Is insts place (test_end test cond on_true on_false at)
of_test insts place None cond on_true on_false at = record { is = tt }
of_test insts place (Some merge) cond on_true on_false at =
    of_if (on_true == on_false) (record { is = tt }) (of_if (on_false == merge) (record { is = tt }) (of_if (on_true == merge) (record { is = tt }) (record { is = tt })))

of_end : (insts : List Inst) (place : ℕ) (may_end : Bool) (end : End) (at : ℕ) → Is insts place (invocation_end may_end end at)
of_end insts place may_end end at = of_if may_end (record { is = tt }) (record { is = tt })

of_terminator : (insts : List Inst) (place : ℕ) (scope : Scope) (inst : Inst) (rest : List Inst) (at : ℕ) → Is insts place (terminator_end scope inst rest at)
of_terminator insts place scope inst rest at =
    of_if (inst.op == BRANCH) (of_branch insts place scope (slice_index inst.words 0) rest at)
    (of_if (inst.op == BRANCH_CONDITIONAL) (of_test insts place scope.test (slice_index inst.words 0) (slice_index inst.words 1) (slice_index inst.words 2) at)
    (of_if (inst.op == SWITCH) (record { is = tt })
    (of_if ((inst.op == RETURN) || (inst.op == UNREACHABLE)) (of_end insts place scope.may_end _ at) (of_if (inst.op == KILL) (of_end insts place scope.may_end _ at) (record { is = tt })))))

of_unmerged : (insts : List Inst) (place : ℕ) (scope : Scope) (rest : List Inst) (at : ℕ) → Is insts place (unmerged scope rest at)
of_unmerged insts place scope [] at = of_if (nat_le NESTING scope.depth) (record { is = tt }) (record { is = tt })
of_unmerged insts place scope (inst ∷ rest) at =
    of_if (is_terminator inst.op) (record { is = tt }) (of_if (nat_le NESTING scope.depth) (record { is = tt }) (record { is = tt }))

of_switch : (merge second : Inst) (rest : List Inst) (scope : Scope) (label : ℕ) (words : List ℕ) (place : ℕ) → second.op ≡ SWITCH → Is (merge ∷ second ∷ rest) place (switch_head scope label words place)
of_switch merge second rest scope label words place is =
    of_if (nat_le NESTING scope.depth) (record { is = tt }) (of_if (repeat (literals_of words)) (record { is = tt }) (record { is = (1, omega arith, is) }))

of_selection : (merge : Inst) (rest : List Inst) (scope : Scope) (label place : ℕ) → Is (merge ∷ rest) place (selection_end scope label rest place)
of_selection merge [] scope label place = of_unmerged (merge ∷ []) place scope [] place
of_selection merge (second ∷ rest) scope label place =
    of_if (second.op == BRANCH_CONDITIONAL)
    (of_if (nat_le NESTING scope.depth) (record { is = tt }) (of_if ((slice_index second.words 1 == slice_index second.words 2) && not (slice_index second.words 1 == label)) (record { is = tt }) (record { is = tt })))
    (by_test (second.op == SWITCH) (λ is. of_switch merge second rest scope label second.words place (eqb-true second.op SWITCH is)) (λ isnt. of_unmerged (merge ∷ second ∷ rest) place scope (second ∷ rest) place))

of_loop : (insts : List Inst) (place : ℕ) (scope : Scope) (header : ℕ) (words : List ℕ) (rest : List Inst) (at : ℕ) → Is insts place (loop_branch scope header words rest at)
of_loop insts place scope header words [] at = of_unmerged insts place scope [] at
of_loop insts place scope header words (inst ∷ rest) at =
    of_if (inst.op == BRANCH)
    (of_if (nat_le NESTING scope.depth) (record { is = tt }) (of_if (is_among (slice_index inst.words 0) scope.barred) (record { is = tt }) (record { is = tt })))
    (of_unmerged insts place scope (inst ∷ rest) at)

of_last : (scope : Scope) (label : ℕ) (inst : Inst) (rest : List Inst) (place : ℕ) → Is (inst ∷ rest) place (last_part scope label inst rest place)
unfolding last_part
of_last scope label inst rest place =
    of_if (inst.op == SELECTION_MERGE) (of_selection inst rest scope (slice_index inst.words 0) place)
    (of_if (inst.op == LOOP_MERGE) (of_if scope.may_loop (of_loop (inst ∷ rest) place scope label inst.words rest place) (record { is = tt })) (of_terminator (inst ∷ rest) place scope inst rest place))

further : (inst : Inst) (rest : List Inst) (place : ℕ) (end : BlockEnd) → LastSwitch rest (place + 1) end → LastSwitch (inst ∷ rest) place end
further inst rest place (Broken fault) is = tt
further inst rest place (Ends last) is = tt
further inst rest place (GoesOn after) is = tt
further inst rest place (Selects head) is = tt
further inst rest place (Picks head) is = (suc is.0, omega (arith, is.1), is.2)
further inst rest place (Loops head) is = tt

later : (inst : Inst) (rest : List Inst) (place : ℕ) (end : BlockEnd) → Is rest (place + 1) end → Is (inst ∷ rest) place end
later inst rest place end last = record { is = further inst rest place end last.is }

of_rest : (scope : Scope) (label : ℕ) (phis variables : Bool) (rest : List Inst) (place : ℕ) → Is rest place (rest_of_block scope label phis variables rest place)
of_rest scope label phis variables [] place = record { is = tt }
of_rest scope label phis variables (inst ∷ rest) place =
    of_if (inst.op == PHI) (of_if phis (later inst rest place _ (of_rest scope label phis false rest (place + 1))) (record { is = tt }))
    (of_if (inst.op == VARIABLE) (of_if variables (later inst rest place _ (of_rest scope label false variables rest (place + 1))) (record { is = tt }))
    (of_if (is_plain inst.op) (later inst rest place _ (of_rest scope label false false rest (place + 1))) (of_last scope label inst rest place)))

of_block : (scope : Scope) (block : List Inst) (place : ℕ) → Is block place (block_from scope block place)
of_block scope [] place = record { is = tt }
of_block scope (inst ∷ rest) place =
    later inst rest place _ (of_rest scope (slice_index inst.words 0) (may_have_phis scope.phis (leads_to_loop rest)) scope.first rest (place + 1))

pub last_switch : (insts : List Inst) (scope : Scope) (place : ℕ) (head : SwitchHead) → block_end insts scope place ≡ Picks head → IsOp SWITCH (slice_get insts (head.after - 1))
unfolding block_end
last_switch insts scope place head is =
    let last = subst (LastSwitch (drop place insts) place) is (of_block scope (drop place insts) place).is in
    let at : place + last.0 ≡ head.after - 1 = omega (arith, last.1) in
    subst (IsOp SWITCH) (slice_get-drop place last.0 insts ∙ ap (slice_get insts) at) last.2
