-- Reading a module passes what stands at its level, and comes to its function.
use Rattle.std.proofs.Common.{◌≡◌, ℕ, zero, suc, ◌+◌, ◌<◌, ◌≤◌, Bool, true, false, ◌==◌, if◌then◌else◌, List, [], ◌∷◌, length, take, drop, Option, None, Some, refl, ap, sym, subst, ◌∙◌, ⊎_elim, arith}
use Rattle.std.specs.Prelude.{IsTrue, slice_get}
use Rattle.std.proofs.lemmas.Bool.{eq-eqb, ne_eqb, eqb-true, cases_lt}
use Rattle.std.proofs.lemmas.List.Elements.{All-head, All-tail}
use Rattle.std.proofs.lemmas.Option.{slice_get_past}
use Rattle.spirv_model.specs.declared.module.Inst.{Inst}
use Rattle.spirv_model.specs.declared.op.TheConstants.{FUNCTION}
use Rattle.body_model.specs.declared.fault.TreeFault.{TreeFault}
use Rattle.body_model.specs.declared.fault.TreeFault.TheVariants.{BadBlock}
use Rattle.body_model.specs.Classes.{is_module_level}
use Rattle.body_model.specs.Scope.{main}
use Rattle.body_model.specs.Grammar.{IsOp, Begins}
use Rattle.body_model.specs.Faults.{LeavesModuleLevel}
use Rattle.body_model.specs.Reading.{read_blocks, fault_behind, fault_from, tree_fault}
use Rattle.body_model.proofs.ClassFacts.{no_level_function}
use Rattle.body_model.proofs.Fronts.{front_is}
use Rattle.body_model.proofs.ModuleReads.{IsLevel}

-- no OpFunction stands at the module's level
pub no_function : (op : ℕ) (function : Bool) → op == FUNCTION ≡ function → IsTrue (is_module_level op) → function ≡ false
no_function op true is level =
    let e : false ≡ true = sym no_level_function ∙ subst (λ (n : ℕ). IsTrue (is_module_level n)) (eqb-true op FUNCTION is) level in cc
no_function op false is level = refl

abbrev at_first : List Inst → List Inst → ℕ → (function level : Bool) → Option TreeFault
at_first insts rest place function level =
    if function then fault_behind insts (read_blocks (length insts) insts main None (place + 1)) else if level then fault_from insts rest (place + 1) else Some (BadBlock place)

past_levels : (insts rest : List Inst) (n place : ℕ) → IsLevel (take n rest) → n ≤ length rest → fault_from insts rest place ≡ fault_from insts (drop n rest) (place + n)
past_levels insts rest zero place level within = ap (fault_from insts rest) {x = place} {y = place + 0} (omega arith)
past_levels insts [] (suc n) place level within = absurd (omega arith)
past_levels insts (inst ∷ rest) (suc n) place level within =
    let here = All-head (λ (i : Inst). IsTrue (is_module_level i.op)) inst (take n rest) level in
    ap (λ (b : Bool). at_first insts rest place b (is_module_level inst.op)) (no_function inst.op (inst.op == FUNCTION) refl here)
    ∙ ap (at_first insts rest place false) here
    ∙ past_levels insts rest n (place + 1) (All-tail (λ (i : Inst). IsTrue (is_module_level i.op)) inst (take n rest) level) (omega arith)
    ∙ ap (fault_from insts (drop n rest)) {x = place + 1 + n} {y = place + suc n} (omega arith)

fault_at : (insts : List Inst) (place : ℕ) → IsLevel (take place insts) → place ≤ length insts → tree_fault insts ≡ fault_from insts (drop place insts) place
unfolding tree_fault
fault_at insts place level within = past_levels insts insts place 0 level within ∙ ap (fault_from insts (drop place insts)) {x = 0 + place} {y = place} (omega arith)

begun : (insts rest : List Inst) (place : ℕ) → IsOp FUNCTION (slice_get rest 0) → fault_from insts rest place ≡ fault_behind insts (read_blocks (length insts) insts main None (place + 1))
begun insts [] place function = absurd function
begun insts (inst ∷ rest) place function = ap (λ (b : Bool). at_first insts rest place b (is_module_level inst.op)) (eq-eqb inst.op FUNCTION function)

pub within_list : (op : ℕ) (insts : List Inst) (place : ℕ) → IsOp op (slice_get insts place) → place < length insts
within_list op insts place is = ⊎_elim (λ within. within) (λ past. absurd (subst (IsOp op) (slice_get_past insts place past) is)) (cases_lt place (length insts))

lower : (a b : ℕ) → a < b → a ≤ b
lower a b less = omega arith

-- at OpFunction its sequence is read
pub fault_of_function : (insts : List Inst) (before : ℕ) → Begins insts before → tree_fault insts ≡ fault_behind insts (read_blocks (length insts) insts main None (before + 1))
fault_of_function insts before begins =
    fault_at insts before begins.module_level (lower before (length insts) (within_list FUNCTION insts before begins.function))
    ∙ begun insts (drop before insts) before (subst (IsOp FUNCTION) (front_is insts before) begins.function)

left : (insts rest : List Inst) (place : ℕ) → LeavesModuleLevel (slice_get rest 0) → fault_from insts rest place ≡ Some (BadBlock place)
left insts [] place leaves = refl
left insts (inst ∷ rest) place leaves = ap (λ (b : Bool). at_first insts rest place b (is_module_level inst.op)) (ne_eqb inst.op FUNCTION leaves.0) ∙ ap (at_first insts rest place false) leaves.1

-- what leaves the module's level and isn't OpFunction is the fault
pub fault_before_function : (insts : List Inst) (place : ℕ) → IsLevel (take place insts) → place ≤ length insts → LeavesModuleLevel (slice_get insts place) → tree_fault insts ≡ Some (BadBlock place)
fault_before_function insts place level within leaves = fault_at insts place level within ∙ left insts (drop place insts) place (subst LeavesModuleLevel (front_is insts place) leaves)
