-- Each list derives or has a fault, never both, and the fault is one: `tree_fault` computes it.
use Rattle.std.proofs.Common.{◌≡◌, ℕ, ◌+◌, ◌<◌, Bool, if◌then◌else◌, List, [], ◌∷◌, length, drop, Option, None, Some, Result, Ok, ◌⊎◌, inl, inr, refl, ap, subst, sym, ◌∙◌, arith}
use Rattle.std.specs.Prelude.{slice_get}
use Rattle.std.proofs.lemmas.Bool.{eq-eqb, ne_eqb}
use Rattle.spirv_model.specs.declared.module.Inst.{Inst}
use Rattle.spirv_model.specs.declared.op.TheConstants.{FUNCTION_END}
use Rattle.body_model.specs.declared.fault.TreeFault.{TreeFault}
use Rattle.body_model.specs.declared.fault.TreeFault.TheVariants.{BadBlock}
use Rattle.body_model.specs.Scope.{main, Scope}
use Rattle.body_model.specs.Grammar.{Sequence, IsOp, Derives}
use Rattle.body_model.specs.Faults.{EndsAt, HasFault, no_function, no_block, no_arm, broken_block, no_function_end, behind_function_end}
use Rattle.body_model.specs.Reading.{Read, read_blocks, closing, fault_behind, tree_fault}
use Rattle.body_model.proofs.Fronts.{front, front_is}
use Rattle.body_model.proofs.WholeReads.{whole}
use Rattle.body_model.proofs.ModuleReads.{derives_without_fault, faulty_with_fault}
use Rattle.body_model.proofs.ModuleLevels.{fault_of_function, fault_before_function}
use Rattle.body_model.proofs.FaultReads.{missing_found, broken_found, no_arm_found}

-- ---- behind the function's sequence

behind_sequence : (insts : List Inst) (place : ℕ) → EndsAt insts place → tree_fault insts ≡ closing (drop place insts) place
behind_sequence insts place ends =
    fault_of_function insts ends.before ends.begins
    ∙ ap (fault_behind insts) {x = read_blocks (length insts) insts main None (ends.before + 1)} (whole insts ends.sequence (length insts) (omega arith))

closes : (insts rest : List Inst) (place : ℕ) → drop place insts ≡ rest → IsOp FUNCTION_END (slice_get rest 0) → length insts ≡ place + 1 → closing rest place ≡ None
closes insts [] place is end last = absurd end
closes insts (inst ∷ []) place is end last = ap (λ (b : Bool). if b then None else Some (BadBlock place)) (eq-eqb inst.op FUNCTION_END end)
closes insts (inst ∷ next ∷ rest) place is end last = absurd (omega (arith, (front insts place inst (next ∷ rest) is).long))

ends_open : (rest : List Inst) (place : ℕ) → (IsOp FUNCTION_END (slice_get rest 0) → ⊥) → closing rest place ≡ Some (BadBlock place)
ends_open [] place other = refl
ends_open (inst ∷ []) place other = ap (λ (b : Bool). if b then None else Some (BadBlock place)) (ne_eqb inst.op FUNCTION_END other)
ends_open (inst ∷ next ∷ rest) place other = ap (λ (b : Bool). Some (BadBlock (if b then place + 1 else place))) (ne_eqb inst.op FUNCTION_END other)

goes_further : (insts rest : List Inst) (place : ℕ) → drop place insts ≡ rest → IsOp FUNCTION_END (slice_get rest 0) → place + 1 < length insts → closing rest place ≡ Some (BadBlock (place + 1))
goes_further insts [] place is end more = absurd end
goes_further insts (inst ∷ []) place is end more = absurd (omega (arith, (front insts place inst [] is).long))
goes_further insts (inst ∷ next ∷ rest) place is end more = ap (λ (b : Bool). Some (BadBlock (if b then place + 1 else place))) (eq-eqb inst.op FUNCTION_END end)

-- ---- the laws

-- what derives has no fault
pub no_fault : (insts : List Inst) → Derives insts → tree_fault insts ≡ None
no_fault insts d =
    behind_sequence insts d.after (record { before = d.before; begins = d.begins; sequence = d.sequence })
    ∙ closes insts (drop d.after insts) d.after refl (subst (IsOp FUNCTION_END) (front_is insts d.after) d.function_end) d.last

-- a fault of the list is the one that reading finds
pub is_fault : (insts : List Inst) (fault : TreeFault) → HasFault insts fault → tree_fault insts ≡ Some fault
is_fault insts fault (no_function place level within leaves) = fault_before_function insts place level within leaves
is_fault insts fault (no_block {scope = scope} {wanted = wanted} {place = place} reached none) = missing_found insts scope wanted place fault reached none
is_fault insts fault (no_arm {scope = scope} {wanted = wanted} {from = from} {place = place} {left = left} head reached here is arms some none) =
    no_arm_found insts scope wanted from place left head fault reached here is arms some none
is_fault insts fault (broken_block {scope = scope} {wanted = wanted} {place = place} reached here is) = broken_found insts scope wanted place fault reached here is
is_fault insts fault (no_function_end place ends other) =
    behind_sequence insts place ends ∙ ends_open (drop place insts) place (λ end. other (subst (IsOp FUNCTION_END) (sym (front_is insts place)) end))
is_fault insts fault (behind_function_end place ends end more) =
    behind_sequence insts place ends ∙ goes_further insts (drop place insts) place refl (subst (IsOp FUNCTION_END) (front_is insts place) end) more

by_fault : (insts : List Inst) (m : Option TreeFault) → tree_fault insts ≡ m → Derives insts ⊎ ((fault : TreeFault) × HasFault insts fault)
by_fault insts None is = inl (derives_without_fault insts is)
by_fault insts (Some fault) is = inr (fault, faulty_with_fault insts fault is)

pub derives_or_faulty : (insts : List Inst) → Derives insts ⊎ ((fault : TreeFault) × HasFault insts fault)
derives_or_faulty insts = by_fault insts (tree_fault insts) refl

apart : (m : Option TreeFault) (fault : TreeFault) → m ≡ None → m ≡ Some fault → ⊥
apart m fault none some = cc

pub not_both : (insts : List Inst) (fault : TreeFault) → Derives insts → HasFault insts fault → ⊥
not_both insts fault d has = apart (tree_fault insts) fault (no_fault insts d) (is_fault insts fault has)

same_some : (m : Option TreeFault) (x y : TreeFault) → m ≡ Some x → m ≡ Some y → x ≡ y
same_some m x y a b = cc

pub one_fault : (insts : List Inst) (fault other : TreeFault) → HasFault insts fault → HasFault insts other → fault ≡ other
one_fault insts fault other has has_other = same_some (tree_fault insts) fault other (is_fault insts fault has) (is_fault insts other has_other)

-- ---- sequences from one place

same_read : (x y : Read) (r : Result Read TreeFault) → r ≡ Ok x → r ≡ Ok y → x ≡ y
same_read x y r a b = cc

-- what a sequence reaches is one
pub one_end : (insts : List Inst) (scope : Scope) (wanted next next' : Option ℕ) (from to to' : ℕ) → Sequence insts scope wanted from to next → Sequence insts scope wanted from to' next' → (to ≡ to') × (next ≡ next')
one_end insts scope wanted next next' from to to' a b =
    let same = same_read (record { after = to; next = next }) (record { after = to'; next = next' }) (read_blocks (length insts) insts scope wanted from)
    (whole insts a (length insts) (omega arith)) (whole insts b (length insts) (omega arith)) in
    (ap (λ (r : Read). r.after) same, ap (λ (r : Read). r.next) same)
