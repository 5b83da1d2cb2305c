-- The fault of a whole list is so: without one it derives.
use Rattle.std.proofs.Common.{◌≡◌, ◌≢◌, ℕ, ◌+◌, ◌<◌, ◌≤◌, ◌==◌, Bool, true, false, if◌then◌else◌, List, [], ◌∷◌, length, take, drop, Option, None, Some, Result, Ok, Err, refl, subst, sym, arith}
use Rattle.std.specs.Prelude.{All, IsTrue, slice_get}
use Rattle.std.proofs.lemmas.Bool.{eqb-true, eqb-false}
use Rattle.std.proofs.lemmas.List.Elements.{All-nil, All-more}
use Rattle.std.proofs.lemmas.Option.{get_or_from_slice_get}
use Rattle.spirv_model.specs.declared.module.Inst.{Inst}
use Rattle.spirv_model.specs.declared.op.TheConstants.{FUNCTION, FUNCTION_END}
use Rattle.body_model.specs.declared.fault.TreeFault.{TreeFault}
use Rattle.body_model.specs.declared.fault.TreeFault.TheVariants.{BadBlock}
use Rattle.body_model.specs.Classes.{is_module_level}
use Rattle.body_model.specs.Scope.{main}
use Rattle.body_model.specs.Grammar.{IsOp, Begins, Derives}
use Rattle.body_model.specs.Faults.{LeavesModuleLevel, EndsAt, HasFault, no_function, no_function_end, behind_function_end, first_block}
use Rattle.body_model.specs.Reading.{Read, read_blocks, closing, fault_behind, fault_from, tree_fault}
use Rattle.body_model.proofs.Fronts.{front, nothing_at}
use Rattle.body_model.proofs.NextLabels.{unlabelled}
use Rattle.body_model.proofs.ReadSequences.{IsRead, reads_blocks}

abbrev pub IsLevel : List Inst → Type 0
IsLevel insts = All (λ (inst : Inst). IsTrue (is_module_level inst.op)) insts

record Judges (insts : List Inst) (answer : Option TreeFault) : Type 0 where
  pub none : answer ≡ None → Derives insts
  pub some : (fault : TreeFault) → answer ≡ Some fault → HasFault insts fault

same_fault : (x y : TreeFault) → ◌≡◌ {A = Option TreeFault} (Some x) (Some y) → x ≡ y
same_fault x y is = cc

faulty : (insts : List Inst) (fault : TreeFault) → HasFault insts fault → Judges insts (Some fault)
faulty insts fault is = record { none = λ same. cc; some = λ other same. subst (HasFault insts) (same_fault fault other same) is }

-- ---- behind the function's sequence

closed : (insts : List Inst) (place : ℕ) (inst : Inst) (last : Bool) → EndsAt insts place → slice_get insts place ≡ Some inst → length insts ≡ place + 1 → inst.op == FUNCTION_END ≡ last
    → Judges insts (if last then None else Some (BadBlock place))
closed insts place inst true ends index long is = record {
  none = λ same. record {
    before = ends.before;
    after = place;
    begins = ends.begins;
    sequence = ends.sequence;
    function_end = subst (IsOp FUNCTION_END) (sym index) (eqb-true inst.op FUNCTION_END is);
    last = long;
  };
  some = λ fault same. cc;
}
closed insts place inst false ends index long is = faulty insts (BadBlock place) (no_function_end place ends (λ op. eqb-false inst.op FUNCTION_END is (subst (IsOp FUNCTION_END) index op)))

followed : (insts : List Inst) (place : ℕ) (inst : Inst) (last : Bool) → EndsAt insts place → slice_get insts place ≡ Some inst → place + 1 < length insts → inst.op == FUNCTION_END ≡ last
    → Judges insts (Some (BadBlock (if last then place + 1 else place)))
followed insts place inst true ends index long is =
    faulty insts (BadBlock (place + 1)) (behind_function_end place ends (subst (IsOp FUNCTION_END) (sym index) (eqb-true inst.op FUNCTION_END is)) long)
followed insts place inst false ends index long is =
    faulty insts (BadBlock place) (no_function_end place ends (λ op. eqb-false inst.op FUNCTION_END is (subst (IsOp FUNCTION_END) index op)))

judges_closing : (insts : List Inst) (place : ℕ) (rest : List Inst) → EndsAt insts place → drop place insts ≡ rest → Judges insts (closing rest place)
judges_closing insts place [] ends is = faulty insts (BadBlock place) (no_function_end place ends (λ op. subst (IsOp FUNCTION_END) (nothing_at insts place is) op))
judges_closing insts place (inst ∷ []) ends is =
    let at = front insts place inst [] is in closed insts place inst (inst.op == FUNCTION_END) ends at.index (omega (arith, at.long)) refl
judges_closing insts place (inst ∷ next ∷ rest) ends is =
    let at = front insts place inst (next ∷ rest) is in followed insts place inst (inst.op == FUNCTION_END) ends at.index (omega (arith, at.long)) refl

judges_behind : (insts : List Inst) (before : ℕ) (answer : Result Read TreeFault) → Begins insts before → IsRead insts main None (before + 1) answer → Judges insts (fault_behind insts answer)
judges_behind insts before (Err fault) begins reads = faulty insts fault (reads.bad fault refl (first_block before begins refl))
judges_behind insts before (Ok read) begins reads =
    judges_closing insts read.after (drop read.after insts) (record { before = before; begins = begins; sequence = unlabelled insts main refl (reads.good read refl) }) refl

-- ---- before the function

pub level_more : (insts : List Inst) (place : ℕ) (inst : Inst) → slice_get insts place ≡ Some inst → place < length insts → IsTrue (is_module_level inst.op) → IsLevel (take place insts) → IsLevel (take (place + 1) insts)
level_more insts place inst index within is level =
    All-more (λ (i : Inst). IsTrue (is_module_level i.op)) insts place inst within level (subst (λ (i : Inst). IsTrue (is_module_level i.op)) (sym (get_or_from_slice_get insts place inst inst index)) is)

left : (insts : List Inst) (place : ℕ) (inst : Inst) → IsLevel (take place insts) → place ≤ length insts → slice_get insts place ≡ Some inst → inst.op ≢ FUNCTION → is_module_level inst.op ≡ false
    → HasFault insts (BadBlock place)
left insts place inst level within index other isnt = no_function place level within (subst LeavesModuleLevel (sym index) (other, isnt))

judges_at : (insts : List Inst) (place : ℕ) (inst : Inst) (function level : Bool) (answer : Option TreeFault) → IsLevel (take place insts) → place < length insts → slice_get insts place ≡ Some inst
    → inst.op == FUNCTION ≡ function → is_module_level inst.op ≡ level → (IsLevel (take (place + 1) insts) → Judges insts answer)
    → Judges insts (if function then fault_behind insts (read_blocks (length insts) insts main None (place + 1)) else if level then answer else Some (BadBlock place))
judges_at insts place inst true level answer before within index is is_level more =
    judges_behind insts place _ (record { module_level = before; function = subst (IsOp FUNCTION) (sym index) (eqb-true inst.op FUNCTION is) })
    (reads_blocks (length insts) insts main None (place + 1) (omega arith))
judges_at insts place inst false true answer before within index is is_level more = more (level_more insts place inst index within is_level before)
judges_at insts place inst false false answer before within index is is_level more =
    faulty insts (BadBlock place) (left insts place inst before (omega arith) index (eqb-false inst.op FUNCTION is) is_level)

judges_from : (insts rest : List Inst) (place : ℕ) → drop place insts ≡ rest → place ≤ length insts → IsLevel (take place insts) → Judges insts (fault_from insts rest place)
judges_from insts [] place is within level = faulty insts (BadBlock place) (no_function place level within (subst LeavesModuleLevel (sym (nothing_at insts place is)) tt))
judges_from insts (inst ∷ rest) place is within level =
    let at = front insts place inst rest is in
    judges_at insts place inst (inst.op == FUNCTION) (is_module_level inst.op) (fault_from insts rest (place + 1)) level (omega (arith, at.long)) at.index refl refl
    (judges_from insts rest (place + 1) at.behind (omega (arith, at.long)))

judges : (insts : List Inst) → Judges insts (tree_fault insts)
unfolding tree_fault
judges insts = judges_from insts insts 0 refl (omega arith) (All-nil (λ (i : Inst). IsTrue (is_module_level i.op)))

pub derives_without_fault : (insts : List Inst) → tree_fault insts ≡ None → Derives insts
derives_without_fault insts is = (judges insts).none is

pub faulty_with_fault : (insts : List Inst) (fault : TreeFault) → tree_fault insts ≡ Some fault → HasFault insts fault
faulty_with_fault insts fault is = (judges insts).some fault is
