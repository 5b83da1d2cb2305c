-- Selections: which ids are visible, and the operands of phis and branches.
use Rattle.std.proofs.Common.{◌≡◌, ℕ, ◌+◌, List, [], ◌∷◌, ◌++◌, length, refl}
use Rattle.std.specs.Prelude.{None, Some, Option}
use Rattle.spirv_model.specs.declared.module.Inst.{Inst}
use Rattle.spirv_model.specs.declared.op.TheConstants as op
use Rattle.spirv_model.specs.Operands.{entry_of, class_of, kinds, result}
use Rattle.body_model.specs.Targets.{targets_by}
use Rattle.valid_model.specs.Definitions.{definition}
use Rattle.valid_model.specs.DecorationWords.{decoration_of}
use Rattle.valid_model.specs.Types.{type_of}
use Rattle.valid_model.specs.Meanings.{known_of, known_after, known_by}
use Rattle.valid_model.specs.ModuleFacts.{model_of, facts_of}
use Rattle.check_model.specs.declared.fault.CheckFault.{CheckFault}
use Rattle.check_model.specs.declared.fault.CheckFault.TheVariants.{NotVisible, OperandType}
use Rattle.check_model.specs.Intervals.{interval, is_visible}
use Rattle.check_model.specs.Branches.{blocks_of, predecessors, block_end_of}
use Rattle.check_model.specs.Visibility.{used_ids, names_predecessors, uses_at, not_visible}
use Rattle.check_model.specs.Typing.{constant_word, typing_of}
use Rattle.check_model.specs.ScalarOperands.{scalar_operands_fit}
use Rattle.check_model.specs.CompositeOperands.{composite_operands_fit}
use Rattle.check_model.specs.MemoryOperands.{memory_operands_fit}
use Rattle.check_model.specs.OperandTypes.{operands_fit}
use Rattle.check_model.specs.Storage.{is_in_function, is_wrong_storage}
use Rattle.check_model.specs.EntryPoints.{bad_entry_count}
use Rattle.check_model.specs.Interfaces.{not_flat, location_twice}
use Rattle.check_model.specs.Validity.{has_bad_operands, has_wrong_storage, use_fault_at, use_fault, list_fault}
use Rattle.check_model.proofs.Frames.{i, fragment, framed, whole}

abbrev constants : List Inst
constants =
    i op.TYPE_INT (13 ∷ 32 ∷ 1 ∷ [])
    ∷ i op.CONSTANT (13 ∷ 16 ∷ 7 ∷ [])
    ∷ []

-- a selection between two blocks, with labels 31 and 32, and what stands in its merge block, with label 30
abbrev chosen : ℕ → List Inst → List Inst → List Inst → List Inst
chosen cond first second merge =
    i op.SELECTION_MERGE (30 ∷ 0 ∷ []) ∷ i op.BRANCH_CONDITIONAL (cond ∷ 31 ∷ 32 ∷ [])
    ∷ i op.LABEL (31 ∷ []) ∷ (first ++ (i op.BRANCH (30 ∷ [])
    ∷ i op.LABEL (32 ∷ []) ∷ (second ++ (i op.BRANCH (30 ∷ []) ∷ i op.LABEL (30 ∷ []) ∷ merge))))

-- the function stands behind 15 instructions, and the first arm behind 19
abbrev selection : ℕ → List Inst → List Inst → List Inst → Option CheckFault
selection cond first second merge =
    list_fault (whole fragment constants (chosen cond first second merge) ∷ interval 19 (21 + length first) ∷ interval (21 + length first) (23 + length first + length second) ∷ [])
    (framed fragment constants (chosen cond first second merge))

abbrev sum : List Inst
sum = i op.I_ADD (3 ∷ 20 ∷ 6 ∷ 6 ∷ []) ∷ []

-- a phi names the blocks that branch to its own, each once; its values are visible at their ends, of its type and no pointers
pub phis :
    (selection 10 sum [] (i op.PHI (3 ∷ 21 ∷ 20 ∷ 31 ∷ 6 ∷ 32 ∷ []) ∷ []) ≡ None)
    × (selection 10 sum [] (i op.PHI (4 ∷ 21 ∷ 5 ∷ 31 ∷ 5 ∷ 32 ∷ []) ∷ []) ≡ Some (OperandType 25))
    × (selection 10 sum [] (i op.PHI (3 ∷ 21 ∷ 20 ∷ 31 ∷ 16 ∷ 32 ∷ []) ∷ []) ≡ Some (OperandType 25))
    × (selection 10 sum [] (i op.PHI (3 ∷ 21 ∷ 6 ∷ 31 ∷ 20 ∷ 32 ∷ []) ∷ []) ≡ Some (NotVisible 20))
    × (selection 10 sum [] (i op.PHI (3 ∷ 21 ∷ 20 ∷ 31 ∷ []) ∷ []) ≡ Some (NotVisible 21))
    × (selection 10 sum [] (i op.PHI (3 ∷ 21 ∷ 20 ∷ 31 ∷ 20 ∷ 31 ∷ []) ∷ []) ≡ Some (NotVisible 21))
unfolding targets_by entry_of class_of kinds result definition decoration_of type_of known_of known_after known_by model_of facts_of is_visible blocks_of predecessors block_end_of used_ids names_predecessors uses_at not_visible constant_word typing_of scalar_operands_fit composite_operands_fit memory_operands_fit operands_fit is_in_function is_wrong_storage has_bad_operands has_wrong_storage use_fault_at use_fault bad_entry_count not_flat location_twice list_fault
phis = (refl, refl, refl, refl, refl, refl)

-- what an arm defines is visible in the arm alone
pub arms :
    (selection 10 sum [] (i op.STORE (5 ∷ 20 ∷ []) ∷ []) ≡ Some (NotVisible 20))
    × (selection 10 sum (i op.STORE (5 ∷ 20 ∷ []) ∷ []) [] ≡ Some (NotVisible 20))
unfolding targets_by entry_of class_of kinds result definition decoration_of type_of known_of known_after known_by model_of facts_of is_visible blocks_of predecessors block_end_of used_ids names_predecessors uses_at not_visible constant_word typing_of scalar_operands_fit composite_operands_fit memory_operands_fit operands_fit is_in_function is_wrong_storage has_bad_operands has_wrong_storage use_fault_at use_fault bad_entry_count not_flat location_twice list_fault
arms = (refl, refl)

-- the condition of a branch is one truth value
pub conditions :
    (selection 6 sum [] [] ≡ Some (OperandType 18))
unfolding targets_by entry_of class_of kinds result definition decoration_of type_of known_of known_after known_by model_of facts_of is_visible blocks_of predecessors block_end_of used_ids names_predecessors uses_at not_visible constant_word typing_of scalar_operands_fit composite_operands_fit memory_operands_fit operands_fit is_in_function is_wrong_storage has_bad_operands has_wrong_storage use_fault_at use_fault bad_entry_count not_flat location_twice list_fault
conditions = refl
