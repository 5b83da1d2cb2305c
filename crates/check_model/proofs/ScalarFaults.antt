-- Operands of scalar operations, each alone in a function: the fault of the module.
use Rattle.std.proofs.Common.{◌≡◌, List, [], ◌∷◌, refl}
use Rattle.std.specs.Prelude.{None, Some}
use Rattle.spirv_model.specs.declared.module.Inst.{Inst}
use Rattle.spirv_model.specs.declared.op.TheConstants as op
use Rattle.spirv_model.specs.Operands.{entry_of, class_of, kinds, result}
use Rattle.valid_model.specs.Definitions.{definition}
use Rattle.valid_model.specs.DecorationWords.{decoration_of}
use Rattle.valid_model.specs.Types.{type_of}
use Rattle.valid_model.specs.Meanings.{known_of, known_after, known_by}
use Rattle.valid_model.specs.ModuleFacts.{model_of, facts_of}
use Rattle.check_model.specs.declared.fault.CheckFault.TheVariants.{OperandType}
use Rattle.check_model.specs.Intervals.{is_visible}
use Rattle.check_model.specs.Branches.{blocks_of, predecessors, block_end_of}
use Rattle.check_model.specs.Visibility.{used_ids, names_predecessors, uses_at, not_visible}
use Rattle.check_model.specs.Typing.{constant_word, typing_of}
use Rattle.check_model.specs.ScalarOperands.{scalar_operands_fit}
use Rattle.check_model.specs.CompositeOperands.{composite_operands_fit}
use Rattle.check_model.specs.MemoryOperands.{memory_operands_fit}
use Rattle.check_model.specs.OperandTypes.{operands_fit}
use Rattle.check_model.specs.Storage.{is_in_function, is_wrong_storage}
use Rattle.check_model.specs.EntryPoints.{bad_entry_count}
use Rattle.check_model.specs.Interfaces.{not_flat, location_twice}
use Rattle.check_model.specs.Validity.{has_bad_operands, has_wrong_storage, use_fault_at, use_fault, list_fault}
use Rattle.check_model.proofs.Frames.{i, straight}

abbrev scalars : List Inst
scalars =
    i op.TYPE_VECTOR (11 ∷ 3 ∷ 2 ∷ [])
    ∷ i op.TYPE_VECTOR (12 ∷ 9 ∷ 2 ∷ [])
    ∷ i op.TYPE_INT (13 ∷ 32 ∷ 1 ∷ [])
    ∷ i op.CONSTANT_COMPOSITE (11 ∷ 14 ∷ 6 ∷ 6 ∷ [])
    ∷ i op.CONSTANT_COMPOSITE (12 ∷ 15 ∷ 10 ∷ 10 ∷ [])
    ∷ i op.CONSTANT (13 ∷ 16 ∷ 7 ∷ [])
    ∷ []

-- integers of either signedness, with as many components
pub sums :
    (straight scalars (i op.I_ADD (3 ∷ 20 ∷ 6 ∷ 16 ∷ []) ∷ []) ≡ None)
    × (straight scalars (i op.I_ADD (3 ∷ 20 ∷ 6 ∷ 10 ∷ []) ∷ []) ≡ Some (OperandType 21))
    × (straight scalars (i op.I_ADD (3 ∷ 20 ∷ 14 ∷ 14 ∷ []) ∷ []) ≡ Some (OperandType 21))
unfolding entry_of class_of kinds result definition decoration_of type_of known_of known_after known_by model_of facts_of is_visible blocks_of predecessors block_end_of used_ids names_predecessors uses_at not_visible constant_word typing_of scalar_operands_fit composite_operands_fit memory_operands_fit operands_fit is_in_function is_wrong_storage has_bad_operands has_wrong_storage use_fault_at use_fault bad_entry_count not_flat location_twice list_fault
sums = (refl, refl, refl)

-- integers give truth values, with as many components
pub comparisons :
    (straight scalars (i op.U_LESS_THAN (9 ∷ 20 ∷ 14 ∷ 14 ∷ []) ∷ []) ≡ Some (OperandType 21))
    × (straight scalars (i op.U_LESS_THAN (9 ∷ 20 ∷ 10 ∷ 10 ∷ []) ∷ []) ≡ Some (OperandType 21))
unfolding entry_of class_of kinds result definition decoration_of type_of known_of known_after known_by model_of facts_of is_visible blocks_of predecessors block_end_of used_ids names_predecessors uses_at not_visible constant_word typing_of scalar_operands_fit composite_operands_fit memory_operands_fit operands_fit is_in_function is_wrong_storage has_bad_operands has_wrong_storage use_fault_at use_fault bad_entry_count not_flat location_twice list_fault
comparisons = (refl, refl)

-- truth values throughout; OpAny and OpAll take a vector
pub logic :
    (straight scalars (i op.LOGICAL_AND (9 ∷ 20 ∷ 6 ∷ 6 ∷ []) ∷ []) ≡ Some (OperandType 21))
    × (straight scalars (i op.LOGICAL_NOT (9 ∷ 20 ∷ 15 ∷ []) ∷ []) ≡ Some (OperandType 21))
    × (straight scalars (i op.ANY (9 ∷ 20 ∷ 15 ∷ []) ∷ []) ≡ None)
    × (straight scalars (i op.ANY (9 ∷ 20 ∷ 10 ∷ []) ∷ []) ≡ Some (OperandType 21))
    × (straight scalars (i op.ALL (9 ∷ 20 ∷ 14 ∷ []) ∷ []) ≡ Some (OperandType 21))
unfolding entry_of class_of kinds result definition decoration_of type_of known_of known_after known_by model_of facts_of is_visible blocks_of predecessors block_end_of used_ids names_predecessors uses_at not_visible constant_word typing_of scalar_operands_fit composite_operands_fit memory_operands_fit operands_fit is_in_function is_wrong_storage has_bad_operands has_wrong_storage use_fault_at use_fault bad_entry_count not_flat location_twice list_fault
logic = (refl, refl, refl, refl, refl)

-- a condition of one truth value or one for each component, and objects of the type of the result, no pointers
pub selections :
    (straight scalars (i op.SELECT (3 ∷ 20 ∷ 6 ∷ 6 ∷ 6 ∷ []) ∷ []) ≡ Some (OperandType 21))
    × (straight scalars (i op.SELECT (3 ∷ 20 ∷ 10 ∷ 6 ∷ 16 ∷ []) ∷ []) ≡ Some (OperandType 21))
    × (straight scalars (i op.SELECT (3 ∷ 20 ∷ 15 ∷ 6 ∷ 6 ∷ []) ∷ []) ≡ Some (OperandType 21))
    × (straight scalars (i op.SELECT (11 ∷ 20 ∷ 10 ∷ 14 ∷ 14 ∷ []) ∷ []) ≡ None)
    × (straight scalars (i op.SELECT (4 ∷ 20 ∷ 10 ∷ 5 ∷ 5 ∷ []) ∷ []) ≡ Some (OperandType 21))
unfolding entry_of class_of kinds result definition decoration_of type_of known_of known_after known_by model_of facts_of is_visible blocks_of predecessors block_end_of used_ids names_predecessors uses_at not_visible constant_word typing_of scalar_operands_fit composite_operands_fit memory_operands_fit operands_fit is_in_function is_wrong_storage has_bad_operands has_wrong_storage use_fault_at use_fault bad_entry_count not_flat location_twice list_fault
selections = (refl, refl, refl, refl, refl)

-- integers with as many components
pub bitcasts :
    (straight scalars (i op.BITCAST (13 ∷ 20 ∷ 6 ∷ []) ∷ []) ≡ None)
    × (straight scalars (i op.BITCAST (3 ∷ 20 ∷ 14 ∷ []) ∷ []) ≡ Some (OperandType 21))
    × (straight scalars (i op.BITCAST (3 ∷ 20 ∷ 10 ∷ []) ∷ []) ≡ Some (OperandType 21))
unfolding entry_of class_of kinds result definition decoration_of type_of known_of known_after known_by model_of facts_of is_visible blocks_of predecessors block_end_of used_ids names_predecessors uses_at not_visible constant_word typing_of scalar_operands_fit composite_operands_fit memory_operands_fit operands_fit is_in_function is_wrong_storage has_bad_operands has_wrong_storage use_fault_at use_fault bad_entry_count not_flat location_twice list_fault
bitcasts = (refl, refl, refl)
