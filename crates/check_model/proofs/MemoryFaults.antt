-- Operands of loads, stores and chains, and storage classes: the fault of the module.
use Rattle.std.proofs.Common.{◌≡◌, List, [], ◌∷◌, ◌++◌, refl}
use Rattle.std.specs.Prelude.{None, Some}
use Rattle.spirv_model.specs.declared.module.Inst.{Inst}
use Rattle.spirv_model.specs.declared.op.TheConstants as op
use Rattle.spirv_model.specs.Operands.{entry_of, class_of, kinds, result}
use Rattle.valid_model.specs.Definitions.{definition}
use Rattle.valid_model.specs.DecorationWords.{decoration_of}
use Rattle.valid_model.specs.Types.{type_of}
use Rattle.valid_model.specs.Meanings.{known_of, known_after, known_by}
use Rattle.valid_model.specs.ModuleFacts.{model_of, facts_of}
use Rattle.check_model.specs.declared.fault.CheckFault.TheVariants.{NotVisible, OperandType, WrongStorage}
use Rattle.check_model.specs.Intervals.{is_visible}
use Rattle.check_model.specs.Branches.{blocks_of, predecessors, block_end_of}
use Rattle.check_model.specs.Visibility.{used_ids, names_predecessors, uses_at, not_visible}
use Rattle.check_model.specs.Typing.{constant_word, typing_of}
use Rattle.check_model.specs.ScalarOperands.{scalar_operands_fit}
use Rattle.check_model.specs.CompositeOperands.{composite_operands_fit}
use Rattle.check_model.specs.MemoryOperands.{memory_operands_fit}
use Rattle.check_model.specs.OperandTypes.{operands_fit}
use Rattle.check_model.specs.Storage.{is_in_function, is_wrong_storage}
use Rattle.check_model.specs.EntryPoints.{bad_entry_count}
use Rattle.check_model.specs.Interfaces.{not_flat, location_twice}
use Rattle.check_model.specs.Validity.{has_bad_operands, has_wrong_storage, use_fault_at, use_fault, list_fault}
use Rattle.check_model.proofs.Frames.{i, straight}

abbrev memory : List Inst
memory =
    i op.TYPE_ARRAY (11 ∷ 3 ∷ 6 ∷ [])
    ∷ i op.TYPE_STRUCT (12 ∷ 3 ∷ 11 ∷ [])
    ∷ i op.TYPE_POINTER (13 ∷ 6 ∷ 12 ∷ [])
    ∷ i op.VARIABLE (13 ∷ 14 ∷ 6 ∷ [])
    ∷ i op.TYPE_POINTER (15 ∷ 6 ∷ 3 ∷ [])
    ∷ i op.CONSTANT (3 ∷ 16 ∷ 1 ∷ [])
    ∷ i op.TYPE_POINTER (17 ∷ 1 ∷ 3 ∷ [])
    ∷ i op.DECORATE (18 ∷ 30 ∷ 1 ∷ [])
    ∷ i op.DECORATE (18 ∷ 14 ∷ [])
    ∷ i op.VARIABLE (17 ∷ 18 ∷ 1 ∷ [])
    ∷ i op.TYPE_POINTER (19 ∷ 7 ∷ 3 ∷ [])
    ∷ i op.TYPE_POINTER (25 ∷ 6 ∷ 11 ∷ [])
    ∷ []

-- a load gives what is pointed to
pub loads :
    (straight memory (i op.LOAD (3 ∷ 20 ∷ 18 ∷ []) ∷ []) ≡ None)
    × (straight memory (i op.LOAD (9 ∷ 20 ∷ 18 ∷ []) ∷ []) ≡ Some (OperandType 27))
    × (straight memory (i op.LOAD (3 ∷ 20 ∷ 6 ∷ []) ∷ []) ≡ Some (OperandType 27))
unfolding entry_of class_of kinds result definition decoration_of type_of known_of known_after known_by model_of facts_of is_visible blocks_of predecessors block_end_of used_ids names_predecessors uses_at not_visible constant_word typing_of scalar_operands_fit composite_operands_fit memory_operands_fit operands_fit is_in_function is_wrong_storage has_bad_operands has_wrong_storage use_fault_at use_fault bad_entry_count not_flat location_twice list_fault
loads = (refl, refl, refl)

-- a store takes what is pointed to, and no pointer
pub stores :
    (straight memory (i op.STORE (5 ∷ 10 ∷ []) ∷ []) ≡ Some (OperandType 27))
    × (straight memory (i op.STORE (6 ∷ 6 ∷ []) ∷ []) ≡ Some (OperandType 27))
    × (straight memory (i op.STORE (5 ∷ 5 ∷ []) ∷ []) ≡ Some (OperandType 27))
unfolding entry_of class_of kinds result definition decoration_of type_of known_of known_after known_by model_of facts_of is_visible blocks_of predecessors block_end_of used_ids names_predecessors uses_at not_visible constant_word typing_of scalar_operands_fit composite_operands_fit memory_operands_fit operands_fit is_in_function is_wrong_storage has_bad_operands has_wrong_storage use_fault_at use_fault bad_entry_count not_flat location_twice list_fault
stores = (refl, refl, refl)

-- from a variable, by an OpConstant into a structure and by integers into an array, to a pointer of its class
pub chains :
    (straight memory (i op.LOAD (3 ∷ 20 ∷ 18 ∷ []) ∷ i op.ACCESS_CHAIN (15 ∷ 21 ∷ 14 ∷ 16 ∷ 20 ∷ []) ∷ []) ≡ None)
    × (straight memory (i op.LOAD (3 ∷ 20 ∷ 18 ∷ []) ∷ i op.ACCESS_CHAIN (15 ∷ 21 ∷ 14 ∷ 20 ∷ []) ∷ []) ≡ Some (OperandType 28))
    × (straight memory (i op.ACCESS_CHAIN (15 ∷ 20 ∷ 14 ∷ 6 ∷ []) ∷ []) ≡ Some (OperandType 27))
    × (straight memory (i op.ACCESS_CHAIN (15 ∷ 20 ∷ 14 ∷ 16 ∷ 10 ∷ []) ∷ []) ≡ Some (OperandType 27))
    × (straight memory (i op.ACCESS_CHAIN (19 ∷ 20 ∷ 14 ∷ 16 ∷ 6 ∷ []) ∷ []) ≡ Some (OperandType 27))
    × (straight memory (i op.ACCESS_CHAIN (15 ∷ 20 ∷ 14 ∷ 16 ∷ []) ∷ []) ≡ Some (OperandType 27))
    × (straight memory (i op.ACCESS_CHAIN (15 ∷ 20 ∷ 6 ∷ 6 ∷ []) ∷ []) ≡ Some (OperandType 27))
    × (straight memory (i op.ACCESS_CHAIN (25 ∷ 20 ∷ 14 ∷ 16 ∷ []) ∷ i op.ACCESS_CHAIN (15 ∷ 21 ∷ 20 ∷ 6 ∷ []) ∷ []) ≡ Some (OperandType 28))
unfolding entry_of class_of kinds result definition decoration_of type_of known_of known_after known_by model_of facts_of is_visible blocks_of predecessors block_end_of used_ids names_predecessors uses_at not_visible constant_word typing_of scalar_operands_fit composite_operands_fit memory_operands_fit operands_fit is_in_function is_wrong_storage has_bad_operands has_wrong_storage use_fault_at use_fault bad_entry_count not_flat location_twice list_fault
chains = (refl, refl, refl, refl, refl, refl, refl, refl)

-- of a type that values have
pub undefined_values :
    (straight memory (i op.UNDEF (3 ∷ 20 ∷ []) ∷ []) ≡ None)
    × (straight memory (i op.UNDEF (15 ∷ 20 ∷ []) ∷ []) ≡ Some (OperandType 27))
unfolding entry_of class_of kinds result definition decoration_of type_of known_of known_after known_by model_of facts_of is_visible blocks_of predecessors block_end_of used_ids names_predecessors uses_at not_visible constant_word typing_of scalar_operands_fit composite_operands_fit memory_operands_fit operands_fit is_in_function is_wrong_storage has_bad_operands has_wrong_storage use_fault_at use_fault bad_entry_count not_flat location_twice list_fault
undefined_values = (refl, refl)

-- nothing is stored into an input, and variables of the class Function alone stand in the function; an operand of another type comes first
pub misplaced :
    (straight memory (i op.STORE (18 ∷ 6 ∷ []) ∷ []) ≡ Some (WrongStorage 27))
    × (straight memory (i op.STORE (18 ∷ 10 ∷ []) ∷ []) ≡ Some (OperandType 27))
    × (straight memory (i op.VARIABLE (15 ∷ 20 ∷ 6 ∷ []) ∷ []) ≡ Some (WrongStorage 27))
    × (straight (memory ++ (i op.VARIABLE (19 ∷ 20 ∷ 7 ∷ []) ∷ [])) [] ≡ Some (WrongStorage 25))
unfolding entry_of class_of kinds result definition decoration_of type_of known_of known_after known_by model_of facts_of is_visible blocks_of predecessors block_end_of used_ids names_predecessors uses_at not_visible constant_word typing_of scalar_operands_fit composite_operands_fit memory_operands_fit operands_fit is_in_function is_wrong_storage has_bad_operands has_wrong_storage use_fault_at use_fault bad_entry_count not_flat location_twice list_fault
misplaced = (refl, refl, refl, refl)

-- an id is defined before it is used
pub unseen :
    (straight memory (i op.STORE (5 ∷ 20 ∷ []) ∷ []) ≡ Some (NotVisible 20))
    × (straight memory (i op.I_ADD (3 ∷ 20 ∷ 6 ∷ 21 ∷ []) ∷ i op.I_ADD (3 ∷ 21 ∷ 6 ∷ 6 ∷ []) ∷ []) ≡ Some (NotVisible 21))
unfolding entry_of class_of kinds result definition decoration_of type_of known_of known_after known_by model_of facts_of is_visible blocks_of predecessors block_end_of used_ids names_predecessors uses_at not_visible constant_word typing_of scalar_operands_fit composite_operands_fit memory_operands_fit operands_fit is_in_function is_wrong_storage has_bad_operands has_wrong_storage use_fault_at use_fault bad_entry_count not_flat location_twice list_fault
unseen = (refl, refl)
