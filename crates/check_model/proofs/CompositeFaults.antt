-- Operands of composite instructions, each alone in a function: the fault of the module.
use Rattle.std.proofs.Common.{◌≡◌, List, [], ◌∷◌, refl}
use Rattle.std.specs.Prelude.{None, Some}
use Rattle.spirv_model.specs.declared.module.Inst.{Inst}
use Rattle.spirv_model.specs.declared.op.TheConstants as op
use Rattle.spirv_model.specs.Operands.{entry_of, class_of, kinds, result}
use Rattle.valid_model.specs.Definitions.{definition}
use Rattle.valid_model.specs.DecorationWords.{decoration_of}
use Rattle.valid_model.specs.Types.{type_of}
use Rattle.valid_model.specs.Meanings.{known_of, known_after, known_by}
use Rattle.valid_model.specs.ModuleFacts.{model_of, facts_of}
use Rattle.check_model.specs.declared.fault.CheckFault.TheVariants.{OperandType}
use Rattle.check_model.specs.Intervals.{is_visible}
use Rattle.check_model.specs.Branches.{blocks_of, predecessors, block_end_of}
use Rattle.check_model.specs.Visibility.{used_ids, names_predecessors, uses_at, not_visible}
use Rattle.check_model.specs.Typing.{constant_word, typing_of}
use Rattle.check_model.specs.ScalarOperands.{scalar_operands_fit}
use Rattle.check_model.specs.CompositeOperands.{composite_operands_fit}
use Rattle.check_model.specs.MemoryOperands.{memory_operands_fit}
use Rattle.check_model.specs.OperandTypes.{operands_fit}
use Rattle.check_model.specs.Storage.{is_in_function, is_wrong_storage}
use Rattle.check_model.specs.EntryPoints.{bad_entry_count}
use Rattle.check_model.specs.Interfaces.{not_flat, location_twice}
use Rattle.check_model.specs.Validity.{has_bad_operands, has_wrong_storage, use_fault_at, use_fault, list_fault}
use Rattle.check_model.proofs.Frames.{i, straight}

abbrev composites : List Inst
composites =
    i op.TYPE_VECTOR (11 ∷ 3 ∷ 2 ∷ [])
    ∷ i op.CONSTANT_COMPOSITE (11 ∷ 14 ∷ 6 ∷ 6 ∷ [])
    ∷ i op.TYPE_STRUCT (17 ∷ 3 ∷ 11 ∷ [])
    ∷ i op.CONSTANT_COMPOSITE (17 ∷ 18 ∷ 6 ∷ 14 ∷ [])
    ∷ i op.TYPE_VECTOR (19 ∷ 3 ∷ 4 ∷ [])
    ∷ i op.TYPE_INT (13 ∷ 32 ∷ 1 ∷ [])
    ∷ i op.CONSTANT (13 ∷ 16 ∷ 7 ∷ [])
    ∷ []

-- parts fit the type
pub constructions :
    (straight composites (i op.COMPOSITE_CONSTRUCT (19 ∷ 20 ∷ 14 ∷ 14 ∷ []) ∷ []) ≡ None)
    × (straight composites (i op.COMPOSITE_CONSTRUCT (11 ∷ 20 ∷ 14 ∷ []) ∷ []) ≡ Some (OperandType 22))
    × (straight composites (i op.COMPOSITE_CONSTRUCT (19 ∷ 20 ∷ 14 ∷ 6 ∷ []) ∷ []) ≡ Some (OperandType 22))
    × (straight composites (i op.COMPOSITE_CONSTRUCT (11 ∷ 20 ∷ 6 ∷ 16 ∷ []) ∷ []) ≡ Some (OperandType 22))
    × (straight composites (i op.COMPOSITE_CONSTRUCT (17 ∷ 20 ∷ 6 ∷ 14 ∷ []) ∷ []) ≡ None)
    × (straight composites (i op.COMPOSITE_CONSTRUCT (17 ∷ 20 ∷ 6 ∷ []) ∷ []) ≡ Some (OperandType 22))
    × (straight composites (i op.COMPOSITE_CONSTRUCT (17 ∷ 20 ∷ 14 ∷ 6 ∷ []) ∷ []) ≡ Some (OperandType 22))
unfolding entry_of class_of kinds result definition decoration_of type_of known_of known_after known_by model_of facts_of is_visible blocks_of predecessors block_end_of used_ids names_predecessors uses_at not_visible constant_word typing_of scalar_operands_fit composite_operands_fit memory_operands_fit operands_fit is_in_function is_wrong_storage has_bad_operands has_wrong_storage use_fault_at use_fault bad_entry_count not_flat location_twice list_fault
constructions = (refl, refl, refl, refl, refl, refl, refl)

-- indices lead to a part of the type of the result
pub extractions :
    (straight composites (i op.COMPOSITE_EXTRACT (3 ∷ 20 ∷ 18 ∷ 1 ∷ 1 ∷ []) ∷ []) ≡ None)
    × (straight composites (i op.COMPOSITE_EXTRACT (3 ∷ 20 ∷ 18 ∷ 1 ∷ 2 ∷ []) ∷ []) ≡ Some (OperandType 22))
    × (straight composites (i op.COMPOSITE_EXTRACT (3 ∷ 20 ∷ 18 ∷ 2 ∷ []) ∷ []) ≡ Some (OperandType 22))
    × (straight composites (i op.COMPOSITE_EXTRACT (3 ∷ 20 ∷ 6 ∷ 0 ∷ []) ∷ []) ≡ Some (OperandType 22))
    × (straight composites (i op.COMPOSITE_EXTRACT (11 ∷ 20 ∷ 18 ∷ 0 ∷ []) ∷ []) ≡ Some (OperandType 22))
unfolding entry_of class_of kinds result definition decoration_of type_of known_of known_after known_by model_of facts_of is_visible blocks_of predecessors block_end_of used_ids names_predecessors uses_at not_visible constant_word typing_of scalar_operands_fit composite_operands_fit memory_operands_fit operands_fit is_in_function is_wrong_storage has_bad_operands has_wrong_storage use_fault_at use_fault bad_entry_count not_flat location_twice list_fault
extractions = (refl, refl, refl, refl, refl)

-- indices lead to a part of the type of the object
pub insertions :
    (straight composites (i op.COMPOSITE_INSERT (17 ∷ 20 ∷ 6 ∷ 18 ∷ 1 ∷ 0 ∷ []) ∷ []) ≡ None)
    × (straight composites (i op.COMPOSITE_INSERT (17 ∷ 20 ∷ 16 ∷ 18 ∷ 0 ∷ []) ∷ []) ≡ Some (OperandType 22))
    × (straight composites (i op.COMPOSITE_INSERT (11 ∷ 20 ∷ 6 ∷ 18 ∷ 0 ∷ []) ∷ []) ≡ Some (OperandType 22))
    × (straight composites (i op.COMPOSITE_INSERT (17 ∷ 20 ∷ 6 ∷ 18 ∷ 2 ∷ []) ∷ []) ≡ Some (OperandType 22))
unfolding entry_of class_of kinds result definition decoration_of type_of known_of known_after known_by model_of facts_of is_visible blocks_of predecessors block_end_of used_ids names_predecessors uses_at not_visible constant_word typing_of scalar_operands_fit composite_operands_fit memory_operands_fit operands_fit is_in_function is_wrong_storage has_bad_operands has_wrong_storage use_fault_at use_fault bad_entry_count not_flat location_twice list_fault
insertions = (refl, refl, refl, refl)

-- literals number the components of both vectors, one for each component of the result
pub shuffles :
    (straight composites (i op.VECTOR_SHUFFLE (19 ∷ 20 ∷ 14 ∷ 14 ∷ 0 ∷ 1 ∷ 3 ∷ 4294967295 ∷ []) ∷ []) ≡ None)
    × (straight composites (i op.VECTOR_SHUFFLE (11 ∷ 20 ∷ 14 ∷ 14 ∷ 0 ∷ 4 ∷ []) ∷ []) ≡ Some (OperandType 22))
    × (straight composites (i op.VECTOR_SHUFFLE (11 ∷ 20 ∷ 14 ∷ 14 ∷ 0 ∷ 1 ∷ 2 ∷ []) ∷ []) ≡ Some (OperandType 22))
    × (straight composites (i op.VECTOR_SHUFFLE (11 ∷ 20 ∷ 14 ∷ 18 ∷ 0 ∷ 1 ∷ []) ∷ []) ≡ Some (OperandType 22))
unfolding entry_of class_of kinds result definition decoration_of type_of known_of known_after known_by model_of facts_of is_visible blocks_of predecessors block_end_of used_ids names_predecessors uses_at not_visible constant_word typing_of scalar_operands_fit composite_operands_fit memory_operands_fit operands_fit is_in_function is_wrong_storage has_bad_operands has_wrong_storage use_fault_at use_fault bad_entry_count not_flat location_twice list_fault
shuffles = (refl, refl, refl, refl)
