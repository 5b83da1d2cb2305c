-- Entry points and interfaces: the fault of the module.
use Rattle.std.proofs.Common.{◌≡◌, List, [], ◌∷◌, refl}
use Rattle.std.specs.Prelude.{None, Some, Option}
use Rattle.spirv_model.specs.declared.module.Inst.{Inst}
use Rattle.spirv_model.specs.declared.op.TheConstants as op
use Rattle.spirv_model.specs.Operands.{entry_of, class_of, kinds, result}
use Rattle.valid_model.specs.Definitions.{definition}
use Rattle.valid_model.specs.DecorationWords.{decoration_of}
use Rattle.valid_model.specs.Types.{type_of}
use Rattle.valid_model.specs.Meanings.{known_of, known_after, known_by}
use Rattle.valid_model.specs.ModuleFacts.{model_of, facts_of}
use Rattle.check_model.specs.declared.fault.CheckFault.{CheckFault}
use Rattle.check_model.specs.declared.fault.CheckFault.TheVariants.{EntryCount, OperandType, NotFlat, LocationTwice}
use Rattle.check_model.specs.Intervals.{is_visible}
use Rattle.check_model.specs.Branches.{blocks_of, predecessors, block_end_of}
use Rattle.check_model.specs.Visibility.{used_ids, names_predecessors, uses_at, not_visible}
use Rattle.check_model.specs.Typing.{constant_word, typing_of}
use Rattle.check_model.specs.ScalarOperands.{scalar_operands_fit}
use Rattle.check_model.specs.CompositeOperands.{composite_operands_fit}
use Rattle.check_model.specs.MemoryOperands.{memory_operands_fit}
use Rattle.check_model.specs.OperandTypes.{operands_fit}
use Rattle.check_model.specs.Storage.{is_in_function, is_wrong_storage}
use Rattle.check_model.specs.EntryPoints.{bad_entry_count}
use Rattle.check_model.specs.Interfaces.{not_flat, location_twice}
use Rattle.check_model.specs.Validity.{has_bad_operands, has_wrong_storage, use_fault_at, use_fault, list_fault}
use Rattle.check_model.proofs.Frames.{i, entry, framed, whole}

-- of a module with these entry points
abbrev module_fault : List Inst → List Inst → List Inst → Option CheckFault
module_fault entries level block = list_fault (whole entries level block ∷ []) (framed entries level block)

-- one entry point, of a vertex or a fragment shader, into the function; its fault comes before those of uses
pub entries :
    (module_fault [] [] [] ≡ Some (EntryCount 0))
    × (module_fault (entry 4 7 ∷ entry 4 7 ∷ []) [] [] ≡ Some (EntryCount 2))
    × (module_fault (entry 5 7 ∷ []) [] [] ≡ Some (EntryCount 1))
    × (module_fault (entry 4 8 ∷ []) [] [] ≡ Some (EntryCount 1))
    × (module_fault [] [] (i op.STORE (5 ∷ 10 ∷ []) ∷ []) ≡ Some (EntryCount 0))
unfolding entry_of class_of kinds result definition decoration_of type_of known_of known_after known_by model_of facts_of is_visible blocks_of predecessors block_end_of used_ids names_predecessors uses_at not_visible constant_word typing_of scalar_operands_fit composite_operands_fit memory_operands_fit operands_fit is_in_function is_wrong_storage has_bad_operands has_wrong_storage use_fault_at use_fault bad_entry_count not_flat location_twice list_fault
entries = (refl, refl, refl, refl, refl)

-- inputs of a fragment shader are Flat; a fault of a use comes before
pub flat_inputs :
    (module_fault (entry 4 7 ∷ []) (i op.TYPE_POINTER (11 ∷ 1 ∷ 3 ∷ []) ∷ i op.VARIABLE (11 ∷ 12 ∷ 1 ∷ []) ∷ i op.DECORATE (12 ∷ 30 ∷ 3 ∷ []) ∷ i op.VARIABLE (11 ∷ 13 ∷ 1 ∷ []) ∷ i op.DECORATE (13 ∷ 30 ∷ 2 ∷ []) ∷ []) [] ≡ Some (NotFlat 2))
    × (module_fault (entry 4 7 ∷ []) (i op.TYPE_POINTER (11 ∷ 1 ∷ 3 ∷ []) ∷ i op.VARIABLE (11 ∷ 12 ∷ 1 ∷ []) ∷ i op.DECORATE (12 ∷ 30 ∷ 3 ∷ []) ∷ i op.VARIABLE (11 ∷ 13 ∷ 1 ∷ []) ∷ i op.DECORATE (13 ∷ 30 ∷ 2 ∷ []) ∷ i op.DECORATE (13 ∷ 14 ∷ []) ∷ []) [] ≡ Some (NotFlat 3))
    × (module_fault (entry 4 7 ∷ []) (i op.TYPE_POINTER (11 ∷ 1 ∷ 3 ∷ []) ∷ i op.VARIABLE (11 ∷ 12 ∷ 1 ∷ []) ∷ i op.DECORATE (12 ∷ 30 ∷ 3 ∷ []) ∷ i op.VARIABLE (11 ∷ 13 ∷ 1 ∷ []) ∷ i op.DECORATE (13 ∷ 30 ∷ 2 ∷ []) ∷ i op.DECORATE (12 ∷ 14 ∷ []) ∷ i op.DECORATE (13 ∷ 14 ∷ []) ∷ []) [] ≡ None)
    × (module_fault (entry 0 7 ∷ []) (i op.TYPE_POINTER (11 ∷ 1 ∷ 3 ∷ []) ∷ i op.VARIABLE (11 ∷ 12 ∷ 1 ∷ []) ∷ i op.DECORATE (12 ∷ 30 ∷ 3 ∷ []) ∷ i op.VARIABLE (11 ∷ 13 ∷ 1 ∷ []) ∷ i op.DECORATE (13 ∷ 30 ∷ 2 ∷ []) ∷ []) [] ≡ None)
    × (module_fault (entry 4 7 ∷ []) (i op.TYPE_POINTER (11 ∷ 1 ∷ 3 ∷ []) ∷ i op.VARIABLE (11 ∷ 12 ∷ 1 ∷ []) ∷ i op.DECORATE (12 ∷ 30 ∷ 3 ∷ []) ∷ []) (i op.STORE (5 ∷ 10 ∷ []) ∷ []) ≡ Some (OperandType 18))
unfolding entry_of class_of kinds result definition decoration_of type_of known_of known_after known_by model_of facts_of is_visible blocks_of predecessors block_end_of used_ids names_predecessors uses_at not_visible constant_word typing_of scalar_operands_fit composite_operands_fit memory_operands_fit operands_fit is_in_function is_wrong_storage has_bad_operands has_wrong_storage use_fault_at use_fault bad_entry_count not_flat location_twice list_fault
flat_inputs = (refl, refl, refl, refl, refl)

-- inputs have locations of their own, and so have outputs
pub locations :
    (module_fault (entry 0 7 ∷ []) (i op.TYPE_POINTER (11 ∷ 1 ∷ 3 ∷ []) ∷ i op.VARIABLE (11 ∷ 12 ∷ 1 ∷ []) ∷ i op.DECORATE (12 ∷ 30 ∷ 3 ∷ []) ∷ i op.VARIABLE (11 ∷ 13 ∷ 1 ∷ []) ∷ i op.DECORATE (13 ∷ 30 ∷ 3 ∷ []) ∷ []) [] ≡ Some (LocationTwice 3))
    × (module_fault (entry 4 7 ∷ []) (i op.VARIABLE (4 ∷ 14 ∷ 3 ∷ []) ∷ i op.DECORATE (14 ∷ 30 ∷ 0 ∷ []) ∷ []) [] ≡ Some (LocationTwice 0))
    × (module_fault (entry 0 7 ∷ []) (i op.TYPE_POINTER (11 ∷ 1 ∷ 3 ∷ []) ∷ i op.VARIABLE (11 ∷ 12 ∷ 1 ∷ []) ∷ i op.DECORATE (12 ∷ 30 ∷ 0 ∷ []) ∷ []) [] ≡ None)
    × (module_fault (entry 4 7 ∷ []) (i op.TYPE_POINTER (11 ∷ 1 ∷ 3 ∷ []) ∷ i op.VARIABLE (11 ∷ 12 ∷ 1 ∷ []) ∷ i op.DECORATE (12 ∷ 30 ∷ 3 ∷ []) ∷ i op.VARIABLE (4 ∷ 14 ∷ 3 ∷ []) ∷ i op.DECORATE (14 ∷ 30 ∷ 0 ∷ []) ∷ []) [] ≡ Some (NotFlat 3))
unfolding entry_of class_of kinds result definition decoration_of type_of known_of known_after known_by model_of facts_of is_visible blocks_of predecessors block_end_of used_ids names_predecessors uses_at not_visible constant_word typing_of scalar_operands_fit composite_operands_fit memory_operands_fit operands_fit is_in_function is_wrong_storage has_bad_operands has_wrong_storage use_fault_at use_fault bad_entry_count not_flat location_twice list_fault
locations = (refl, refl, refl, refl)
