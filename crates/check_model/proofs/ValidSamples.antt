-- Sample modules that are valid, with their stages and interfaces.
use Rattle.std.proofs.Common.{◌≡◌, true, false, [], ◌∷◌, refl}
use Rattle.std.specs.Prelude.{None, Some}
use Rattle.spirv_model.specs.Operands.{entry_of, class_of, kinds, result}
use Rattle.body_model.specs.Targets.{targets_by}
use Rattle.valid_model.specs.Definitions.{definition}
use Rattle.valid_model.specs.DecorationWords.{decoration_of}
use Rattle.valid_model.specs.Types.{type_of}
use Rattle.valid_model.specs.Meanings.{known_of, known_after, known_by}
use Rattle.valid_model.specs.ModuleFacts.{model_of, facts_of}
use Rattle.body_model.proofs.SampleModules.{v2, f1, f3, f5, f7, f8, f10}
use Rattle.check_model.specs.declared.stage.Stage.TheVariants.{Vertex, Fragment}
use Rattle.check_model.specs.Intervals.{interval, is_visible}
use Rattle.check_model.specs.Branches.{blocks_of, predecessors, block_end_of}
use Rattle.check_model.specs.Visibility.{used_ids, names_predecessors, uses_at, not_visible}
use Rattle.check_model.specs.Typing.{constant_word, typing_of}
use Rattle.check_model.specs.ScalarOperands.{scalar_operands_fit}
use Rattle.check_model.specs.CompositeOperands.{composite_operands_fit}
use Rattle.check_model.specs.MemoryOperands.{memory_operands_fit}
use Rattle.check_model.specs.OperandTypes.{operands_fit}
use Rattle.check_model.specs.Storage.{is_in_function, is_wrong_storage}
use Rattle.check_model.specs.EntryPoints.{bad_entry_count}
use Rattle.check_model.specs.Interfaces.{not_flat, location_twice, stage_of, inputs_of, outputs_of}
use Rattle.check_model.specs.Validity.{has_bad_operands, has_wrong_storage, use_fault_at, use_fault, list_fault}

v2-has_no_fault : list_fault (interval 14 18 ∷ []) v2 ≡ None
unfolding targets_by entry_of class_of kinds result definition decoration_of type_of known_of known_after known_by model_of facts_of is_visible blocks_of predecessors block_end_of used_ids names_predecessors uses_at not_visible constant_word typing_of scalar_operands_fit composite_operands_fit memory_operands_fit operands_fit is_in_function is_wrong_storage has_bad_operands has_wrong_storage use_fault_at use_fault bad_entry_count not_flat location_twice list_fault
v2-has_no_fault = refl

f1-has_no_fault : list_fault (interval 12 15 ∷ []) f1 ≡ None
unfolding targets_by entry_of class_of kinds result definition decoration_of type_of known_of known_after known_by model_of facts_of is_visible blocks_of predecessors block_end_of used_ids names_predecessors uses_at not_visible constant_word typing_of scalar_operands_fit composite_operands_fit memory_operands_fit operands_fit is_in_function is_wrong_storage has_bad_operands has_wrong_storage use_fault_at use_fault bad_entry_count not_flat location_twice list_fault
f1-has_no_fault = refl

f3-has_no_fault : list_fault (interval 17 39 ∷ interval 24 28 ∷ interval 28 30 ∷ interval 30 35 ∷ []) f3 ≡ None
unfolding targets_by entry_of class_of kinds result definition decoration_of type_of known_of known_after known_by model_of facts_of is_visible blocks_of predecessors block_end_of used_ids names_predecessors uses_at not_visible constant_word typing_of scalar_operands_fit composite_operands_fit memory_operands_fit operands_fit is_in_function is_wrong_storage has_bad_operands has_wrong_storage use_fault_at use_fault bad_entry_count not_flat location_twice list_fault
f3-has_no_fault = refl

f5-has_no_fault : list_fault (interval 16 27 ∷ interval 19 21 ∷ interval 21 23 ∷ []) f5 ≡ None
unfolding targets_by entry_of class_of kinds result definition decoration_of type_of known_of known_after known_by model_of facts_of is_visible blocks_of predecessors block_end_of used_ids names_predecessors uses_at not_visible constant_word typing_of scalar_operands_fit composite_operands_fit memory_operands_fit operands_fit is_in_function is_wrong_storage has_bad_operands has_wrong_storage use_fault_at use_fault bad_entry_count not_flat location_twice list_fault
f5-has_no_fault = refl

f7-has_no_fault : list_fault (interval 16 27 ∷ interval 19 21 ∷ interval 21 23 ∷ []) f7 ≡ None
unfolding targets_by entry_of class_of kinds result definition decoration_of type_of known_of known_after known_by model_of facts_of is_visible blocks_of predecessors block_end_of used_ids names_predecessors uses_at not_visible constant_word typing_of scalar_operands_fit composite_operands_fit memory_operands_fit operands_fit is_in_function is_wrong_storage has_bad_operands has_wrong_storage use_fault_at use_fault bad_entry_count not_flat location_twice list_fault
f7-has_no_fault = refl

f8-has_no_fault : list_fault (interval 16 35 ∷ interval 23 26 ∷ interval 26 28 ∷ interval 28 32 ∷ []) f8 ≡ None
unfolding targets_by entry_of class_of kinds result definition decoration_of type_of known_of known_after known_by model_of facts_of is_visible blocks_of predecessors block_end_of used_ids names_predecessors uses_at not_visible constant_word typing_of scalar_operands_fit composite_operands_fit memory_operands_fit operands_fit is_in_function is_wrong_storage has_bad_operands has_wrong_storage use_fault_at use_fault bad_entry_count not_flat location_twice list_fault
f8-has_no_fault = refl

f10-has_no_fault : list_fault (interval 19 34 ∷ interval 23 30 ∷ interval 26 28 ∷ []) f10 ≡ None
unfolding targets_by entry_of class_of kinds result definition decoration_of type_of known_of known_after known_by model_of facts_of is_visible blocks_of predecessors block_end_of used_ids names_predecessors uses_at not_visible constant_word typing_of scalar_operands_fit composite_operands_fit memory_operands_fit operands_fit is_in_function is_wrong_storage has_bad_operands has_wrong_storage use_fault_at use_fault bad_entry_count not_flat location_twice list_fault
f10-has_no_fault = refl

v2-interface : (stage_of v2 ≡ Vertex) × (inputs_of v2 ≡ record { slots = Some (record { comps = 4; signed = true }) ∷ None ∷ None ∷ None ∷ None ∷ None ∷ None ∷ None ∷ [] }) × (outputs_of v2 ≡ record { slots = None ∷ None ∷ None ∷ None ∷ None ∷ None ∷ None ∷ None ∷ [] })
unfolding entry_of class_of kinds result definition decoration_of type_of known_of known_after known_by model_of facts_of stage_of inputs_of outputs_of
v2-interface = (refl, refl, refl)

f1-interface : (stage_of f1 ≡ Fragment) × (inputs_of f1 ≡ record { slots = None ∷ None ∷ None ∷ None ∷ None ∷ None ∷ None ∷ None ∷ [] }) × (outputs_of f1 ≡ record { slots = Some (record { comps = 1; signed = false }) ∷ None ∷ None ∷ None ∷ None ∷ None ∷ None ∷ None ∷ [] })
unfolding entry_of class_of kinds result definition decoration_of type_of known_of known_after known_by model_of facts_of stage_of inputs_of outputs_of
f1-interface = (refl, refl, refl)

f10-interface : (stage_of f10 ≡ Fragment) × (inputs_of f10 ≡ record { slots = None ∷ None ∷ None ∷ None ∷ None ∷ None ∷ None ∷ None ∷ [] }) × (outputs_of f10 ≡ record { slots = Some (record { comps = 1; signed = false }) ∷ None ∷ None ∷ None ∷ None ∷ None ∷ None ∷ None ∷ [] })
unfolding entry_of class_of kinds result definition decoration_of type_of known_of known_after known_by model_of facts_of stage_of inputs_of outputs_of
f10-interface = (refl, refl, refl)
