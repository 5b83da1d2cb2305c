-- One worked text with the relation of valid modules: its trace, and what is due to it. And one with a faulty module.
use Rattle.std.proofs.Common.{ℕ, List, [], ◌∷◌, take, refl}
use Rattle.std.specs.Prelude.{codes, None, Ok}
use Rattle.std.proofs.lemmas.List.Sums.{AllPass-from_list_all}
use Rattle.spirv_model.specs.declared.module.Inst.{Inst}
use Rattle.spirv_model.specs.declared.module.Words.{Words}
use Rattle.spirv_model.proofs.ReadModules.{read_writable}
use Rattle.body_model.specs.declared.scope.End.TheVariants.{Return}
use Rattle.body_model.specs.Classes.{is_module_level}
use Rattle.body_model.specs.Grammar.{ends, Derives}
use Rattle.body_model.proofs.SampleModules.{v1, f1, v1_words, f1_words, v1-is_read, f1-is_read}
use Rattle.check_model.specs.Validity.{IsValid}
use Rattle.trace_model.specs.Reading.{IsReading}
use Rattle.trace_model.proofs.ReadingLaws.{verdict_of, is_verdict_of, is-reading}
use Rattle.trace_model.proofs.JudgedReadings.{same_reading}
use Rattle.body_model.specs.Blocks.{block_end, last_part}
use Rattle.body_model.specs.Due.{missing}
use Rattle.body_model.specs.Switches.{labels_of, switch_words}
use Rattle.body_model.specs.Targets.{targets_by}
use Rattle.check_model.specs.Branches.{block_end_of, blocks_of, predecessors}
use Rattle.check_model.specs.CompositeOperands.{composite_operands_fit}
use Rattle.check_model.specs.EntryPoints.{bad_entry_count}
use Rattle.check_model.specs.Interfaces.{location_twice, not_flat}
use Rattle.check_model.specs.Intervals.{is_visible}
use Rattle.check_model.specs.MemoryOperands.{memory_operands_fit}
use Rattle.check_model.specs.OperandTypes.{operands_fit}
use Rattle.check_model.specs.ScalarOperands.{scalar_operands_fit}
use Rattle.check_model.specs.Storage.{is_in_function, is_wrong_storage}
use Rattle.check_model.specs.Typing.{constant_word, typing_of}
use Rattle.check_model.specs.Validity.{has_bad_operands, has_wrong_storage, list_fault, use_fault, use_fault_at}
use Rattle.check_model.specs.Visibility.{names_predecessors, not_visible, used_ids, uses_at}
use Rattle.spirv_model.specs.Module.{list_of_cut}
use Rattle.spirv_model.specs.Operands.{class_of, entry_of, ids, kinds, result}
use Rattle.trace_model.proofs.WorkedText.{f1_line, judged_by_words, text_of, v1_line}
use Rattle.trace_model.specs.LibraryLines.{fragment_form, output_form, prerast_form, vertex_form}
use Rattle.trace_model.specs.LineForms.{line_of, version_of}
use Rattle.trace_model.specs.Reading.{reading}
use Rattle.trace_model.specs.RecorderLines.{bind_form, draw_form}
use Rattle.trace_model.specs.SetupLines.{code_form, layout_form, pipe_form, target_form}
use Rattle.valid_model.specs.Constants.{constant_fits}
use Rattle.valid_model.specs.DecorationWords.{decoration_of}
use Rattle.valid_model.specs.Decorations.{bad_decorate, bad_decoration, bad_member_decorate, breaks_decorations}
use Rattle.valid_model.specs.Definitions.{definition, id_out_of_bound, id_twice}
use Rattle.valid_model.specs.EarlierFacts.{before_of}
use Rattle.valid_model.specs.FirstFault.{bad_constant, bad_type, rule_fault, type_fault}
use Rattle.valid_model.specs.Meanings.{known_after, known_by, known_of}
use Rattle.valid_model.specs.ModuleFacts.{facts_of, model_of, opcode_of}
use Rattle.valid_model.specs.Types.{breaks_types, has_later_type, result_type, type_of}
use Rattle.valid_model.specs.Variables.{bad_variable}

-- the two modules are valid
v1_derives : Derives v1
unfolding entry_of class_of block_end missing last_part labels_of switch_words
v1_derives = record {
  before = 13;
  after = 17;
  begins = record { module_level = AllPass-from_list_all (λ (inst : Inst). is_module_level inst.op) (take 13 v1) refl; function = refl };
  sequence = ends (record { end = Return; next = None; after = 17 }) refl refl refl refl;
  function_end = refl;
  last = refl;
}

abbrev pub v1_read : Words
v1_read = record { bound = 12; insts = v1 }

pub v1-is_valid : IsValid v1_words v1_read
unfolding v1_derives entry_of class_of kinds ids result definition type_of known_of known_after known_by id_twice id_out_of_bound result_type has_later_type breaks_types bad_type constant_fits bad_constant rule_fault type_fault decoration_of model_of facts_of before_of bad_decorate bad_member_decorate bad_variable breaks_decorations bad_decoration opcode_of targets_by is_visible blocks_of predecessors block_end_of used_ids names_predecessors uses_at not_visible constant_word typing_of scalar_operands_fit composite_operands_fit memory_operands_fit operands_fit is_in_function is_wrong_storage has_bad_operands has_wrong_storage use_fault_at use_fault bad_entry_count not_flat location_twice list_fault
v1-is_valid = record {
  reads = v1-is_read;
  valid = record { writable = read_writable v1_words v1_read v1-is_read; derivation = v1_derives; sound = refl; faultless = refl };
}

f1_derives : Derives f1
unfolding entry_of class_of block_end missing last_part labels_of switch_words
f1_derives = record {
  before = 11;
  after = 15;
  begins = record { module_level = AllPass-from_list_all (λ (inst : Inst). is_module_level inst.op) (take 11 f1) refl; function = refl };
  sequence = ends (record { end = Return; next = None; after = 15 }) refl refl refl refl;
  function_end = refl;
  last = refl;
}

abbrev pub f1_read : Words
f1_read = record { bound = 9; insts = f1 }

pub f1-is_valid : IsValid f1_words f1_read
unfolding f1_derives entry_of class_of kinds ids result definition type_of known_of known_after known_by id_twice id_out_of_bound result_type has_later_type breaks_types bad_type constant_fits bad_constant rule_fault type_fault decoration_of model_of facts_of before_of bad_decorate bad_member_decorate bad_variable breaks_decorations bad_decoration opcode_of targets_by is_visible blocks_of predecessors block_end_of used_ids names_predecessors uses_at not_visible constant_word typing_of scalar_operands_fit composite_operands_fit memory_operands_fit operands_fit is_in_function is_wrong_storage has_bad_operands has_wrong_storage use_fault_at use_fault bad_entry_count not_flat location_twice list_fault
f1-is_valid = record {
  reads = f1-is_read;
  valid = record { writable = read_writable f1_words f1_read f1-is_read; derivation = f1_derives; sound = refl; faultless = refl };
}

abbrev pub one_point_text : List ℕ
one_point_text = text_of (codes "gplt 1" ∷ v1_line ∷ f1_line ∷ codes "layout 0 0 - - - -" ∷ codes "vertex 1 points - - - -" ∷ codes "prerast 1 0 0 0 0 0 cw" ∷ codes "fragment 1 1 0 0 - -" ∷ codes "output 1 0 1:1 - u1:1 - - -" ∷ codes "pipe 0 1 2 3" ∷ codes "target 0 u1 2 1 1 1 00000000" ∷ codes "bind 0 0 - - - -" ∷ codes "draw 0 0 0 1 0 1" ∷ [])

-- it is a trace, which is read so by a judge who is right about all words
pub one_point-is_reading : IsReading one_point_text (reading judged_by_words one_point_text)
unfolding judged_by_words list_of_cut entry_of class_of kinds line_of version_of code_form layout_form vertex_form prerast_form fragment_form output_form pipe_form target_form bind_form draw_form
one_point-is_reading =
    is-reading one_point_text (reading judged_by_words one_point_text) (same_reading verdict_of judged_by_words one_point_text
    (is_verdict_of v1_words (Ok v1_read) v1-is_valid, (is_verdict_of f1_words (Ok f1_read) f1-is_valid, (tt, (tt, (tt, (tt, (tt, (tt, (tt, (tt, (tt, (tt, tt)))))))))))))
