-- Worked traces, from their text to what a play prints of targets and refused draws.
use Rattle.std.proofs.Common.{◌≡◌, ℕ, List, [], ◌∷◌, refl}
use Rattle.std.specs.Prelude.{codes, Result, Ok, Err}
use Rattle.body_model.proofs.SampleModules.{f3_words, f5_words, f6_words}
use Rattle.trace_model.specs.declared.whole.Trace.{Trace}
use Rattle.trace_model.specs.declared.line_fault.TraceFault.{TraceFault}
use Rattle.check_model.specs.Interfaces.{inputs_of, outputs_of, stage_of}
use Rattle.draw_model.specs.Coverage.{edge_value, is_covered, is_guarded, is_inside, is_inside_all, is_top_or_left, triangle_covers}
use Rattle.draw_model.specs.Fetch.{input_at}
use Rattle.draw_model.specs.Invocation.{fragment_inputs, invoked, vertex_inputs}
use Rattle.draw_model.specs.Pixel.{stored_pixel}
use Rattle.draw_model.specs.SampleWrites.{after_location, after_sample, depth_test, write_at}
use Rattle.draw_model.specs.TargetWords.{sample_place, sample_words, usable, with_sample, with_target}
use Rattle.draw_model.specs.WholeDraw.{after_outcome, effort, fragment_outcome, fragment_stage, fragments, fragments_of, image, primitives, vertex_outcome}
use Rattle.scalar_model.specs.Scalars.{arithmetic, bitwise, comparison, scalar_result, truth_from_truth, truth_from_truths, word_from_word}
use Rattle.spirv_model.specs.Module.{list_of_cut}
use Rattle.spirv_model.specs.Operands.{class_of, entry_of, kinds, result}
use Rattle.stage_model.specs.Effect.{effect_of, read_ids, result_of}
use Rattle.stage_model.specs.Machine.{done, read_values, step}
use Rattle.stage_model.specs.Operations.{operation}
use Rattle.stage_model.specs.Program.{block_offsets, first_label_place, held_layout, layouts_by, program_of}
use Rattle.stage_model.specs.Stage.{position_left, slots_left, stage, start_at}
use Rattle.stage_model.specs.Start.{constant_of, defined_by, first_memory}
use Rattle.state_model.specs.Link.{disagree, failed_content_rule, failed_rule, has_unused_subset, independence_differs, lacks_retained, lacks_subset, layouts_disagree, misfed_input, multisample_differs, repeats_subset, rule_at, rule_if, unfed_input, view_masks_differ}
use Rattle.state_model.specs.PipeKey.{state_if_linked}
use Rattle.std.specs.Fmt.{digits}
use Rattle.trace_model.proofs.WorkedText.{code_line_of, f1_at_7_line, f1_line, f2_line, f4_line, judged_by_words, text_of, v1_line, v2_line}
use Rattle.trace_model.specs.LibraryLines.{fragment_form, output_form, prerast_form, vertex_form}
use Rattle.trace_model.specs.LineForms.{line_of, version_of}
use Rattle.trace_model.specs.LinesBefore.{after_line}
use Rattle.trace_model.specs.ObjectCauses.{binds_foreign, is_too_many, is_unknown}
use Rattle.trace_model.specs.PartCauses.{is_bad_part}
use Rattle.trace_model.specs.Pipes.{pipe_libraries, pipe_state}
use Rattle.trace_model.specs.PlayText.{play_text, targets_text}
use Rattle.trace_model.specs.Playing.{after_draw, after_linked, after_step, draws_of, final_targets, pipe_rule, refused_draws}
use Rattle.trace_model.specs.Reading.{cause_of, reading}
use Rattle.trace_model.specs.RecorderLines.{bind_form, draw_form, push_form, scissor_form, ubuf_form, vbuf_form}
use Rattle.trace_model.specs.SetupLines.{code_form, data_form, layout_form, pipe_form, target_form}
use Rattle.valid_model.specs.DecorationWords.{decoration_of, offset_of}
use Rattle.valid_model.specs.Definitions.{definition}
use Rattle.valid_model.specs.Meanings.{known_after, known_by, known_of}
use Rattle.valid_model.specs.ModuleFacts.{facts_of, model_of, opcode_of}
use Rattle.valid_model.specs.Types.{type_of}

abbrev pub played : Result Trace TraceFault → Result (List ℕ) TraceFault
played (Ok trace) = Ok (play_text trace)
played (Err fault) = Err fault

-- what is due to this text
abbrev pub play_of : List ℕ → Result (List ℕ) TraceFault
play_of text = played (reading judged_by_words text)

-- one point in colour 42
pub one_point : play_of (text_of (codes "gplt 1" ∷ v1_line ∷ f1_line ∷ codes "layout 0 0 - - - -" ∷ codes "vertex 1 points - - - -" ∷ codes "prerast 1 0 0 0 0 0 cw" ∷ codes "fragment 1 1 0 0 - -" ∷ codes "output 1 0 1:1 - u1:1 - - -" ∷ codes "pipe 0 1 2 3" ∷ codes "target 0 u1 2 1 1 1 00000000" ∷ codes "bind 0 0 - - - -" ∷ codes "draw 0 0 0 1 0 1" ∷ [])) ≡ Ok (codes "target 0 u1 2 1 1 1\n0000002a 00000000\n")
unfolding reading cause_of line_of version_of data_form code_form layout_form pipe_form target_form vertex_form prerast_form fragment_form output_form push_form vbuf_form ubuf_form scissor_form bind_form draw_form after_line is_too_many is_unknown binds_foreign is_bad_part judged_by_words list_of_cut entry_of class_of kinds result stage_of inputs_of outputs_of facts_of model_of decoration_of offset_of type_of known_by known_after known_of definition opcode_of program_of layouts_by held_layout block_offsets first_label_place pipe_libraries pipe_state state_if_linked pipe_rule lacks_subset repeats_subset has_unused_subset independence_differs disagree layouts_disagree view_masks_differ multisample_differs unfed_input misfed_input lacks_retained rule_if rule_at failed_content_rule failed_rule after_step draws_of after_linked after_draw final_targets refused_draws targets_text play_text digits scalar_result word_from_word arithmetic bitwise comparison truth_from_truth truth_from_truths constant_of defined_by first_memory operation read_ids result_of effect_of read_values done step start_at position_left slots_left stage is_covered is_guarded edge_value is_top_or_left is_inside is_inside_all triangle_covers input_at stored_pixel invoked vertex_inputs fragment_inputs sample_place sample_words with_sample with_target usable depth_test write_at after_location after_sample vertex_outcome primitives fragments_of fragments fragment_stage fragment_outcome after_outcome image effort
one_point = refl

-- nothing is drawn and there is no target
pub no_lines : play_of (text_of (codes "gplt 1" ∷ [])) ≡ Ok (codes "")
unfolding reading cause_of line_of version_of data_form code_form layout_form pipe_form target_form vertex_form prerast_form fragment_form output_form push_form vbuf_form ubuf_form scissor_form bind_form draw_form after_line is_too_many is_unknown binds_foreign is_bad_part judged_by_words list_of_cut entry_of class_of kinds result stage_of inputs_of outputs_of facts_of model_of decoration_of offset_of type_of known_by known_after known_of definition opcode_of program_of layouts_by held_layout block_offsets first_label_place pipe_libraries pipe_state state_if_linked pipe_rule lacks_subset repeats_subset has_unused_subset independence_differs disagree layouts_disagree view_masks_differ multisample_differs unfed_input misfed_input lacks_retained rule_if rule_at failed_content_rule failed_rule after_step draws_of after_linked after_draw final_targets refused_draws targets_text play_text digits scalar_result word_from_word arithmetic bitwise comparison truth_from_truth truth_from_truths constant_of defined_by first_memory operation read_ids result_of effect_of read_values done step start_at position_left slots_left stage is_covered is_guarded edge_value is_top_or_left is_inside is_inside_all triangle_covers input_at stored_pixel invoked vertex_inputs fragment_inputs sample_place sample_words with_sample with_target usable depth_test write_at after_location after_sample vertex_outcome primitives fragments_of fragments fragment_stage fragment_outcome after_outcome image effort
no_lines = refl

-- 100 divided by the default, and by an entry of 0
pub quotient : play_of (text_of (codes "gplt 1" ∷ v1_line ∷ f2_line ∷ codes "layout 0 0 - - - -" ∷ codes "vertex 1 points - - - -" ∷ codes "prerast 1 0 0 0 0 0 cw" ∷ codes "fragment 1 1 0 0 - -" ∷ codes "output 1 0 1:1 - u1:1 - - -" ∷ codes "pipe 0 1 2 3" ∷ codes "target 0 u1 2 1 1 1 ffffffff" ∷ codes "bind 0 0 - - - -" ∷ codes "scissor 0 0 0 2 1" ∷ codes "draw 0 0 0 1 0 1" ∷ [])) ≡ Ok (codes "target 0 u1 2 1 1 1\n0000000e ffffffff\n")
unfolding reading cause_of line_of version_of data_form code_form layout_form pipe_form target_form vertex_form prerast_form fragment_form output_form push_form vbuf_form ubuf_form scissor_form bind_form draw_form after_line is_too_many is_unknown binds_foreign is_bad_part judged_by_words list_of_cut entry_of class_of kinds result stage_of inputs_of outputs_of facts_of model_of decoration_of offset_of type_of known_by known_after known_of definition opcode_of program_of layouts_by held_layout block_offsets first_label_place pipe_libraries pipe_state state_if_linked pipe_rule lacks_subset repeats_subset has_unused_subset independence_differs disagree layouts_disagree view_masks_differ multisample_differs unfed_input misfed_input lacks_retained rule_if rule_at failed_content_rule failed_rule after_step draws_of after_linked after_draw final_targets refused_draws targets_text play_text digits scalar_result word_from_word arithmetic bitwise comparison truth_from_truth truth_from_truths constant_of defined_by first_memory operation read_ids result_of effect_of read_values done step start_at position_left slots_left stage is_covered is_guarded edge_value is_top_or_left is_inside is_inside_all triangle_covers input_at stored_pixel invoked vertex_inputs fragment_inputs sample_place sample_words with_sample with_target usable depth_test write_at after_location after_sample vertex_outcome primitives fragments_of fragments fragment_stage fragment_outcome after_outcome image effort
quotient = refl

pub quotient_by_zero : play_of (text_of (codes "gplt 1" ∷ v1_line ∷ f2_line ∷ codes "layout 0 0 - - - -" ∷ codes "vertex 1 points - - - -" ∷ codes "prerast 1 0 0 0 0 0 cw" ∷ codes "fragment 1 1 0 0 - - 0=00000000" ∷ codes "output 1 0 1:1 - u1:1 - - -" ∷ codes "pipe 0 1 2 3" ∷ codes "target 0 u1 2 1 1 1 ffffffff" ∷ codes "bind 0 0 - - - -" ∷ codes "scissor 0 0 0 2 1" ∷ codes "draw 0 0 0 1 0 1" ∷ [])) ≡ Ok (codes "target 0 u1 2 1 1 1\n00000000 ffffffff\n")
unfolding reading cause_of line_of version_of data_form code_form layout_form pipe_form target_form vertex_form prerast_form fragment_form output_form push_form vbuf_form ubuf_form scissor_form bind_form draw_form after_line is_too_many is_unknown binds_foreign is_bad_part judged_by_words list_of_cut entry_of class_of kinds result stage_of inputs_of outputs_of facts_of model_of decoration_of offset_of type_of known_by known_after known_of definition opcode_of program_of layouts_by held_layout block_offsets first_label_place pipe_libraries pipe_state state_if_linked pipe_rule lacks_subset repeats_subset has_unused_subset independence_differs disagree layouts_disagree view_masks_differ multisample_differs unfed_input misfed_input lacks_retained rule_if rule_at failed_content_rule failed_rule after_step draws_of after_linked after_draw final_targets refused_draws targets_text play_text digits scalar_result word_from_word arithmetic bitwise comparison truth_from_truth truth_from_truths constant_of defined_by first_memory operation read_ids result_of effect_of read_values done step start_at position_left slots_left stage is_covered is_guarded edge_value is_top_or_left is_inside is_inside_all triangle_covers input_at stored_pixel invoked vertex_inputs fragment_inputs sample_place sample_words with_sample with_target usable depth_test write_at after_location after_sample vertex_outcome primitives fragments_of fragments fragment_stage fragment_outcome after_outcome image effort
quotient_by_zero = refl

-- a selection by a specialization constant, and the other way
pub chosen_arm : play_of (text_of (codes "gplt 1" ∷ v1_line ∷ (code_line_of f5_words) ∷ codes "layout 0 0 - - - -" ∷ codes "vertex 1 points - - - -" ∷ codes "prerast 1 0 0 0 0 0 cw" ∷ codes "fragment 1 1 0 0 - -" ∷ codes "output 1 0 1:1 - u1:1 - - -" ∷ codes "pipe 0 1 2 3" ∷ codes "target 0 u1 2 1 1 1 ffffffff" ∷ codes "bind 0 0 - - - -" ∷ codes "scissor 0 0 0 2 1" ∷ codes "draw 0 0 0 1 0 1" ∷ [])) ≡ Ok (codes "target 0 u1 2 1 1 1\n0000000b ffffffff\n")
unfolding reading cause_of line_of version_of data_form code_form layout_form pipe_form target_form vertex_form prerast_form fragment_form output_form push_form vbuf_form ubuf_form scissor_form bind_form draw_form after_line is_too_many is_unknown binds_foreign is_bad_part judged_by_words list_of_cut entry_of class_of kinds result stage_of inputs_of outputs_of facts_of model_of decoration_of offset_of type_of known_by known_after known_of definition opcode_of program_of layouts_by held_layout block_offsets first_label_place pipe_libraries pipe_state state_if_linked pipe_rule lacks_subset repeats_subset has_unused_subset independence_differs disagree layouts_disagree view_masks_differ multisample_differs unfed_input misfed_input lacks_retained rule_if rule_at failed_content_rule failed_rule after_step draws_of after_linked after_draw final_targets refused_draws targets_text play_text digits scalar_result word_from_word arithmetic bitwise comparison truth_from_truth truth_from_truths constant_of defined_by first_memory operation read_ids result_of effect_of read_values done step start_at position_left slots_left stage is_covered is_guarded edge_value is_top_or_left is_inside is_inside_all triangle_covers input_at stored_pixel invoked vertex_inputs fragment_inputs sample_place sample_words with_sample with_target usable depth_test write_at after_location after_sample vertex_outcome primitives fragments_of fragments fragment_stage fragment_outcome after_outcome image effort
chosen_arm = refl

pub other_arm : play_of (text_of (codes "gplt 1" ∷ v1_line ∷ (code_line_of f5_words) ∷ codes "layout 0 0 - - - -" ∷ codes "vertex 1 points - - - -" ∷ codes "prerast 1 0 0 0 0 0 cw" ∷ codes "fragment 1 1 0 0 - - 2=00000000" ∷ codes "output 1 0 1:1 - u1:1 - - -" ∷ codes "pipe 0 1 2 3" ∷ codes "target 0 u1 2 1 1 1 ffffffff" ∷ codes "bind 0 0 - - - -" ∷ codes "scissor 0 0 0 2 1" ∷ codes "draw 0 0 0 1 0 1" ∷ [])) ≡ Ok (codes "target 0 u1 2 1 1 1\n00000016 ffffffff\n")
unfolding reading cause_of line_of version_of data_form code_form layout_form pipe_form target_form vertex_form prerast_form fragment_form output_form push_form vbuf_form ubuf_form scissor_form bind_form draw_form after_line is_too_many is_unknown binds_foreign is_bad_part judged_by_words list_of_cut entry_of class_of kinds result stage_of inputs_of outputs_of facts_of model_of decoration_of offset_of type_of known_by known_after known_of definition opcode_of program_of layouts_by held_layout block_offsets first_label_place pipe_libraries pipe_state state_if_linked pipe_rule lacks_subset repeats_subset has_unused_subset independence_differs disagree layouts_disagree view_masks_differ multisample_differs unfed_input misfed_input lacks_retained rule_if rule_at failed_content_rule failed_rule after_step draws_of after_linked after_draw final_targets refused_draws targets_text play_text digits scalar_result word_from_word arithmetic bitwise comparison truth_from_truth truth_from_truths constant_of defined_by first_memory operation read_ids result_of effect_of read_values done step start_at position_left slots_left stage is_covered is_guarded edge_value is_top_or_left is_inside is_inside_all triangle_covers input_at stored_pixel invoked vertex_inputs fragment_inputs sample_place sample_words with_sample with_target usable depth_test write_at after_location after_sample vertex_outcome primitives fragments_of fragments fragment_stage fragment_outcome after_outcome image effort
other_arm = refl

-- a loop of three turns
pub three_turns : play_of (text_of (codes "gplt 1" ∷ v1_line ∷ (code_line_of f3_words) ∷ codes "layout 0 0 - - - -" ∷ codes "vertex 1 points - - - -" ∷ codes "prerast 1 0 0 0 0 0 cw" ∷ codes "fragment 1 1 0 0 - -" ∷ codes "output 1 0 1:1 - u1:1 - - -" ∷ codes "pipe 0 1 2 3" ∷ codes "target 0 u1 2 1 1 1 ffffffff" ∷ codes "bind 0 0 - - - -" ∷ codes "scissor 0 0 0 2 1" ∷ codes "draw 0 0 0 1 0 1" ∷ [])) ≡ Ok (codes "target 0 u1 2 1 1 1\n00000003 ffffffff\n")
unfolding reading cause_of line_of version_of data_form code_form layout_form pipe_form target_form vertex_form prerast_form fragment_form output_form push_form vbuf_form ubuf_form scissor_form bind_form draw_form after_line is_too_many is_unknown binds_foreign is_bad_part judged_by_words list_of_cut entry_of class_of kinds result stage_of inputs_of outputs_of facts_of model_of decoration_of offset_of type_of known_by known_after known_of definition opcode_of program_of layouts_by held_layout block_offsets first_label_place pipe_libraries pipe_state state_if_linked pipe_rule lacks_subset repeats_subset has_unused_subset independence_differs disagree layouts_disagree view_masks_differ multisample_differs unfed_input misfed_input lacks_retained rule_if rule_at failed_content_rule failed_rule after_step draws_of after_linked after_draw final_targets refused_draws targets_text play_text digits scalar_result word_from_word arithmetic bitwise comparison truth_from_truth truth_from_truths constant_of defined_by first_memory operation read_ids result_of effect_of read_values done step start_at position_left slots_left stage is_covered is_guarded edge_value is_top_or_left is_inside is_inside_all triangle_covers input_at stored_pixel invoked vertex_inputs fragment_inputs sample_place sample_words with_sample with_target usable depth_test write_at after_location after_sample vertex_outcome primitives fragments_of fragments fragment_stage fragment_outcome after_outcome image effort
three_turns = refl

-- an input without a producer is 0
pub no_producer : play_of (text_of (codes "gplt 1" ∷ v1_line ∷ (code_line_of f6_words) ∷ codes "layout 0 0 - - - -" ∷ codes "vertex 1 points - - - -" ∷ codes "prerast 1 0 0 0 0 0 cw" ∷ codes "fragment 1 1 0 0 - -" ∷ codes "output 1 0 1:1 - u1:1 - - -" ∷ codes "pipe 0 1 2 3" ∷ codes "target 0 u1 2 1 1 1 ffffffff" ∷ codes "bind 0 0 - - - -" ∷ codes "scissor 0 0 0 2 1" ∷ codes "draw 0 0 0 1 0 1" ∷ [])) ≡ Ok (codes "target 0 u1 2 1 1 1\n00000001 ffffffff\n")
unfolding reading cause_of line_of version_of data_form code_form layout_form pipe_form target_form vertex_form prerast_form fragment_form output_form push_form vbuf_form ubuf_form scissor_form bind_form draw_form after_line is_too_many is_unknown binds_foreign is_bad_part judged_by_words list_of_cut entry_of class_of kinds result stage_of inputs_of outputs_of facts_of model_of decoration_of offset_of type_of known_by known_after known_of definition opcode_of program_of layouts_by held_layout block_offsets first_label_place pipe_libraries pipe_state state_if_linked pipe_rule lacks_subset repeats_subset has_unused_subset independence_differs disagree layouts_disagree view_masks_differ multisample_differs unfed_input misfed_input lacks_retained rule_if rule_at failed_content_rule failed_rule after_step draws_of after_linked after_draw final_targets refused_draws targets_text play_text digits scalar_result word_from_word arithmetic bitwise comparison truth_from_truth truth_from_truths constant_of defined_by first_memory operation read_ids result_of effect_of read_values done step start_at position_left slots_left stage is_covered is_guarded edge_value is_top_or_left is_inside is_inside_all triangle_covers input_at stored_pixel invoked vertex_inputs fragment_inputs sample_place sample_words with_sample with_target usable depth_test write_at after_location after_sample vertex_outcome primitives fragments_of fragments fragment_stage fragment_outcome after_outcome image effort
no_producer = refl

-- two triangles that share an edge, with exclusive or: each pixel is drawn once
pub shared_edge : play_of (text_of (codes "gplt 1" ∷ codes "data 00000000 00000000 00000000 00000000 00000200 00000000 00000000 00000000 00000000 00000200 00000000 00000000 00000200 00000000 00000000 00000000 00000200 00000200 00000000 00000000 00000000 00000200 00000000 00000000" ∷ v2_line ∷ f1_line ∷ codes "layout 0 0 - - - -" ∷ codes "vertex 1 triangles v:4 - - - 0:0:s4:0" ∷ codes "prerast 1 0 0 0 0 0 cw" ∷ codes "fragment 1 1 0 0 - -" ∷ codes "output 1 0 1:1 6 u1:1 - - -" ∷ codes "pipe 0 1 2 3" ∷ codes "target 0 u1 2 2 1 1 00000000" ∷ codes "vbuf 0 0 0" ∷ codes "bind 0 0 - - - -" ∷ codes "draw 0 0 0 6 0 1" ∷ [])) ≡ Ok (codes "target 0 u1 2 2 1 1\n0000002a 0000002a\n0000002a 0000002a\n")
unfolding reading cause_of line_of version_of data_form code_form layout_form pipe_form target_form vertex_form prerast_form fragment_form output_form push_form vbuf_form ubuf_form scissor_form bind_form draw_form after_line is_too_many is_unknown binds_foreign is_bad_part judged_by_words list_of_cut entry_of class_of kinds result stage_of inputs_of outputs_of facts_of model_of decoration_of offset_of type_of known_by known_after known_of definition opcode_of program_of layouts_by held_layout block_offsets first_label_place pipe_libraries pipe_state state_if_linked pipe_rule lacks_subset repeats_subset has_unused_subset independence_differs disagree layouts_disagree view_masks_differ multisample_differs unfed_input misfed_input lacks_retained rule_if rule_at failed_content_rule failed_rule after_step draws_of after_linked after_draw final_targets refused_draws targets_text play_text digits scalar_result word_from_word arithmetic bitwise comparison truth_from_truth truth_from_truths constant_of defined_by first_memory operation read_ids result_of effect_of read_values done step start_at position_left slots_left stage is_covered is_guarded edge_value is_top_or_left is_inside is_inside_all triangle_covers input_at stored_pixel invoked vertex_inputs fragment_inputs sample_place sample_words with_sample with_target usable depth_test write_at after_location after_sample vertex_outcome primitives fragments_of fragments fragment_stage fragment_outcome after_outcome image effort
shared_edge = refl

-- a depth of 5 against 5: less, and less or equal
pub not_less : play_of (text_of (codes "gplt 1" ∷ codes "data 00000080 00000080 00000005 00000000" ∷ v2_line ∷ f1_line ∷ codes "layout 0 0 - - - -" ∷ codes "vertex 1 points v:4 - - - 0:0:s4:0" ∷ codes "prerast 1 0 0 0 0 0 cw" ∷ codes "fragment 1 1 0 0 1:1 -" ∷ codes "output 1 0 1:1 - u1:1 - - -" ∷ codes "pipe 0 1 2 3" ∷ codes "target 0 u1 2 1 1 1 00000000" ∷ codes "target 0 z 2 1 1 1 00000005" ∷ codes "vbuf 0 0 0" ∷ codes "bind 0 0 - - - 1" ∷ codes "scissor 0 0 0 2 1" ∷ codes "draw 0 0 0 1 0 1" ∷ [])) ≡ Ok (codes "target 0 u1 2 1 1 1\n00000000 00000000\ntarget 1 z 2 1 1 1\n00000005 00000005\n")
unfolding reading cause_of line_of version_of data_form code_form layout_form pipe_form target_form vertex_form prerast_form fragment_form output_form push_form vbuf_form ubuf_form scissor_form bind_form draw_form after_line is_too_many is_unknown binds_foreign is_bad_part judged_by_words list_of_cut entry_of class_of kinds result stage_of inputs_of outputs_of facts_of model_of decoration_of offset_of type_of known_by known_after known_of definition opcode_of program_of layouts_by held_layout block_offsets first_label_place pipe_libraries pipe_state state_if_linked pipe_rule lacks_subset repeats_subset has_unused_subset independence_differs disagree layouts_disagree view_masks_differ multisample_differs unfed_input misfed_input lacks_retained rule_if rule_at failed_content_rule failed_rule after_step draws_of after_linked after_draw final_targets refused_draws targets_text play_text digits scalar_result word_from_word arithmetic bitwise comparison truth_from_truth truth_from_truths constant_of defined_by first_memory operation read_ids result_of effect_of read_values done step start_at position_left slots_left stage is_covered is_guarded edge_value is_top_or_left is_inside is_inside_all triangle_covers input_at stored_pixel invoked vertex_inputs fragment_inputs sample_place sample_words with_sample with_target usable depth_test write_at after_location after_sample vertex_outcome primitives fragments_of fragments fragment_stage fragment_outcome after_outcome image effort
not_less = refl

pub not_greater : play_of (text_of (codes "gplt 1" ∷ codes "data 00000080 00000080 00000005 00000000" ∷ v2_line ∷ f1_line ∷ codes "layout 0 0 - - - -" ∷ codes "vertex 1 points v:4 - - - 0:0:s4:0" ∷ codes "prerast 1 0 0 0 0 0 cw" ∷ codes "fragment 1 1 0 0 3:1 -" ∷ codes "output 1 0 1:1 - u1:1 - - -" ∷ codes "pipe 0 1 2 3" ∷ codes "target 0 u1 2 1 1 1 00000000" ∷ codes "target 0 z 2 1 1 1 00000005" ∷ codes "vbuf 0 0 0" ∷ codes "bind 0 0 - - - 1" ∷ codes "scissor 0 0 0 2 1" ∷ codes "draw 0 0 0 1 0 1" ∷ [])) ≡ Ok (codes "target 0 u1 2 1 1 1\n0000002a 00000000\ntarget 1 z 2 1 1 1\n00000005 00000005\n")
unfolding reading cause_of line_of version_of data_form code_form layout_form pipe_form target_form vertex_form prerast_form fragment_form output_form push_form vbuf_form ubuf_form scissor_form bind_form draw_form after_line is_too_many is_unknown binds_foreign is_bad_part judged_by_words list_of_cut entry_of class_of kinds result stage_of inputs_of outputs_of facts_of model_of decoration_of offset_of type_of known_by known_after known_of definition opcode_of program_of layouts_by held_layout block_offsets first_label_place pipe_libraries pipe_state state_if_linked pipe_rule lacks_subset repeats_subset has_unused_subset independence_differs disagree layouts_disagree view_masks_differ multisample_differs unfed_input misfed_input lacks_retained rule_if rule_at failed_content_rule failed_rule after_step draws_of after_linked after_draw final_targets refused_draws targets_text play_text digits scalar_result word_from_word arithmetic bitwise comparison truth_from_truth truth_from_truths constant_of defined_by first_memory operation read_ids result_of effect_of read_values done step start_at position_left slots_left stage is_covered is_guarded edge_value is_top_or_left is_inside is_inside_all triangle_covers input_at stored_pixel invoked vertex_inputs fragment_inputs sample_place sample_words with_sample with_target usable depth_test write_at after_location after_sample vertex_outcome primitives fragments_of fragments fragment_stage fragment_outcome after_outcome image effort
not_greater = refl

-- rasterization is discarded: no pixel is written
pub discarded : play_of (text_of (codes "gplt 1" ∷ v1_line ∷ f1_line ∷ codes "layout 0 0 - - - -" ∷ codes "vertex 1 points - - - -" ∷ codes "prerast 1 0 0 0 1 0 cw" ∷ codes "fragment 1 1 0 0 - -" ∷ codes "output 1 0 1:1 - u1:1 - - -" ∷ codes "pipe 0 1" ∷ codes "target 0 u1 2 1 1 1 00000000" ∷ codes "bind 0 0 - - - -" ∷ codes "draw 0 0 0 1 0 1" ∷ [])) ≡ Ok (codes "target 0 u1 2 1 1 1\n00000000 00000000\n")
unfolding reading cause_of line_of version_of data_form code_form layout_form pipe_form target_form vertex_form prerast_form fragment_form output_form push_form vbuf_form ubuf_form scissor_form bind_form draw_form after_line is_too_many is_unknown binds_foreign is_bad_part judged_by_words list_of_cut entry_of class_of kinds result stage_of inputs_of outputs_of facts_of model_of decoration_of offset_of type_of known_by known_after known_of definition opcode_of program_of layouts_by held_layout block_offsets first_label_place pipe_libraries pipe_state state_if_linked pipe_rule lacks_subset repeats_subset has_unused_subset independence_differs disagree layouts_disagree view_masks_differ multisample_differs unfed_input misfed_input lacks_retained rule_if rule_at failed_content_rule failed_rule after_step draws_of after_linked after_draw final_targets refused_draws targets_text play_text digits scalar_result word_from_word arithmetic bitwise comparison truth_from_truth truth_from_truths constant_of defined_by first_memory operation read_ids result_of effect_of read_values done step start_at position_left slots_left stage is_covered is_guarded edge_value is_top_or_left is_inside is_inside_all triangle_covers input_at stored_pixel invoked vertex_inputs fragment_inputs sample_place sample_words with_sample with_target usable depth_test write_at after_location after_sample vertex_outcome primitives fragments_of fragments fragment_stage fragment_outcome after_outcome image effort
discarded = refl

-- a refused draw leaves the targets, and the next draw is numbered behind it
pub refused : play_of (text_of (codes "gplt 1" ∷ v1_line ∷ f1_line ∷ codes "layout 0 0 - - - -" ∷ codes "vertex 1 points - - - -" ∷ codes "prerast 1 0 0 0 0 0 cw" ∷ codes "fragment 1 1 0 0 - -" ∷ codes "output 1 0 1:1 - u1:1 - - -" ∷ codes "pipe 0 1 2" ∷ codes "target 0 u1 2 1 1 1 00000000" ∷ codes "bind 0 0 - - - -" ∷ codes "pipe 0 1 2 3" ∷ codes "scissor 0 0 0 2 1" ∷ codes "draw 0 0 0 1 0 1" ∷ codes "draw 0 1 0 1 0 1" ∷ codes "draw 0 0 0 1 0 1" ∷ [])) ≡ Ok (codes "target 0 u1 2 1 1 1\n0000002a 00000000\nrefused 0 L1\nrefused 2 L1\n")
unfolding reading cause_of line_of version_of data_form code_form layout_form pipe_form target_form vertex_form prerast_form fragment_form output_form push_form vbuf_form ubuf_form scissor_form bind_form draw_form after_line is_too_many is_unknown binds_foreign is_bad_part judged_by_words list_of_cut entry_of class_of kinds result stage_of inputs_of outputs_of facts_of model_of decoration_of offset_of type_of known_by known_after known_of definition opcode_of program_of layouts_by held_layout block_offsets first_label_place pipe_libraries pipe_state state_if_linked pipe_rule lacks_subset repeats_subset has_unused_subset independence_differs disagree layouts_disagree view_masks_differ multisample_differs unfed_input misfed_input lacks_retained rule_if rule_at failed_content_rule failed_rule after_step draws_of after_linked after_draw final_targets refused_draws targets_text play_text digits scalar_result word_from_word arithmetic bitwise comparison truth_from_truth truth_from_truths constant_of defined_by first_memory operation read_ids result_of effect_of read_values done step start_at position_left slots_left stage is_covered is_guarded edge_value is_top_or_left is_inside is_inside_all triangle_covers input_at stored_pixel invoked vertex_inputs fragment_inputs sample_place sample_words with_sample with_target usable depth_test write_at after_location after_sample vertex_outcome primitives fragments_of fragments fragment_stage fragment_outcome after_outcome image effort
refused = refl

pub unused_subset : play_of (text_of (codes "gplt 1" ∷ v1_line ∷ f1_line ∷ codes "layout 0 0 - - - -" ∷ codes "vertex 1 points - - - -" ∷ codes "prerast 1 0 0 0 1 0 cw" ∷ codes "fragment 1 1 0 0 - -" ∷ codes "output 1 0 1:1 - u1:1 - - -" ∷ codes "pipe 0 1 2 3" ∷ codes "target 0 u1 2 1 1 1 00000000" ∷ codes "bind 0 0 - - - -" ∷ codes "draw 0 0 0 1 0 1" ∷ [])) ≡ Ok (codes "target 0 u1 2 1 1 1\n00000000 00000000\nrefused 0 L3\n")
unfolding reading cause_of line_of version_of data_form code_form layout_form pipe_form target_form vertex_form prerast_form fragment_form output_form push_form vbuf_form ubuf_form scissor_form bind_form draw_form after_line is_too_many is_unknown binds_foreign is_bad_part judged_by_words list_of_cut entry_of class_of kinds result stage_of inputs_of outputs_of facts_of model_of decoration_of offset_of type_of known_by known_after known_of definition opcode_of program_of layouts_by held_layout block_offsets first_label_place pipe_libraries pipe_state state_if_linked pipe_rule lacks_subset repeats_subset has_unused_subset independence_differs disagree layouts_disagree view_masks_differ multisample_differs unfed_input misfed_input lacks_retained rule_if rule_at failed_content_rule failed_rule after_step draws_of after_linked after_draw final_targets refused_draws targets_text play_text digits scalar_result word_from_word arithmetic bitwise comparison truth_from_truth truth_from_truths constant_of defined_by first_memory operation read_ids result_of effect_of read_values done step start_at position_left slots_left stage is_covered is_guarded edge_value is_top_or_left is_inside is_inside_all triangle_covers input_at stored_pixel invoked vertex_inputs fragment_inputs sample_place sample_words with_sample with_target usable depth_test write_at after_location after_sample vertex_outcome primitives fragments_of fragments fragment_stage fragment_outcome after_outcome image effort
unused_subset = refl

-- the scissor of one recorder isn't the other's; two views, two samples of which one is written, two components, and two rows
pub two_recorders : play_of (text_of (codes "gplt 1" ∷ v1_line ∷ f1_line ∷ codes "layout 0 0 - - - -" ∷ codes "vertex 1 points - - - -" ∷ codes "prerast 1 0 0 5 0 0 cw" ∷ codes "fragment 1 1 0 5 - -" ∷ codes "output 1 5 2:2 - u2:3 - - -" ∷ codes "pipe 0 1 2 3" ∷ codes "target 1 u2 1 1 3 2 00000007" ∷ codes "target 0 u2 1 2 3 2 00000009" ∷ codes "scissor 1 1 0 255 256" ∷ codes "bind 0 1 - - - -" ∷ codes "bind 1 0 - - - -" ∷ codes "draw 1 0 0 1 0 1" ∷ codes "draw 0 0 0 1 0 1" ∷ [])) ≡ Ok (codes "target 0 u2 1 1 3 2\n00000007,00000007/00000007,00000007\n00000007,00000007/00000007,00000007\n00000007,00000007/00000007,00000007\ntarget 1 u2 1 2 3 2\n00000009,00000009/0000002a,00000000\n00000009,00000009/00000009,00000009\n00000009,00000009/00000009,00000009\n00000009,00000009/00000009,00000009\n00000009,00000009/0000002a,00000000\n00000009,00000009/00000009,00000009\n")
unfolding reading cause_of line_of version_of data_form code_form layout_form pipe_form target_form vertex_form prerast_form fragment_form output_form push_form vbuf_form ubuf_form scissor_form bind_form draw_form after_line is_too_many is_unknown binds_foreign is_bad_part judged_by_words list_of_cut entry_of class_of kinds result stage_of inputs_of outputs_of facts_of model_of decoration_of offset_of type_of known_by known_after known_of definition opcode_of program_of layouts_by held_layout block_offsets first_label_place pipe_libraries pipe_state state_if_linked pipe_rule lacks_subset repeats_subset has_unused_subset independence_differs disagree layouts_disagree view_masks_differ multisample_differs unfed_input misfed_input lacks_retained rule_if rule_at failed_content_rule failed_rule after_step draws_of after_linked after_draw final_targets refused_draws targets_text play_text digits scalar_result word_from_word arithmetic bitwise comparison truth_from_truth truth_from_truths constant_of defined_by first_memory operation read_ids result_of effect_of read_values done step start_at position_left slots_left stage is_covered is_guarded edge_value is_top_or_left is_inside is_inside_all triangle_covers input_at stored_pixel invoked vertex_inputs fragment_inputs sample_place sample_words with_sample with_target usable depth_test write_at after_location after_sample vertex_outcome primitives fragments_of fragments fragment_stage fragment_outcome after_outcome image effort
two_recorders = refl

-- a uniform word of 100 by an entry of 5, and where nothing is bound
pub uniform_word : play_of (text_of (codes "gplt 1" ∷ codes "data 00000064" ∷ v1_line ∷ f4_line ∷ codes "layout 0 0 1 - - -" ∷ codes "vertex 1 points - - - -" ∷ codes "prerast 1 0 0 0 0 0 cw" ∷ codes "fragment 1 1 0 0 - - 0=00000005" ∷ codes "output 1 0 1:1 - u1:1 - - -" ∷ codes "pipe 0 1 2 3" ∷ codes "target 0 u1 2 1 1 1 ffffffff" ∷ codes "ubuf 0 0 0 0" ∷ codes "bind 0 0 - - - -" ∷ codes "scissor 0 0 0 1 1" ∷ codes "draw 0 0 0 1 0 1" ∷ [])) ≡ Ok (codes "target 0 u1 2 1 1 1\n00000014 ffffffff\n")
unfolding reading cause_of line_of version_of data_form code_form layout_form pipe_form target_form vertex_form prerast_form fragment_form output_form push_form vbuf_form ubuf_form scissor_form bind_form draw_form after_line is_too_many is_unknown binds_foreign is_bad_part judged_by_words list_of_cut entry_of class_of kinds result stage_of inputs_of outputs_of facts_of model_of decoration_of offset_of type_of known_by known_after known_of definition opcode_of program_of layouts_by held_layout block_offsets first_label_place pipe_libraries pipe_state state_if_linked pipe_rule lacks_subset repeats_subset has_unused_subset independence_differs disagree layouts_disagree view_masks_differ multisample_differs unfed_input misfed_input lacks_retained rule_if rule_at failed_content_rule failed_rule after_step draws_of after_linked after_draw final_targets refused_draws targets_text play_text digits scalar_result word_from_word arithmetic bitwise comparison truth_from_truth truth_from_truths constant_of defined_by first_memory operation read_ids result_of effect_of read_values done step start_at position_left slots_left stage is_covered is_guarded edge_value is_top_or_left is_inside is_inside_all triangle_covers input_at stored_pixel invoked vertex_inputs fragment_inputs sample_place sample_words with_sample with_target usable depth_test write_at after_location after_sample vertex_outcome primitives fragments_of fragments fragment_stage fragment_outcome after_outcome image effort
uniform_word = refl

pub no_buffer : play_of (text_of (codes "gplt 1" ∷ codes "data 00000064" ∷ v1_line ∷ f4_line ∷ codes "layout 0 0 1 - - -" ∷ codes "vertex 1 points - - - -" ∷ codes "prerast 1 0 0 0 0 0 cw" ∷ codes "fragment 1 1 0 0 - - 0=00000005" ∷ codes "output 1 0 1:1 - u1:1 - - -" ∷ codes "pipe 0 1 2 3" ∷ codes "target 0 u1 2 1 1 1 ffffffff" ∷ codes "bind 0 0 - - - -" ∷ codes "scissor 0 0 0 1 1" ∷ codes "draw 0 0 0 1 0 1" ∷ [])) ≡ Ok (codes "target 0 u1 2 1 1 1\n00000000 ffffffff\n")
unfolding reading cause_of line_of version_of data_form code_form layout_form pipe_form target_form vertex_form prerast_form fragment_form output_form push_form vbuf_form ubuf_form scissor_form bind_form draw_form after_line is_too_many is_unknown binds_foreign is_bad_part judged_by_words list_of_cut entry_of class_of kinds result stage_of inputs_of outputs_of facts_of model_of decoration_of offset_of type_of known_by known_after known_of definition opcode_of program_of layouts_by held_layout block_offsets first_label_place pipe_libraries pipe_state state_if_linked pipe_rule lacks_subset repeats_subset has_unused_subset independence_differs disagree layouts_disagree view_masks_differ multisample_differs unfed_input misfed_input lacks_retained rule_if rule_at failed_content_rule failed_rule after_step draws_of after_linked after_draw final_targets refused_draws targets_text play_text digits scalar_result word_from_word arithmetic bitwise comparison truth_from_truth truth_from_truths constant_of defined_by first_memory operation read_ids result_of effect_of read_values done step start_at position_left slots_left stage is_covered is_guarded edge_value is_top_or_left is_inside is_inside_all triangle_covers input_at stored_pixel invoked vertex_inputs fragment_inputs sample_place sample_words with_sample with_target usable depth_test write_at after_location after_sample vertex_outcome primitives fragments_of fragments fragment_stage fragment_outcome after_outcome image effort
no_buffer = refl

-- version 2: location 7, and sixteen entries of which the module declares one
pub last_attachment : play_of (text_of (codes "gplt 2" ∷ v1_line ∷ f1_at_7_line ∷ codes "layout 0 0 - - - -" ∷ codes "vertex 1 points - - - -" ∷ codes "prerast 1 0 0 0 0 0 cw" ∷ codes "fragment 1 1 0 0 - -" ∷ codes "output 1 0 1:1 - - - - - - - - u1:1" ∷ codes "pipe 0 1 2 3" ∷ codes "target 0 u1 2 1 1 1 00000000" ∷ codes "bind 0 - - - - - - - 0 -" ∷ codes "scissor 0 0 0 2 1" ∷ codes "draw 0 0 0 1 0 1" ∷ [])) ≡ Ok (codes "target 0 u1 2 1 1 1\n0000002a 00000000\n")
unfolding reading cause_of line_of version_of data_form code_form layout_form pipe_form target_form vertex_form prerast_form fragment_form output_form push_form vbuf_form ubuf_form scissor_form bind_form draw_form after_line is_too_many is_unknown binds_foreign is_bad_part judged_by_words list_of_cut entry_of class_of kinds result stage_of inputs_of outputs_of facts_of model_of decoration_of offset_of type_of known_by known_after known_of definition opcode_of program_of layouts_by held_layout block_offsets first_label_place pipe_libraries pipe_state state_if_linked pipe_rule lacks_subset repeats_subset has_unused_subset independence_differs disagree layouts_disagree view_masks_differ multisample_differs unfed_input misfed_input lacks_retained rule_if rule_at failed_content_rule failed_rule after_step draws_of after_linked after_draw final_targets refused_draws targets_text play_text digits scalar_result word_from_word arithmetic bitwise comparison truth_from_truth truth_from_truths constant_of defined_by first_memory operation read_ids result_of effect_of read_values done step start_at position_left slots_left stage is_covered is_guarded edge_value is_top_or_left is_inside is_inside_all triangle_covers input_at stored_pixel invoked vertex_inputs fragment_inputs sample_place sample_words with_sample with_target usable depth_test write_at after_location after_sample vertex_outcome primitives fragments_of fragments fragment_stage fragment_outcome after_outcome image effort
last_attachment = refl

pub sixteen_entries : play_of (text_of (codes "gplt 2" ∷ v1_line ∷ f2_line ∷ codes "layout 0 0 - - - -" ∷ codes "vertex 1 points - - - -" ∷ codes "prerast 1 0 0 0 0 0 cw" ∷ codes "fragment 1 1 0 0 - - 0=00000007 1=00000000 2=00000000 3=00000000 4=00000000 5=00000000 6=00000000 7=00000000 8=00000000 9=00000000 10=00000000 11=00000000 12=00000000 13=00000000 14=00000000 15=00000000" ∷ codes "output 1 0 1:1 - u1:1 - - - - - - -" ∷ codes "pipe 0 1 2 3" ∷ codes "target 0 u1 2 1 1 1 ffffffff" ∷ codes "bind 0 0 - - - - - - - -" ∷ codes "scissor 0 0 0 2 1" ∷ codes "draw 0 0 0 1 0 1" ∷ [])) ≡ Ok (codes "target 0 u1 2 1 1 1\n0000000e ffffffff\n")
unfolding reading cause_of line_of version_of data_form code_form layout_form pipe_form target_form vertex_form prerast_form fragment_form output_form push_form vbuf_form ubuf_form scissor_form bind_form draw_form after_line is_too_many is_unknown binds_foreign is_bad_part judged_by_words list_of_cut entry_of class_of kinds result stage_of inputs_of outputs_of facts_of model_of decoration_of offset_of type_of known_by known_after known_of definition opcode_of program_of layouts_by held_layout block_offsets first_label_place pipe_libraries pipe_state state_if_linked pipe_rule lacks_subset repeats_subset has_unused_subset independence_differs disagree layouts_disagree view_masks_differ multisample_differs unfed_input misfed_input lacks_retained rule_if rule_at failed_content_rule failed_rule after_step draws_of after_linked after_draw final_targets refused_draws targets_text play_text digits scalar_result word_from_word arithmetic bitwise comparison truth_from_truth truth_from_truths constant_of defined_by first_memory operation read_ids result_of effect_of read_values done step start_at position_left slots_left stage is_covered is_guarded edge_value is_top_or_left is_inside is_inside_all triangle_covers input_at stored_pixel invoked vertex_inputs fragment_inputs sample_place sample_words with_sample with_target usable depth_test write_at after_location after_sample vertex_outcome primitives fragments_of fragments fragment_stage fragment_outcome after_outcome image effort
sixteen_entries = refl
