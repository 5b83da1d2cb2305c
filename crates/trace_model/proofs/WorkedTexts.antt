-- Worked traces, from their text to what `links` and `check` print, and to their keys.
use Rattle.std.proofs.Common.{◌≡◌, ℕ, List, [], ◌∷◌, ◌++◌, replicate, refl}
use Rattle.std.specs.Prelude.{codes, length, Result, Ok, Err}
use Rattle.body_model.proofs.SampleModules.{f6_words}
use Rattle.trace_model.specs.declared.whole.Trace.{Trace}
use Rattle.trace_model.specs.declared.line_fault.TraceFault.{TraceFault}
use Rattle.check_model.specs.Interfaces.{inputs_of, outputs_of, stage_of}
use Rattle.spirv_model.specs.Module.{list_of_cut}
use Rattle.spirv_model.specs.Operands.{class_of, entry_of, kinds, result}
use Rattle.stage_model.specs.Program.{block_offsets, first_label_place, held_layout, layouts_by, program_of}
use Rattle.state_model.specs.Canonical.{canonical, canonical_entries}
use Rattle.state_model.specs.Key.{key}
use Rattle.state_model.specs.Link.{disagree, failed_content_rule, failed_rule, has_unused_subset, independence_differs, lacks_retained, lacks_subset, layouts_disagree, misfed_input, multisample_differs, repeats_subset, rule_at, rule_if, unfed_input, view_masks_differ}
use Rattle.state_model.specs.PipeKey.{is_retained, key_if_linked, state_if_linked}
use Rattle.std.specs.Fmt.{digits}
use Rattle.trace_model.proofs.WorkedText.{code_line_of, f1_at_7_line, f1_line, f2_line, f4_line, judged_by_words, text_of, v1_line, v2_line}
use Rattle.trace_model.specs.LibraryLines.{fragment_form, output_form, prerast_form, vertex_form}
use Rattle.trace_model.specs.LineForms.{line_of, version_of}
use Rattle.trace_model.specs.LinesBefore.{after_line}
use Rattle.trace_model.specs.ObjectCauses.{binds_foreign, is_too_many, is_unknown}
use Rattle.trace_model.specs.PartCauses.{is_bad_part}
use Rattle.trace_model.specs.Pipes.{pipe_key, pipe_libraries, pipe_state}
use Rattle.trace_model.specs.PlayText.{check_text, links_text}
use Rattle.trace_model.specs.Playing.{after_step, distinct_keys, draws_of, pipe_rule, retained_keys}
use Rattle.trace_model.specs.Reading.{cause_of, reading}
use Rattle.trace_model.specs.RecorderLines.{bind_form, draw_form, push_form, scissor_form, ubuf_form, vbuf_form}
use Rattle.trace_model.specs.SetupLines.{code_form, data_form, layout_form, pipe_form, target_form}
use Rattle.trace_model.specs.SpecIds.{spec_ids_of}
use Rattle.valid_model.specs.DecorationWords.{decoration_of, offset_of}
use Rattle.valid_model.specs.Definitions.{definition}
use Rattle.valid_model.specs.Meanings.{known_after, known_by, known_of}
use Rattle.valid_model.specs.ModuleFacts.{facts_of, model_of, opcode_of}
use Rattle.valid_model.specs.Types.{type_of}

-- what a reading gives, told by this
abbrev pub told : {A : Type 0} → (Trace → A) → Result Trace TraceFault → Result A TraceFault
told tell (Ok trace) = Ok (tell trace)
told tell (Err fault) = Err fault

abbrev pub told_of : {A : Type 0} → (Trace → A) → List ℕ → Result A TraceFault
told_of tell text = told tell (reading judged_by_words text)

-- ---- `links`

-- layouts that agree and that don't; a library twice, and none of a subset
pub layouts-links : told_of links_text (text_of (codes "gplt 1" ∷ v1_line ∷ f1_line ∷ codes "layout 1 0 1 - - -" ∷ codes "layout 1 0 - 1 - -" ∷ codes "layout 0 0 1 - - -" ∷ codes "layout 0 0 - - - -" ∷ codes "vertex 1 points - - - -" ∷ codes "prerast 1 0 0 0 0 0 cw" ∷ codes "fragment 1 1 1 0 - -" ∷ codes "fragment 1 1 2 0 - -" ∷ codes "prerast 1 0 2 0 0 0 cw" ∷ codes "fragment 1 1 3 0 - -" ∷ codes "output 1 0 1:1 - u1:1 - - -" ∷ codes "pipe 0 1 2 6" ∷ codes "pipe 0 1 3 6" ∷ codes "pipe 0 4 5 6" ∷ codes "pipe 0 0 1 2 6" ∷ codes "pipe 1 2 6" ∷ [])) ≡ Ok (codes "pipe 0 ok ok\npipe 1 L4 L4\npipe 2 L5 L5\npipe 3 L2 L2\npipe 4 L1 L1\n")
unfolding reading cause_of line_of version_of data_form code_form layout_form pipe_form target_form vertex_form prerast_form fragment_form output_form push_form vbuf_form ubuf_form scissor_form bind_form draw_form after_line is_too_many is_unknown binds_foreign is_bad_part judged_by_words list_of_cut entry_of class_of kinds result stage_of inputs_of outputs_of facts_of model_of decoration_of offset_of type_of known_by known_after known_of definition opcode_of program_of layouts_by held_layout block_offsets first_label_place pipe_libraries lacks_subset repeats_subset has_unused_subset independence_differs disagree layouts_disagree view_masks_differ multisample_differs unfed_input misfed_input lacks_retained rule_if rule_at failed_content_rule failed_rule links_text digits
layouts-links = refl

-- a library that isn't retained, by itself and where rasterization is discarded
pub not_retained-links : told_of links_text (text_of (codes "gplt 1" ∷ v1_line ∷ f1_line ∷ codes "layout 0 0 - - - -" ∷ codes "vertex 0 points - - - -" ∷ codes "prerast 1 0 0 0 0 0 cw" ∷ codes "fragment 1 1 0 0 - -" ∷ codes "output 1 0 1:1 - u1:1 - - -" ∷ codes "vertex 1 points - - - -" ∷ codes "prerast 1 0 0 0 1 0 cw" ∷ codes "pipe 0 1 2 3" ∷ codes "pipe 4 1 2 3" ∷ codes "pipe 4 5" ∷ codes "pipe 0 5" ∷ [])) ≡ Ok (codes "pipe 0 ok L10\npipe 1 ok ok\npipe 2 ok ok\npipe 3 ok L10\n")
unfolding reading cause_of line_of version_of data_form code_form layout_form pipe_form target_form vertex_form prerast_form fragment_form output_form push_form vbuf_form ubuf_form scissor_form bind_form draw_form after_line is_too_many is_unknown binds_foreign is_bad_part judged_by_words list_of_cut entry_of class_of kinds result stage_of inputs_of outputs_of facts_of model_of decoration_of offset_of type_of known_by known_after known_of definition opcode_of program_of layouts_by held_layout block_offsets first_label_place pipe_libraries lacks_subset repeats_subset has_unused_subset independence_differs disagree layouts_disagree view_masks_differ multisample_differs unfed_input misfed_input lacks_retained rule_if rule_at failed_content_rule failed_rule links_text digits
not_retained-links = refl

-- a vertex input without an attribute, and a fragment input is given nothing
pub unfit_interfaces-links : told_of links_text (text_of (codes "gplt 1" ∷ v2_line ∷ f1_at_7_line ∷ codes "layout 0 0 - - - -" ∷ codes "vertex 1 points v:4 - - - 1:0:s4:0" ∷ codes "vertex 1 points v:4 - - - 0:0:s3:0" ∷ codes "vertex 1 points v:4 - - - 0:0:u4:0" ∷ codes "vertex 1 points v:4 - - - 0:0:s4:0" ∷ codes "prerast 1 0 0 0 0 0 cw" ∷ codes "fragment 1 1 0 1 - 1:1" ∷ codes "fragment 1 1 0 0 - 1:0" ∷ codes "fragment 1 1 0 0 - 1:1" ∷ codes "output 1 0 1:1 - u1:1 - - -" ∷ codes "pipe 0 4 7 8" ∷ codes "pipe 1 4 7 8" ∷ codes "pipe 2 4 7 8" ∷ codes "pipe 3 4 7 8" ∷ codes "pipe 3 4 5 8" ∷ codes "pipe 3 4 6 8" ∷ [])) ≡ Ok (codes "pipe 0 L8@0 L8@0\npipe 1 L8@0 L8@0\npipe 2 L8@0 L8@0\npipe 3 ok ok\npipe 4 L6 L6\npipe 5 L7 L7\n")
unfolding reading cause_of line_of version_of data_form code_form layout_form pipe_form target_form vertex_form prerast_form fragment_form output_form push_form vbuf_form ubuf_form scissor_form bind_form draw_form after_line is_too_many is_unknown binds_foreign is_bad_part judged_by_words list_of_cut entry_of class_of kinds result stage_of inputs_of outputs_of facts_of model_of decoration_of offset_of type_of known_by known_after known_of definition opcode_of program_of layouts_by held_layout block_offsets first_label_place pipe_libraries lacks_subset repeats_subset has_unused_subset independence_differs disagree layouts_disagree view_masks_differ multisample_differs unfed_input misfed_input lacks_retained rule_if rule_at failed_content_rule failed_rule links_text digits
unfit_interfaces-links = refl

-- ---- `check`

-- a vertex and a fragment module
pub two_modules-check : told_of check_text (text_of (codes "gplt 1" ∷ v1_line ∷ f1_line ∷ codes "layout 0 0 - - - -" ∷ codes "vertex 1 points - - - -" ∷ codes "prerast 1 0 0 0 0 0 cw" ∷ codes "fragment 1 1 0 0 - -" ∷ codes "output 1 0 1:1 - u1:1 - - -" ∷ codes "pipe 0 1 2 3" ∷ codes "target 0 u1 2 1 1 1 00000000" ∷ codes "bind 0 0 - - - -" ∷ codes "draw 0 0 0 1 0 1" ∷ [])) ≡ Ok (codes "code 0 vertex 0 0 0 68\ncode 1 fragment 0 1 0 56\n")
unfolding reading cause_of line_of version_of data_form code_form layout_form pipe_form target_form vertex_form prerast_form fragment_form output_form push_form vbuf_form ubuf_form scissor_form bind_form draw_form after_line is_too_many is_unknown binds_foreign is_bad_part judged_by_words list_of_cut entry_of class_of kinds result stage_of inputs_of outputs_of facts_of model_of decoration_of offset_of type_of known_by known_after known_of definition opcode_of program_of layouts_by held_layout block_offsets first_label_place spec_ids_of check_text digits
two_modules-check = refl

-- inputs, specialization ids, and words without names and sources
pub more_modules-check : told_of check_text (text_of (codes "gplt 1" ∷ v2_line ∷ f4_line ∷ (code_line_of f6_words) ∷ [])) ≡ Ok (codes "code 0 vertex 1 0 0 70\ncode 1 fragment 0 1 1 109\ncode 2 fragment 1 1 0 87\n")
unfolding reading cause_of line_of version_of data_form code_form layout_form pipe_form target_form vertex_form prerast_form fragment_form output_form push_form vbuf_form ubuf_form scissor_form bind_form draw_form after_line is_too_many is_unknown binds_foreign is_bad_part judged_by_words list_of_cut entry_of class_of kinds result stage_of inputs_of outputs_of facts_of model_of decoration_of offset_of type_of known_by known_after known_of definition opcode_of program_of layouts_by held_layout block_offsets first_label_place spec_ids_of check_text digits
more_modules-check = refl

-- ---- keys

-- of one point, whose libraries are all retained
pub point-key : told_of distinct_keys (text_of (codes "gplt 1" ∷ v1_line ∷ f1_line ∷ codes "layout 0 0 - - - -" ∷ codes "vertex 1 points - - - -" ∷ codes "prerast 1 0 0 0 0 0 cw" ∷ codes "fragment 1 1 0 0 - -" ∷ codes "output 1 0 1:1 - u1:1 - - -" ∷ codes "pipe 0 1 2 3" ∷ codes "target 0 u1 2 1 1 1 00000000" ∷ codes "bind 0 0 - - - -" ∷ codes "draw 0 0 0 1 0 1" ∷ [])) ≡ Ok (((3840 ∷ 8589934592 ∷ []) ++ replicate 17 0 ++ (17 ∷ 0 ∷ 0 ∷ 17 ∷ []) ++ replicate 33 0) ∷ [])
unfolding reading cause_of line_of version_of data_form code_form layout_form pipe_form target_form vertex_form prerast_form fragment_form output_form push_form vbuf_form ubuf_form scissor_form bind_form draw_form after_line is_too_many is_unknown binds_foreign is_bad_part judged_by_words list_of_cut entry_of class_of kinds result stage_of inputs_of outputs_of facts_of model_of decoration_of offset_of type_of known_by known_after known_of definition opcode_of program_of layouts_by held_layout block_offsets first_label_place pipe_libraries pipe_state state_if_linked pipe_rule lacks_subset repeats_subset has_unused_subset independence_differs disagree layouts_disagree view_masks_differ multisample_differs unfed_input misfed_input lacks_retained rule_if rule_at failed_content_rule failed_rule spec_ids_of pipe_key key_if_linked canonical canonical_entries key draws_of after_step distinct_keys retained_keys is_retained
point-key = refl

-- a library isn't retained
pub not_retained-keys : told_of (λ trace. length (distinct_keys trace) ∷ length (retained_keys trace) ∷ []) (text_of (codes "gplt 1" ∷ v1_line ∷ f1_line ∷ codes "layout 0 0 - - - -" ∷ codes "vertex 0 points - - - -" ∷ codes "prerast 1 0 0 0 0 0 cw" ∷ codes "fragment 1 1 0 0 - -" ∷ codes "output 1 0 1:1 - u1:1 - - -" ∷ codes "pipe 0 1 2 3" ∷ codes "target 0 u1 2 1 1 1 00000000" ∷ codes "bind 0 0 - - - -" ∷ codes "draw 0 0 0 1 0 1" ∷ [])) ≡ Ok (1 ∷ 0 ∷ [])
unfolding reading cause_of line_of version_of data_form code_form layout_form pipe_form target_form vertex_form prerast_form fragment_form output_form push_form vbuf_form ubuf_form scissor_form bind_form draw_form after_line is_too_many is_unknown binds_foreign is_bad_part judged_by_words list_of_cut entry_of class_of kinds result stage_of inputs_of outputs_of facts_of model_of decoration_of offset_of type_of known_by known_after known_of definition opcode_of program_of layouts_by held_layout block_offsets first_label_place pipe_libraries pipe_state state_if_linked pipe_rule lacks_subset repeats_subset has_unused_subset independence_differs disagree layouts_disagree view_masks_differ multisample_differs unfed_input misfed_input lacks_retained rule_if rule_at failed_content_rule failed_rule spec_ids_of pipe_key key_if_linked canonical canonical_entries key draws_of after_step distinct_keys retained_keys is_retained
not_retained-keys = refl

-- rasterization is discarded: two libraries
pub discarded-keys : told_of (λ trace. length (distinct_keys trace) ∷ length (retained_keys trace) ∷ []) (text_of (codes "gplt 1" ∷ v1_line ∷ f1_line ∷ codes "layout 0 0 - - - -" ∷ codes "vertex 1 points - - - -" ∷ codes "prerast 1 0 0 0 1 0 cw" ∷ codes "fragment 1 1 0 0 - -" ∷ codes "output 1 0 1:1 - u1:1 - - -" ∷ codes "pipe 0 1" ∷ codes "target 0 u1 2 1 1 1 00000000" ∷ codes "bind 0 0 - - - -" ∷ codes "draw 0 0 0 1 0 1" ∷ [])) ≡ Ok (1 ∷ 1 ∷ [])
unfolding reading cause_of line_of version_of data_form code_form layout_form pipe_form target_form vertex_form prerast_form fragment_form output_form push_form vbuf_form ubuf_form scissor_form bind_form draw_form after_line is_too_many is_unknown binds_foreign is_bad_part judged_by_words list_of_cut entry_of class_of kinds result stage_of inputs_of outputs_of facts_of model_of decoration_of offset_of type_of known_by known_after known_of definition opcode_of program_of layouts_by held_layout block_offsets first_label_place pipe_libraries pipe_state state_if_linked pipe_rule lacks_subset repeats_subset has_unused_subset independence_differs disagree layouts_disagree view_masks_differ multisample_differs unfed_input misfed_input lacks_retained rule_if rule_at failed_content_rule failed_rule spec_ids_of pipe_key key_if_linked canonical canonical_entries key draws_of after_step distinct_keys retained_keys is_retained
discarded-keys = refl

-- a refused draw has no key
pub refused-keys : told_of (λ trace. length (distinct_keys trace) ∷ length (retained_keys trace) ∷ []) (text_of (codes "gplt 1" ∷ v1_line ∷ f1_line ∷ codes "layout 0 0 - - - -" ∷ codes "vertex 1 points - - - -" ∷ codes "prerast 1 0 0 0 0 0 cw" ∷ codes "fragment 1 1 0 0 - -" ∷ codes "output 1 0 1:1 - u1:1 - - -" ∷ codes "pipe 0 1 2" ∷ codes "target 0 u1 2 1 1 1 00000000" ∷ codes "bind 0 0 - - - -" ∷ codes "draw 0 0 0 1 0 1" ∷ [])) ≡ Ok (0 ∷ 0 ∷ [])
unfolding reading cause_of line_of version_of data_form code_form layout_form pipe_form target_form vertex_form prerast_form fragment_form output_form push_form vbuf_form ubuf_form scissor_form bind_form draw_form after_line is_too_many is_unknown binds_foreign is_bad_part judged_by_words list_of_cut entry_of class_of kinds result stage_of inputs_of outputs_of facts_of model_of decoration_of offset_of type_of known_by known_after known_of definition opcode_of program_of layouts_by held_layout block_offsets first_label_place pipe_libraries pipe_state state_if_linked pipe_rule lacks_subset repeats_subset has_unused_subset independence_differs disagree layouts_disagree view_masks_differ multisample_differs unfed_input misfed_input lacks_retained rule_if rule_at failed_content_rule failed_rule spec_ids_of pipe_key key_if_linked canonical canonical_entries key draws_of after_step distinct_keys retained_keys is_retained
refused-keys = refl

-- the order of attributes, and an entry that the module doesn't declare, make no other key
pub same_state-keys : told_of (λ trace. length (distinct_keys trace) ∷ length (retained_keys trace) ∷ []) (text_of (codes "gplt 1" ∷ v2_line ∷ f1_line ∷ codes "layout 0 0 - - - -" ∷ codes "vertex 1 points v:4 - - - 0:0:s4:0 1:0:u1:0" ∷ codes "vertex 1 points v:4 - - - 1:0:u1:0 0:0:s4:0" ∷ codes "prerast 1 0 0 0 0 0 cw" ∷ codes "prerast 1 0 0 0 0 0 cw 9=00000001" ∷ codes "fragment 1 1 0 0 - -" ∷ codes "output 1 0 1:1 - u1:1 - - -" ∷ codes "pipe 0 2 4 5" ∷ codes "pipe 1 3 4 5" ∷ codes "draw 0 0 0 0 0 0" ∷ codes "draw 0 1 0 0 0 0" ∷ [])) ≡ Ok (1 ∷ 1 ∷ [])
unfolding reading cause_of line_of version_of data_form code_form layout_form pipe_form target_form vertex_form prerast_form fragment_form output_form push_form vbuf_form ubuf_form scissor_form bind_form draw_form after_line is_too_many is_unknown binds_foreign is_bad_part judged_by_words list_of_cut entry_of class_of kinds result stage_of inputs_of outputs_of facts_of model_of decoration_of offset_of type_of known_by known_after known_of definition opcode_of program_of layouts_by held_layout block_offsets first_label_place pipe_libraries pipe_state state_if_linked pipe_rule lacks_subset repeats_subset has_unused_subset independence_differs disagree layouts_disagree view_masks_differ multisample_differs unfed_input misfed_input lacks_retained rule_if rule_at failed_content_rule failed_rule spec_ids_of pipe_key key_if_linked canonical canonical_entries key draws_of after_step distinct_keys retained_keys is_retained
same_state-keys = refl

-- an entry that the module declares makes another key, also where it is the default
pub declared_entry-keys : told_of (λ trace. length (distinct_keys trace) ∷ length (retained_keys trace) ∷ []) (text_of (codes "gplt 1" ∷ v1_line ∷ f2_line ∷ codes "layout 0 0 - - - -" ∷ codes "vertex 1 points - - - -" ∷ codes "prerast 1 0 0 0 0 0 cw" ∷ codes "fragment 1 1 0 0 - -" ∷ codes "fragment 1 1 0 0 - - 0=00000007" ∷ codes "fragment 1 1 0 0 - - 3=00000007 0=00000007" ∷ codes "fragment 0 1 0 0 - -" ∷ codes "output 1 0 1:1 - u1:1 - - -" ∷ codes "pipe 0 1 2 6" ∷ codes "pipe 0 1 3 6" ∷ codes "pipe 0 1 4 6" ∷ codes "pipe 0 1 5 6" ∷ codes "draw 0 0 0 0 0 0" ∷ codes "draw 1 1 0 0 0 0" ∷ codes "draw 2 2 0 0 0 0" ∷ codes "draw 0 3 0 0 0 0" ∷ [])) ≡ Ok (3 ∷ 2 ∷ [])
unfolding reading cause_of line_of version_of data_form code_form layout_form pipe_form target_form vertex_form prerast_form fragment_form output_form push_form vbuf_form ubuf_form scissor_form bind_form draw_form after_line is_too_many is_unknown binds_foreign is_bad_part judged_by_words list_of_cut entry_of class_of kinds result stage_of inputs_of outputs_of facts_of model_of decoration_of offset_of type_of known_by known_after known_of definition opcode_of program_of layouts_by held_layout block_offsets first_label_place pipe_libraries pipe_state state_if_linked pipe_rule lacks_subset repeats_subset has_unused_subset independence_differs disagree layouts_disagree view_masks_differ multisample_differs unfed_input misfed_input lacks_retained rule_if rule_at failed_content_rule failed_rule spec_ids_of pipe_key key_if_linked canonical canonical_entries key draws_of after_step distinct_keys retained_keys is_retained
declared_entry-keys = refl
