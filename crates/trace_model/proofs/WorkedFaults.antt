-- Texts that are no traces: the first faulty line, and the first cause on it, for each cause.
use Rattle.std.proofs.Common.{◌≡◌, ℕ, List, [], ◌∷◌, ◌++◌, replicate, refl}
use Rattle.std.specs.Prelude.{codes, map, Option, None, Some}
use Rattle.std.specs.Result.{result_err}
use Rattle.spirv_model.specs.declared.module.WordsFault.TheVariants as words
use Rattle.check_model.specs.declared.fault.CheckFault.TheVariants as fault
use Rattle.trace_model.specs.declared.line_fault.TraceFault.{TraceFault}
use Rattle.trace_model.specs.declared.line_fault.Cause.{Cause}
use Rattle.trace_model.specs.declared.line_fault.Cause.TheVariants.{NoHeader, BadLine, Unknown, BadModule, BadPart, ForeignTarget}
use Rattle.check_model.specs.Interfaces.{inputs_of, outputs_of, stage_of}
use Rattle.spirv_model.specs.Module.{list_of_cut}
use Rattle.spirv_model.specs.Operands.{class_of, entry_of, kinds, result}
use Rattle.stage_model.specs.Program.{block_offsets, first_label_place, held_layout, layouts_by, program_of}
use Rattle.trace_model.proofs.WorkedText.{f1_line, f4_line, judged_by_words, push_line, text_of, v1_line}
use Rattle.trace_model.specs.LibraryLines.{fragment_form, output_form, prerast_form, vertex_form}
use Rattle.trace_model.specs.LineForms.{line_of, version_of}
use Rattle.trace_model.specs.LinesBefore.{after_line}
use Rattle.trace_model.specs.ObjectCauses.{binds_foreign, is_too_many, is_unknown}
use Rattle.trace_model.specs.PartCauses.{is_bad_part}
use Rattle.trace_model.specs.Reading.{cause_of, reading}
use Rattle.trace_model.specs.RecorderLines.{bind_form, draw_form, push_form, scissor_form, ubuf_form, vbuf_form}
use Rattle.trace_model.specs.SetupLines.{code_form, data_form, layout_form, pipe_form, target_form}
use Rattle.valid_model.specs.DecorationWords.{decoration_of, offset_of}
use Rattle.valid_model.specs.Definitions.{definition}
use Rattle.valid_model.specs.Meanings.{known_after, known_by, known_of}
use Rattle.valid_model.specs.ModuleFacts.{facts_of, model_of, opcode_of}
use Rattle.valid_model.specs.Types.{type_of}

abbrev pub fault_of : List ℕ → Option TraceFault
fault_of text = result_err (reading judged_by_words text)

abbrev pub at : ℕ → Cause → Option TraceFault
at line cause = Some (record { line = line; cause = cause })

-- ---- whole texts

pub whole-texts :
    map fault_of (codes ""
    ∷ codes "gplt 3\n"
    ∷ codes "gplt\n"
    ∷ codes "gplt 1"
    ∷ codes "gplt 3"
    ∷ codes "gplt 1\r\n"
    ∷ codes "gplt 1\n\n"
    ∷ codes "gplt 2\ndata"
    ∷ codes "gplt 1\ndata\nfoo\nbar\ndata"
    ∷ codes "gplt 1\nvbuf 0 0 0\ndata\n"
    ∷ codes "gplt 1\ngplt 1\n" ∷ [])
    ≡ at 1 NoHeader
    ∷ at 1 NoHeader
    ∷ at 1 NoHeader
    ∷ at 1 BadLine
    ∷ at 1 NoHeader
    ∷ at 1 NoHeader
    ∷ at 2 BadLine
    ∷ at 2 BadLine
    ∷ at 3 BadLine
    ∷ at 2 Unknown
    ∷ at 2 BadLine ∷ []
unfolding reading version_of line_of data_form vbuf_form cause_of is_too_many is_unknown is_bad_part binds_foreign after_line
whole-texts = refl

-- ---- lines behind others

-- two modules, a uniform word, a push constant at 4, three layouts, a library of each subset, a pipe, two buffers, and of two
-- recorders a colour and a depth target each
abbrev pub setup : List (List ℕ)
setup = codes "gplt 1" ∷ v1_line ∷ f1_line ∷ f4_line ∷ (push_line 4) ∷ codes "layout 0 1 - - - -" ∷ codes "layout 0 2 1 - - -" ∷ codes "layout 0 32 254 1 1 1" ∷ codes "vertex 1 points - - - -" ∷ codes "prerast 1 0 0 0 0 0 cw" ∷ codes "fragment 1 1 0 0 - -" ∷ codes "output 1 0 1:1 - u1:1 - - -" ∷ codes "pipe 0 1 2 3" ∷ codes "data" ∷ codes "data" ∷ codes "target 0 u1 1 1 1 1 00000000" ∷ codes "target 0 z 1 1 1 1 00000000" ∷ codes "target 1 u1 1 1 1 1 00000000" ∷ codes "target 1 z 1 1 1 1 00000000" ∷ []

-- the faults of the setup with one of these lines behind it
abbrev pub faults_behind : List (List ℕ) → List (Option TraceFault)
faults_behind lines = map (λ line. fault_of (text_of (setup ++ line ∷ []))) lines

pub no-faults : faults_behind (codes "vbuf 0 0 1" ∷ codes "ubuf 0 0 0 1" ∷ codes "ubuf 0 3 7 -" ∷ codes "bind 0 0 0 - - 1" ∷ codes "bind 1 - - 2 - 3" ∷ codes "draw 0 0 0 1 0 1" ∷ codes "pipe 3 3 3 3" ∷ codes "fragment 1 2 1 0 - -" ∷ codes "fragment 1 3 1 0 - -" ∷ codes "fragment 1 3 2 0 - -" ∷ codes "prerast 1 0 2 0 0 0 cw" ∷ codes "vertex 1 points v:1 - - - 3:0:u1:0 4:0:u1:0" ∷ codes "data" ∷ []) ≡ replicate 13 None
unfolding reading cause_of line_of version_of data_form code_form layout_form pipe_form target_form vertex_form prerast_form fragment_form output_form push_form vbuf_form ubuf_form scissor_form bind_form draw_form after_line is_too_many is_unknown binds_foreign is_bad_part judged_by_words list_of_cut entry_of class_of kinds result stage_of inputs_of outputs_of facts_of model_of decoration_of offset_of type_of known_by known_after known_of definition opcode_of program_of layouts_by held_layout block_offsets first_label_place
no-faults = refl

-- an object that no earlier line made, or a target of the wrong sort
pub unknown-faults : faults_behind (codes "prerast 1 4 0 0 0 0 cw" ∷ codes "prerast 1 0 3 0 0 0 cw" ∷ codes "prerast 1 99999999999999999999 0 0 0 0 cw" ∷ codes "fragment 1 4 0 0 - -" ∷ codes "fragment 1 1 3 0 - -" ∷ codes "pipe 0 1 2 4" ∷ codes "vbuf 0 0 2" ∷ codes "ubuf 0 0 0 2" ∷ codes "ubuf 0 0 0 99999999999999999999" ∷ codes "bind 0 4 - - - -" ∷ codes "bind 0 - - - - 4" ∷ codes "bind 0 1 - - - -" ∷ codes "bind 0 - - - 1 -" ∷ codes "bind 0 - - - - 0" ∷ codes "draw 0 1 0 1 0 1" ∷ codes "draw 0 99999999999999999999 0 1 0 1" ∷ []) ≡ replicate 16 (at 20 Unknown)
unfolding reading cause_of line_of version_of data_form code_form layout_form pipe_form target_form vertex_form prerast_form fragment_form output_form push_form vbuf_form ubuf_form scissor_form bind_form draw_form after_line is_too_many is_unknown binds_foreign is_bad_part judged_by_words list_of_cut entry_of class_of kinds result stage_of inputs_of outputs_of facts_of model_of decoration_of offset_of type_of known_by known_after known_of definition opcode_of program_of layouts_by held_layout block_offsets first_label_place
unknown-faults = refl

-- a library that contradicts itself, or whose module and layout don't fit it
pub part-faults : faults_behind (codes "vertex 1 points v:1 - - - 3:0:u1:0 3:0:u1:0" ∷ codes "vertex 1 points v:1 - - - 3:1:u1:0" ∷ codes "prerast 1 1 0 0 0 0 cw" ∷ codes "fragment 1 0 0 0 - -" ∷ codes "prerast 1 0 0 0 0 0 cw 7=00000000 8=00000000 7=00000000" ∷ codes "fragment 1 1 0 0 - - 7=00000000 7=00000000" ∷ codes "fragment 1 2 0 0 - -" ∷ codes "fragment 1 2 2 0 - -" ∷ codes "fragment 1 3 0 0 - -" ∷ []) ≡ replicate 9 (at 20 BadPart)
unfolding reading cause_of line_of version_of data_form code_form layout_form pipe_form target_form vertex_form prerast_form fragment_form output_form push_form vbuf_form ubuf_form scissor_form bind_form draw_form after_line is_too_many is_unknown binds_foreign is_bad_part judged_by_words list_of_cut entry_of class_of kinds result stage_of inputs_of outputs_of facts_of model_of decoration_of offset_of type_of known_by known_after known_of definition opcode_of program_of layouts_by held_layout block_offsets first_label_place
part-faults = refl

-- a target of another recorder
pub foreign-faults : faults_behind (codes "bind 0 2 - - - -" ∷ codes "bind 0 - - - 2 -" ∷ codes "bind 0 - - - - 3" ∷ codes "bind 1 2 - - - 1" ∷ codes "bind 2 0 - - - -" ∷ []) ≡ replicate 5 (at 20 ForeignTarget)
unfolding reading cause_of line_of version_of data_form code_form layout_form pipe_form target_form vertex_form prerast_form fragment_form output_form push_form vbuf_form ubuf_form scissor_form bind_form draw_form after_line is_too_many is_unknown binds_foreign is_bad_part judged_by_words list_of_cut entry_of class_of kinds result stage_of inputs_of outputs_of facts_of model_of decoration_of offset_of type_of known_by known_after known_of definition opcode_of program_of layouts_by held_layout block_offsets first_label_place
foreign-faults = refl

-- words that aren't a module's
pub header-faults : faults_behind (codes "code" ∷ codes "code 07230203 00010000 00000000 ffffffff 00000000" ∷ codes "code 07230203 00010000 00000000 00000000 00000000" ∷ codes "code 00000000" ∷ []) ≡ replicate 4 (at 20 (BadModule (fault.Words words.BadHeader)))
unfolding reading cause_of line_of version_of data_form code_form layout_form pipe_form target_form vertex_form prerast_form fragment_form output_form push_form vbuf_form ubuf_form scissor_form bind_form draw_form after_line is_too_many is_unknown binds_foreign is_bad_part judged_by_words list_of_cut entry_of class_of kinds result stage_of inputs_of outputs_of facts_of model_of decoration_of offset_of type_of known_by known_after known_of definition opcode_of program_of layouts_by held_layout block_offsets first_label_place
header-faults = refl

pub zero_length-faults : faults_behind (codes "code 07230203 00010000 00000000 00000009 00000000 00000011" ∷ []) ≡ replicate 1 (at 20 (BadModule (fault.Words words.ZeroLength)))
unfolding reading cause_of line_of version_of data_form code_form layout_form pipe_form target_form vertex_form prerast_form fragment_form output_form push_form vbuf_form ubuf_form scissor_form bind_form draw_form after_line is_too_many is_unknown binds_foreign is_bad_part judged_by_words list_of_cut entry_of class_of kinds result stage_of inputs_of outputs_of facts_of model_of decoration_of offset_of type_of known_by known_after known_of definition opcode_of program_of layouts_by held_layout block_offsets first_label_place
zero_length-faults = refl

pub cut_short-faults : faults_behind (codes "code 07230203 00010000 00000000 00000009 00000000 00020011" ∷ []) ≡ replicate 1 (at 20 (BadModule (fault.Words words.CutShort)))
unfolding reading cause_of line_of version_of data_form code_form layout_form pipe_form target_form vertex_form prerast_form fragment_form output_form push_form vbuf_form ubuf_form scissor_form bind_form draw_form after_line is_too_many is_unknown binds_foreign is_bad_part judged_by_words list_of_cut entry_of class_of kinds result stage_of inputs_of outputs_of facts_of model_of decoration_of offset_of type_of known_by known_after known_of definition opcode_of program_of layouts_by held_layout block_offsets first_label_place
cut_short-faults = refl

pub float-faults : faults_behind (codes "code 07230203 00010000 00000000 00000009 00000000 00030016 00000001 00000020" ∷ []) ≡ replicate 1 (at 20 (BadModule (fault.Words words.FloatType)))
unfolding reading cause_of line_of version_of data_form code_form layout_form pipe_form target_form vertex_form prerast_form fragment_form output_form push_form vbuf_form ubuf_form scissor_form bind_form draw_form after_line is_too_many is_unknown binds_foreign is_bad_part judged_by_words list_of_cut entry_of class_of kinds result stage_of inputs_of outputs_of facts_of model_of decoration_of offset_of type_of known_by known_after known_of definition opcode_of program_of layouts_by held_layout block_offsets first_label_place
float-faults = refl

-- a cause that stands before another on one line
pub unended_order-faults : faults_behind (codes "draw 0 9 0 65537 0 1" ∷ codes "vbuf 4 9 9" ∷ codes "bind 0 9 9 9 9 9 9" ∷ []) ≡ replicate 3 (at 20 BadLine)
unfolding reading cause_of line_of version_of data_form code_form layout_form pipe_form target_form vertex_form prerast_form fragment_form output_form push_form vbuf_form ubuf_form scissor_form bind_form draw_form after_line is_too_many is_unknown binds_foreign is_bad_part judged_by_words list_of_cut entry_of class_of kinds result stage_of inputs_of outputs_of facts_of model_of decoration_of offset_of type_of known_by known_after known_of definition opcode_of program_of layouts_by held_layout block_offsets first_label_place
unended_order-faults = refl

pub unknown_order-faults : faults_behind (codes "prerast 1 0 9 0 0 0 cw 7=00000000 7=00000000" ∷ codes "prerast 1 1 9 0 0 0 cw" ∷ codes "bind 0 2 - - - 0" ∷ codes "bind 1 0 9 - - -" ∷ []) ≡ replicate 4 (at 20 Unknown)
unfolding reading cause_of line_of version_of data_form code_form layout_form pipe_form target_form vertex_form prerast_form fragment_form output_form push_form vbuf_form ubuf_form scissor_form bind_form draw_form after_line is_too_many is_unknown binds_foreign is_bad_part judged_by_words list_of_cut entry_of class_of kinds result stage_of inputs_of outputs_of facts_of model_of decoration_of offset_of type_of known_by known_after known_of definition opcode_of program_of layouts_by held_layout block_offsets first_label_place
unknown_order-faults = refl
