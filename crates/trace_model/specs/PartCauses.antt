-- The cause BadPart: a library contradicts itself, or its module isn't of its stage or uses what its layout doesn't have.
use Rattle.std.specs.Prelude.{ℕ, ◌+◌, ◌*◌, Bool, true, false, not, ◌&&◌, ◌||◌, nat_lt, List, map, Option, None, Some, is_none}
use Rattle.std.specs.List.{list_any, slice_get}
use Rattle.std.specs.Option.{option_map_or}
use Rattle.spirv_model.specs.declared.module.Inst.{Inst}
use Rattle.spirv_model.specs.declared.module.Words.{Words}
use Rattle.spirv_model.specs.declared.storage_class.TheConstants as storage_class
use Rattle.spirv_model.specs.Operands.{word_at}
use Rattle.body_model.specs.Switches.{repeat}
use Rattle.valid_model.specs.DecorationWords.{slot_of}
use Rattle.valid_model.specs.EarlierFacts.{is_variable_of}
use Rattle.state_model.specs.declared.parts.VertexBinding.{VertexBinding}
use Rattle.state_model.specs.declared.parts.Layout.{Layout}
use Rattle.state_model.specs.declared.parts.Entry.{Entry}
use Rattle.state_model.specs.Lawful.{present_at}
use Rattle.check_model.specs.declared.stage.Stage.{Stage}
use Rattle.check_model.specs.declared.stage.Stage.TheVariants.{Vertex, Fragment}
use Rattle.check_model.specs.Interfaces.{stage_of}
use Rattle.stage_model.specs.Program.{program_of, held_type, block_offsets}
use Rattle.draw_model.specs.Pixel.{has_bit}
use Rattle.trace_model.specs.Lines.{LocatedAttribute, VertexLine, Line, vertex_line, prerast_line, fragment_line}
use Rattle.trace_model.specs.LinesBefore.{Before, layout_at}

-- ---- vertex input

abbrev pub lacks_binding : List (Option VertexBinding) → LocatedAttribute → Bool
lacks_binding bindings a = is_none (present_at bindings a.attribute.binding)

-- two attributes have one location, or an attribute's binding isn't there
abbrev pub is_bad_vertex : VertexLine → Bool
is_bad_vertex line = repeat (map (λ a. a.location) line.attributes) || list_any (lacks_binding line.bindings) line.attributes

-- ---- what a module uses of its layout

abbrev pub stages_differ : Stage → Stage → Bool
stages_differ Vertex Vertex = false
stages_differ Fragment Fragment = false
stages_differ stage other = true

-- the set isn't defined, or hasn't the binding
abbrev pub lacks_slot : Layout → Option (ℕ × ℕ) → Bool
lacks_slot layout None = true
lacks_slot layout (Some slot) = option_map_or (λ mask. not (has_bit mask slot.1)) (present_at layout.sets slot.0) true

-- a Uniform variable whose set or binding the layout lacks
abbrev pub lacks_uniform : List Inst → Layout → Inst → Bool
lacks_uniform insts layout inst = is_variable_of storage_class.UNIFORM inst && lacks_slot layout (slot_of insts (word_at 1 inst))

-- a PushConstant variable with a word that ends behind the push constants, in bytes
abbrev pub exceeds_push : List Inst → Layout → Inst → Bool
exceeds_push insts layout inst =
    is_variable_of storage_class.PUSH_CONSTANT inst
    && list_any (λ offset. nat_lt (4 * layout.push_words) (offset + 4))
    (block_offsets (program_of insts) (held_type (program_of insts) (word_at 1 inst)))

abbrev pub exceeds_layout : List Inst → Layout → Bool
exceeds_layout insts layout = list_any (lacks_uniform insts layout) insts || list_any (exceeds_push insts layout) insts

-- ---- shaders

-- the module is of another stage, an entry's id stands twice, or the module uses what the layout lacks
abbrev pub is_bad_shader : Stage → Words → Layout → List Entry → Bool
is_bad_shader stage read layout entries =
    stages_differ stage (stage_of read.insts) || repeat (map (λ e. e.id) entries) || exceeds_layout read.insts layout

-- the same by the module's number and the layout's; that there is such a module is asked before
abbrev pub is_bad_numbered : Stage → Before → (module_number layout_number : ℕ) → List Entry → Bool
is_bad_numbered stage before module_number layout_number entries =
    option_map_or (λ read. is_bad_shader stage read (layout_at before layout_number) entries)
    (slice_get before.trace.modules module_number) false

unfoldable pub is_bad_part : Before → Line → Bool
is_bad_part before (vertex_line line) = is_bad_vertex line
is_bad_part before (prerast_line line) = is_bad_numbered Vertex before line.module_number line.layout_number line.entries
is_bad_part before (fragment_line line) = is_bad_numbered Fragment before line.module_number line.layout_number line.entries
is_bad_part before line = false
