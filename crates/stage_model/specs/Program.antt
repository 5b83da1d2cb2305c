-- What is fixed for all runs of a module: its instructions, and what its ids, types, labels and decorations are.
use Rattle.std.specs.Prelude.{ℕ, suc, ◌+◌, ◌*◌, ◌==◌, Bool, ◌&&◌, if◌then◌else◌, List, [], ◌∷◌, ◌++◌, map, slice_index, is_none, Option, None, Some}
use Rattle.std.specs.Option.{option_map, option_and_then, unwrap_or}
use Rattle.std.specs.List.{fold, flat_map, range_with_len}
use Rattle.spirv_model.specs.declared.module.Inst.{Inst}
use Rattle.valid_model.specs.declared.meaning.Shape.{Shape}
use Rattle.valid_model.specs.declared.meaning.Shape.TheVariants.{Void, Bool as OneBool, Int, BoolVector, IntVector, Array, Struct, Pointer, Function}
use Rattle.valid_model.specs.declared.meaning.Meaning.{Meaning}
use Rattle.valid_model.specs.declared.meaning.Meaning.TheVariants.{Absent, Shape as OfShape, Variable}
use Rattle.spirv_model.specs.declared.op.TheConstants.{LABEL}
use Rattle.spirv_model.specs.declared.decoration.TheConstants.{ARRAY_STRIDE}
use Rattle.valid_model.specs.Definitions.{gives}
use Rattle.valid_model.specs.Meanings.{meaning}
use Rattle.valid_model.specs.DecorationWords.{decoration_of, offset_of}
use Rattle.stage_model.specs.Value.{Layout, OneTruth, OneWord, Several, Layouts, NoLayouts, LayoutsOf, repeated}

pub record Program : Type 0 where
  pub insts : List Inst
  -- what each id means
  pub meaning : ℕ → Meaning
  -- what values of the type with the id are made of
  pub layout : ℕ → Option Layout
  -- where the OpLabel of the label stands
  pub label_place : ℕ → Option ℕ
  -- the word of a decoration that an id has, and the offset of a structure's member in bytes
  pub decoration : ℕ → ℕ → Option ℕ
  pub offset : ℕ → ℕ → Option ℕ

-- ---- layouts of types

-- the layouts of types by their ids, if each has one
abbrev pub layouts_of : (ℕ → Option Layout) → List ℕ → Option Layouts
layouts_of layout [] = Some NoLayouts
layouts_of layout (id ∷ ids) = option_and_then (λ first. option_map (λ rest. LayoutsOf first rest) (layouts_of layout ids)) (layout id)

-- the layout of a type, by those of the types before it
abbrev pub layout_of_shape : (ℕ → Option Layout) → Shape → Option Layout
layout_of_shape layout OneBool = Some OneTruth
layout_of_shape layout (Int signed) = Some OneWord
layout_of_shape layout (BoolVector count) = Some (Several (repeated count OneTruth))
layout_of_shape layout (IntVector count signed) = Some (Several (repeated count OneWord))
layout_of_shape layout (Array element count) = option_map (λ of_element. Several (repeated count of_element)) (layout element)
layout_of_shape layout (Struct members) = option_map Several (layouts_of layout members.list)
layout_of_shape layout shape = None

abbrev pub layout_of : (ℕ → Option Layout) → Meaning → Option Layout
layout_of layout (OfShape shape) = layout_of_shape layout shape
layout_of layout meaning = None

-- the layouts after one more instruction, which may declare a type
abbrev pub layouts_after : (ℕ → Meaning) → (ℕ → Option Layout) → Inst → ℕ → Option Layout
layouts_after meaning layout inst id = if gives id inst && is_none (layout id) then layout_of layout (meaning id) else layout id

unfoldable pub layouts_by : (ℕ → Meaning) → List Inst → ℕ → Option Layout
layouts_by meaning insts = fold (layouts_after meaning) (λ _. None) insts

-- ---- of a list of instructions

abbrev pub is_label : ℕ → Inst → Bool
is_label label inst = (inst.op == LABEL) && (slice_index inst.words 0 == label)

-- the place of the first OpLabel of a label
unfoldable pub first_label_place : List Inst → ℕ → Option ℕ
first_label_place [] label = None
first_label_place (inst ∷ insts) label = if is_label label inst then Some 0 else option_map (λ place. suc place) (first_label_place insts label)

unfoldable pub program_of : List Inst → Program
program_of insts = record {
  insts = insts;
  meaning = meaning insts;
  layout = layouts_by (meaning insts) insts;
  label_place = first_label_place insts;
  decoration = decoration_of insts;
  offset = offset_of insts;
}

-- ---- variables and blocks

-- the id of the type that a pointer type points to
abbrev pub pointee : Meaning → Option ℕ
pointee (OfShape (Pointer class to)) = Some to
pointee meaning = None

-- the id of the type of what a variable holds
abbrev pub held : (ℕ → Meaning) → Meaning → Option ℕ
held meaning (Variable type class) = pointee (meaning type)
held meaning kind = None

abbrev pub held_type : Program → ℕ → Option ℕ
held_type program variable = held program.meaning (program.meaning variable)

-- the layout of what a variable holds
unfoldable pub held_layout : Program → ℕ → Option Layout
held_layout program variable = option_and_then program.layout (held_type program variable)

-- where the words of an integer or a vector of integers stand in a block, in bytes
abbrev pub component_offsets : Meaning → List ℕ
component_offsets (OfShape (Int signed)) = 0 ∷ []
component_offsets (OfShape (IntVector count signed)) = map (λ i. 4 * i) (range_with_len 0 count)
component_offsets meaning = []

abbrev pub shifted : ℕ → List ℕ → List ℕ
shifted by offsets = map (λ offset. by + offset) offsets

-- the same of an array of these too, by its ArrayStride
abbrev pub member_offsets : Program → ℕ → Meaning → List ℕ
member_offsets program type (OfShape (Array element count)) =
    flat_map (λ i. shifted (i * unwrap_or (program.decoration type ARRAY_STRIDE) 0) (component_offsets (program.meaning element))) (range_with_len 0 count)
member_offsets program type meaning = component_offsets meaning

-- the same of the members of a structure from one on, by their Offsets
abbrev pub members_offsets : Program → ℕ → ℕ → List ℕ → List ℕ
members_offsets program block member [] = []
members_offsets program block member (type ∷ types) =
    shifted (unwrap_or (program.offset block member) 0) (member_offsets program type (program.meaning type))
    ++ members_offsets program block (member + 1) types

abbrev pub offsets_in : Program → ℕ → Meaning → List ℕ
offsets_in program block (OfShape (Struct members)) = members_offsets program block 0 members.list
offsets_in program block meaning = []

-- where each word of a block stands in its buffer or among the push constants, in bytes
unfoldable pub block_offsets : Program → Option ℕ → List ℕ
block_offsets program None = []
block_offsets program (Some block) = offsets_in program block (program.meaning block)
