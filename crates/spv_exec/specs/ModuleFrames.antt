-- Where a module's values lie in its frame, as the code keeps it, and parts of types.
use Rattle.std.specs.Prelude.{◌≡◌, ℕ, ◌+◌, ◌^◌, ◌<◌, ◌≤◌, ◌==◌, nat_lt, if◌then◌else◌, ◌⊎◌, List, [], ◌∷◌, length, take, slice_index, Option, None, Some}
use Rattle.std.specs.List.{sum_by}
use Rattle.spirv_model.specs.declared.module.Inst.{Inst}
use Rattle.spirv_model.specs.declared.module.Words.{Words}
use Rattle.spirv_model.specs.declared.op.TheConstants.{TYPE_STRUCT}
use Rattle.spirv_model.specs.Operands.{words_from}
use Rattle.valid_model.specs.declared.meaning.Meaning.TheVariants.{Shape as OfShape}
use Rattle.valid_model.specs.declared.meaning.Shape.TheVariants.{Struct}
use Rattle.valid_model.specs.Definitions.{inst_at}
use Rattle.valid_model.specs.Meanings.{meaning}
use Rattle.check_model.specs.Validity.{IsValidList}
use Rattle.stage_model.specs.Value.{Layout, OneTruth, OneWord, part_along}
use Rattle.stage_model.specs.Program.{Program, program_of}
use Rattle.stage_model.specs.Stage.{size_in}
use Rattle.frame_model.specs.Frame.{frame_place, memory_place}
use Rattle.spv_exec.specs.declared.module_frame.Part.{Part}

-- the places of a module's results in the frame, up to the end of the module
pub record AreFramePlaces (insts : List Inst) (places : List ℕ) : Type 0 where
  pub count : length places ≡ length insts + 1
  pub are : (place : ℕ) → place ≤ length insts → slice_index places place ≡ frame_place (program_of insts) place

-- the places of its variables in the memory
pub record AreMemoryPlaces (insts : List Inst) (places : List ℕ) : Type 0 where
  pub count : length places ≡ length insts + 1
  pub are : (place : ℕ) → place ≤ length insts → slice_index places place ≡ memory_place (program_of insts) place

-- the types of the members of the structure that an instruction declares; none where it declares none
abbrev pub members_in : Inst → List ℕ
members_in inst = if inst.op == TYPE_STRUCT then words_from 1 inst else []

-- the words of the members in front of one of them
abbrev pub words_before : Program → List ℕ → ℕ → ℕ
words_before program members index = sum_by (λ id. size_in (program.layout id)) (take index members)

-- the starts of the members of each structure, which begin for the instruction at a place at its first
pub record AreMemberStarts (insts : List Inst) (firsts starts : List ℕ) : Type 0 where
  pub count : length firsts ≡ length insts
  pub within : (place : ℕ) → place < length insts → slice_index firsts place + length (members_in (inst_at insts place)) ≤ length starts
  pub are : (place index : ℕ) → place < length insts → index < length (members_in (inst_at insts place))
      → slice_index starts (slice_index firsts place + index) ≡ words_before (program_of insts) (members_in (inst_at insts place)) index

-- there is a start of the member with this index, in the structure that the instruction at the place declares
pub record HasStart (firsts starts : List ℕ) (place index : ℕ) : Type 0 where
  pub first : place < length firsts
  pub within : slice_index firsts place + index < length starts

-- the starts of these members were put behind others
pub record AddsStarts (program : Program) (members old new : List ℕ) : Type 0 where
  pub count : length new ≡ length old + length members
  pub kept : (k : ℕ) → k < length old → slice_index new k ≡ slice_index old k
  pub are : (index : ℕ) → index < length members → slice_index new (length old + index) ≡ words_before program members index

-- what the code keeps of a module
pub record IsModuleFrame (words : Words) (frame memory firsts starts : List ℕ) : Type 0 where
  pub valid : IsValidList words
  pub few : length words.insts < 2 ^ 32
  pub in_frame : AreFramePlaces words.insts frame
  pub in_memory : AreMemoryPlaces words.insts memory
  pub members : AreMemberStarts words.insts firsts starts

-- a scalar's layout
abbrev pub IsComponent : Layout → Type 0
IsComponent layout = (layout ≡ OneTruth) ⊎ (layout ≡ OneWord)

-- the type that a part is told to have has the part's layout; a vector's component is told without a type
abbrev pub HasPartType : Program → ℕ → Layout → Type 0
HasPartType program type layout = (program.layout type ≡ Some layout) ⊎ ((program.layout type ≡ None) × IsComponent layout)

-- where the part of a type with this index begins, and its type
abbrev pub AnswersPart : Program → Layout → ℕ → Option Part → Type 0
AnswersPart program whole index None = part_along whole (index ∷ []) ≡ None
AnswersPart program whole index (Some part) = (layout : Layout) × (part_along whole (index ∷ []) ≡ Some (part.start, layout)) × HasPartType program part.ty layout

-- the type with this id is the structure with these members
abbrev pub IsStructOf : Words → ℕ → List ℕ → Type 0
IsStructOf words type members = meaning words.insts type ≡ OfShape (Struct (record { list = members }))

-- the component with an index of a vector
abbrev pub component_part : (count index : ℕ) → Option Part
component_part count index = if nat_lt index count then Some (record { start = index; ty = 0 }) else None
