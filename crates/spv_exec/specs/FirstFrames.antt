-- The frame where a module's function begins.
use Rattle.std.specs.Prelude.{◌≡◌, ℕ, ◌<◌, ◌==◌, Bool, ◌||◌, if◌then◌else◌, List, [], ◌∷◌, take, slice_index, Option, None, Some}
use Rattle.spirv_model.specs.declared.module.Inst.{Inst}
use Rattle.spirv_model.specs.declared.op.TheConstants as op
use Rattle.state_model.specs.declared.parts.Entry.{Entry}
use Rattle.state_model.specs.declared.parts.SpecValues.{SpecValues}
use Rattle.valid_model.specs.Definitions.{definition, inst_at}
use Rattle.stage_model.specs.Value.{Value, words_of}
use Rattle.stage_model.specs.Program.{Program, program_of}
use Rattle.stage_model.specs.Start.{constant_of, defined_by}
use Rattle.frame_model.specs.Frame.{frame_place, in_frame}
use Rattle.frame_model.specs.Shown.{Shows, IsFrame}

-- it shows the values that the module's level defines, in front of the first label
pub record IsFirstFrame (program : Program) (entries : SpecValues) (first : ℕ) (frame : List ℕ) : Type 0 where
  pub size : IsFrame program frame
  pub shows : Shows program frame (defined_by program entries (take first program.insts))

-- and each id that has a value is defined there
pub record IsDefined (insts : List Inst) (entries : SpecValues) (count : ℕ) (frame : List ℕ) : Type 0 where
  pub is : IsFirstFrame (program_of insts) entries count frame
  pub early : (id : ℕ) (value : Value) → defined_by (program_of insts) entries (take count insts) id ≡ Some value
      → (place : ℕ) × (definition insts id ≡ Some place) × (place < count)

-- ---- which instructions of the module's level give their results values

-- all words of the value are zeros
abbrev pub defines_zeros : ℕ → Bool
defines_zeros opcode = (opcode == op.CONSTANT_NULL) || (opcode == op.UNDEF)

-- the value is made of other values
abbrev pub defines_composite : ℕ → Bool
defines_composite opcode = (opcode == op.CONSTANT_COMPOSITE) || (opcode == op.SPEC_CONSTANT_COMPOSITE)

abbrev pub defines_one : ℕ → Bool
defines_one opcode =
    (opcode == op.CONSTANT_TRUE) || (opcode == op.CONSTANT_FALSE) || (opcode == op.CONSTANT) || (opcode == op.SPEC_CONSTANT_TRUE)
    || (opcode == op.SPEC_CONSTANT_FALSE) || (opcode == op.SPEC_CONSTANT) || (opcode == op.SPEC_CONSTANT_OP) || (opcode == op.VARIABLE)

abbrev pub defines_value : ℕ → Bool
defines_value opcode = defines_one opcode || defines_zeros opcode || defines_composite opcode

-- the value of the instruction at a place is this word in the frame
abbrev pub DefinesWord : List Inst → SpecValues → ℕ → ℕ → Type 0
DefinesWord insts entries place word =
    (value : Value) → constant_of (program_of insts) entries (defined_by (program_of insts) entries (take place insts)) (inst_at insts place).op (inst_at insts place).words ≡ Some value
    → in_frame (program_of insts) value ≡ word ∷ []

-- the word of an entry, if it has this id
abbrev pub entry_value : Option Entry → ℕ → Option ℕ
entry_value None id = None
entry_value (Some entry) id = if entry.id == id then Some entry.value else None

-- the value of an id is one word, which a frame shows
pub record IsShownWord (insts : List Inst) (frame : List ℕ) (id : ℕ) (value : Value) : Type 0 where
  pub place : ℕ
  pub defined : definition insts id ≡ Some place
  pub word : words_of value ≡ Some (slice_index frame (frame_place (program_of insts) place) ∷ [])

abbrev pub AreShownWords : List Inst → List ℕ → List ℕ → List Value → Type 0
AreShownWords insts frame [] [] = Unit {0}
AreShownWords insts frame (id ∷ ids) (value ∷ values) = IsShownWord insts frame id value × AreShownWords insts frame ids values
AreShownWords insts frame ids values = ⊥
