-- Where the values of ids lie in one frame of words, and the words of variables in one memory: each behind those that are
-- defined before it.
use Rattle.std.specs.Prelude.{ℕ, ◌+◌, ◌==◌, if◌then◌else◌, List, [], ◌∷◌, take, Option, None, Some}
use Rattle.std.specs.List.{sum_by}
use Rattle.std.specs.Option.{unwrap_or}
use Rattle.spirv_model.specs.declared.module.Inst.{Inst}
use Rattle.spirv_model.specs.declared.op.TheConstants.{VARIABLE}
use Rattle.spirv_model.specs.Operands.{result}
use Rattle.valid_model.specs.declared.meaning.Shape.TheVariants.{Pointer as PointerType}
use Rattle.valid_model.specs.declared.meaning.Meaning.{Meaning}
use Rattle.valid_model.specs.declared.meaning.Meaning.TheVariants.{Shape as OfShape}
use Rattle.valid_model.specs.Definitions.{definition}
use Rattle.check_model.specs.Typing.{type_id}
use Rattle.stage_model.specs.Value.{Value, Truth, Word, Composite, Pointer, Outside, words_of}
use Rattle.stage_model.specs.Program.{Program, held_layout}
use Rattle.stage_model.specs.Stage.{size_in}
use Rattle.stage_model.specs.Effect.{place_of}

-- ---- sizes

-- the words that a value of a type takes: a pointer takes one, and what isn't data none
abbrev pub type_words : Program → ℕ → Meaning → ℕ
type_words program type (OfShape (PointerType class to)) = 1
type_words program type meaning = size_in (program.layout type)

abbrev pub words_of_type : Program → Option ℕ → ℕ
words_of_type program None = 0
words_of_type program (Some type) = type_words program type (program.meaning type)

-- the words that the value of an id takes; none without one
abbrev pub id_words : Program → Option ℕ → ℕ
id_words program None = 0
id_words program (Some id) = words_of_type program (type_id (program.meaning id))

-- the words that the result of an instruction takes
unfoldable pub frame_words : Program → Inst → ℕ
frame_words program inst = id_words program (result inst)

-- the words of the variable that an instruction makes
unfoldable pub variable_words : Program → Inst → ℕ
variable_words program inst = if inst.op == VARIABLE then size_in (elim (result inst) [ None ↦ None | Some id ↦ held_layout program id ]) else 0

-- ---- places

-- where the result of the instruction at a place begins in the frame
unfoldable pub frame_place : Program → ℕ → ℕ
frame_place program place = sum_by (frame_words program) (take place program.insts)

-- where the variable that the instruction at a place makes begins in the memory
unfoldable pub memory_place : Program → ℕ → ℕ
memory_place program place = sum_by (variable_words program) (take place program.insts)

-- where the words of a variable begin; 0 without a definition
abbrev pub variable_place : Program → ℕ → ℕ
variable_place program variable = memory_place program (unwrap_or (definition program.insts variable) 0)

-- ---- values

-- the word that stands for a pointer outside of its variable, where no variable begins
abbrev pub OUTSIDE : ℕ
OUTSIDE = 0xffff_ffff

-- the words that stand for a value in the frame: a pointer is the place in the memory where its part begins
unfoldable pub in_frame : Program → Value → List ℕ
in_frame program (Pointer variable indices) = (variable_place program variable + unwrap_or (place_of program variable indices) 0) ∷ []
in_frame program Outside = OUTSIDE ∷ []
in_frame program (Truth b) = unwrap_or (words_of (Truth b)) []
in_frame program (Word word) = word ∷ []
in_frame program (Composite parts) = unwrap_or (words_of (Composite parts)) []
