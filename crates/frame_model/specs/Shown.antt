-- What a frame shows of the values of ids, and a memory of variables.
use Rattle.std.specs.Prelude.{◌≡◌, ℕ, ◌+◌, ◌<◌, List, length, drop, take, slice_index, Some}
use Rattle.valid_model.specs.Definitions.{definition, inst_at}
use Rattle.check_model.specs.Typing.{constant_word}
use Rattle.stage_model.specs.Value.{Value}
use Rattle.stage_model.specs.Program.{Program}
use Rattle.stage_model.specs.Start.{Values, Memory}
use Rattle.typed_model.specs.Types.{Suits}
use Rattle.frame_model.specs.Frame.{frame_words, frame_place, memory_place, variable_words, in_frame}
use Rattle.frame_model.specs.Truths.{HoldsTruths}

-- so many words of a list from a place on
abbrev pub words_at : List ℕ → (place count : ℕ) → List ℕ
words_at words place count = take count (drop place words)

-- the frame has room for all results of a module
abbrev pub IsFrame : Program → List ℕ → Type 0
IsFrame program frame = length frame ≡ frame_place program (length program.insts)

-- a value stands in the frame where the instruction at a place has its result
pub record StandsAt (program : Program) (frame : List ℕ) (place : ℕ) (value : Value) : Type 0 where
  pub size : length (in_frame program value) ≡ frame_words program (inst_at program.insts place)
  pub stands : words_at frame (frame_place program place) (frame_words program (inst_at program.insts place)) ≡ in_frame program value

-- each id that has a value shows it, and the value suits the id
pub record Shows (program : Program) (frame : List ℕ) (values : Values) : Type 0 where
  pub suits : (id : ℕ) (value : Value) → values id ≡ Some value → Suits program (constant_word program.insts) id value
  pub stands : (id place : ℕ) (value : Value) → definition program.insts id ≡ Some place → values id ≡ Some value → StandsAt program frame place value

-- the memory has room for all variables of a module, and shows each of their words; truth values are 0 or 1
pub record ShowsMemory (program : Program) (words : List ℕ) (memory : Memory) : Type 0 where
  pub size : length words ≡ memory_place program (length program.insts)
  pub shows : (variable place k : ℕ) → definition program.insts variable ≡ Some place → k < variable_words program (inst_at program.insts place)
      → slice_index words (memory_place program place + k) ≡ memory variable k
  pub truths : HoldsTruths program memory
