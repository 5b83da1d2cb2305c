-- Results that are written into a frame, and words that are written into a memory.
use Rattle.std.specs.Prelude.{◌≡◌, ℕ, ◌+◌, ◌<◌, List, length, drop, take, ◌++◌, slice_index, Some}
use Rattle.valid_model.specs.Definitions.{inst_at}
use Rattle.check_model.specs.Typing.{constant_word}
use Rattle.stage_model.specs.Value.{Value}
use Rattle.stage_model.specs.Program.{Program}
use Rattle.stage_model.specs.Start.{Values, Memory, all_values}
use Rattle.stage_model.specs.Effect.{Gives, read_ids, effect_of}
use Rattle.typed_model.specs.Types.{AllSuit}
use Rattle.typed_model.specs.Values.{IsOfType}
use Rattle.frame_model.specs.Shown.{Shows, IsFrame}

-- a list with these words in place of those from a place on
abbrev pub written : List ℕ → (place : ℕ) → List ℕ → List ℕ
written words place new = take place words ++ new ++ drop (place + length new) words

-- the ids that the instruction at a place reads; it is no phi
abbrev pub reads_at : Program → ℕ → List ℕ
reads_at program place = read_ids (inst_at program.insts place).op 0 (inst_at program.insts place).words

-- the instruction at a place gives its result this value, where the frame shows the values that it reads
pub record GivesAt (program : Program) (frame : List ℕ) (held : Memory) (place : ℕ) (value : Value) : Type 0 where
  pub within : place < length program.insts
  pub size : IsFrame program frame
  pub values : Values
  pub shows : Shows program frame values
  pub read : List Value
  pub are : all_values values (reads_at program place) ≡ Some read
  pub suit : AllSuit program (constant_word program.insts) (reads_at program place) read
  pub effect : effect_of program held (inst_at program.insts place) read ≡ Some (Gives value)
  pub typed : IsOfType program (slice_index (inst_at program.insts place).words 0) value

-- it gives its result a value
pub record GivesSome (program : Program) (frame : List ℕ) (place : ℕ) : Type 0 where
  pub held : Memory
  pub value : Value
  pub gives : GivesAt program frame held place value
