-- Loads and stores on a frame and a memory of words.
use Rattle.std.specs.Prelude.{◌≡◌, ℕ, ◌<◌, ◌==◌, true, List, length, Some}
use Rattle.spirv_model.specs.declared.op.TheConstants as op
use Rattle.valid_model.specs.Definitions.{inst_at}
use Rattle.check_model.specs.Typing.{constant_word}
use Rattle.stage_model.specs.Value.{Value}
use Rattle.stage_model.specs.Program.{Program}
use Rattle.stage_model.specs.Start.{Values, Memory, all_values}
use Rattle.stage_model.specs.Effect.{Effect, Writes, effect_of, with_words}
use Rattle.typed_model.specs.Types.{AllSuit}
use Rattle.frame_model.specs.Shown.{Shows, ShowsMemory, IsFrame}
use Rattle.frame_model.specs.Written.{GivesAt, reads_at}

-- a load gives its result a value, from a memory that the words show
pub record LoadsSome (program : Program) (frame memory : List ℕ) (place : ℕ) : Type 0 where
  pub held : Memory
  pub value : Value
  pub holds : ShowsMemory program memory held
  pub gives : GivesAt program frame held place value

-- the store at a place has this effect, where the frame shows the values that it reads, and the words the memory
pub record StoresAt (program : Program) (frame memory : List ℕ) (held : Memory) (place : ℕ) (effect : Effect) : Type 0 where
  pub within : place < length program.insts
  pub stores : (inst_at program.insts place).op == op.STORE ≡ true
  pub size : IsFrame program frame
  pub values : Values
  pub shows : Shows program frame values
  pub holds : ShowsMemory program memory held
  pub read : List Value
  pub are : all_values values (reads_at program place) ≡ Some read
  pub suit : AllSuit program (constant_word program.insts) (reads_at program place) read
  pub effect_is : effect_of program held (inst_at program.insts place) read ≡ Some effect

pub record StoresSome (program : Program) (frame memory : List ℕ) (place : ℕ) : Type 0 where
  pub held : Memory
  pub effect : Effect
  pub stores : StoresAt program frame memory held place effect

-- the memory after an effect
abbrev pub memory_after : Memory → Effect → Memory
memory_after held (Writes variable place words) = with_words variable place words held
memory_after held effect = held
