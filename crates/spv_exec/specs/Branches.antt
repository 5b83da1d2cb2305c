-- Where a branch goes, by what a frame shows.
use Rattle.std.specs.Prelude.{◌≡◌, ℕ, ◌<◌, List, length, Some}
use Rattle.check_model.specs.Typing.{constant_word}
use Rattle.valid_model.specs.Definitions.{inst_at}
use Rattle.stage_model.specs.Value.{Value}
use Rattle.stage_model.specs.Program.{Program}
use Rattle.stage_model.specs.Start.{Values, Memory, all_values}
use Rattle.stage_model.specs.Effect.{Goes, effect_of}
use Rattle.typed_model.specs.Types.{AllSuit}
use Rattle.frame_model.specs.Shown.{Shows, IsFrame}
use Rattle.frame_model.specs.Written.{reads_at}

-- the branch at a place goes to the label, where the frame shows the values that it reads
pub record GoesAt (program : Program) (frame : List ℕ) (place label : ℕ) : Type 0 where
  pub within : place < length program.insts
  pub size : IsFrame program frame
  pub values : Values
  pub shows : Shows program frame values
  pub read : List Value
  pub are : all_values values (reads_at program place) ≡ Some read
  pub suit : AllSuit program (constant_word program.insts) (reads_at program place) read
  pub held : Memory
  pub effect : effect_of program held (inst_at program.insts place) read ≡ Some (Goes label)
