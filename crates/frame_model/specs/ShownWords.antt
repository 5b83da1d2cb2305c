-- The words that a frame shows of ids.
use Rattle.std.specs.Prelude.{◌≡◌, ℕ, ◌+◌, ◌≤◌, List, [], length, Option, None, Some}
use Rattle.spirv_model.specs.declared.module.Inst.{Inst}
use Rattle.valid_model.specs.Definitions.{definition, inst_at}
use Rattle.stage_model.specs.Program.{program_of}
use Rattle.frame_model.specs.Frame.{frame_place, frame_words}
use Rattle.frame_model.specs.Shown.{words_at}

-- those of the result of the instruction at a place; none without a place
abbrev pub shown_at : List Inst → List ℕ → Option ℕ → List ℕ
shown_at insts frame None = []
shown_at insts frame (Some place) = words_at frame (frame_place (program_of insts) place) (frame_words (program_of insts) (inst_at insts place))

-- those of an id's value; none without a definition
abbrev pub shown_of : List Inst → List ℕ → ℕ → List ℕ
shown_of insts frame id = shown_at insts frame (definition insts id)

-- an id is defined, and a frame shows all words of its value
pub record IsShown (insts : List Inst) (frame : List ℕ) (id : ℕ) : Type 0 where
  pub place : ℕ
  pub defined : definition insts id ≡ Some place
  pub fits : frame_place (program_of insts) place + frame_words (program_of insts) (inst_at insts place) ≤ length frame
