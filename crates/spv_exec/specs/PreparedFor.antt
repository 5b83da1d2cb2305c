-- What a module is prepared for, and what a run of it leaves.
use Rattle.std.specs.Prelude.{◌≡◌, ℕ, List, length, Some}
use Rattle.spirv_model.specs.declared.module.Words.{Words}
use Rattle.state_model.specs.declared.parts.SpecValues.{SpecValues}
use Rattle.check_model.specs.Validity.{IsValidList}
use Rattle.stage_model.specs.declared.outcome.Ended.{Ended}
use Rattle.stage_model.specs.Program.{Program, program_of}
use Rattle.stage_model.specs.Start.{Memory}
use Rattle.stage_model.specs.Stage.{first_label, position_left, slots_left, left_by}
use Rattle.frame_model.specs.Frame.{memory_place}
use Rattle.frame_model.specs.Shown.{IsFrame}
use Rattle.spv_exec.specs.FirstFrames.{IsFirstFrame}
use Rattle.spv_exec.specs.declared.stand.End.{End}

-- the module, and the specialization entries
pub record PreparedFor : Type 0 where
  pub words : Words
  pub entries : SpecValues

-- the constants of a module with these entries, and room for its frame, for what its phis take, and for its variables
pub record IsPrepared (words variables : Words) (entries : SpecValues) (first : ℕ) (constants frame incoming memory : List ℕ) : Type 0 where
  pub valid : IsValidList words
  pub same : variables ≡ words
  pub first_is : first_label words.insts ≡ Some first
  pub shows : IsFirstFrame (program_of words.insts) entries first constants
  pub frame_size : IsFrame (program_of words.insts) frame
  pub incoming_size : IsFrame (program_of words.insts) incoming
  pub memory_size : length memory ≡ memory_place (program_of words.insts) (length words.insts)

-- what is left where an invocation ended so
abbrev pub left_so : Program → End → Memory → Ended
left_so program end held = record {
  kind = end.kind;
  position = position_left program (left_by end.kind held);
  slots = slots_left program (left_by end.kind held);
  work = end.work;
}
