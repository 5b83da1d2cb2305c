-- What phis take, coming from the block before, and words that show it.
use Rattle.std.specs.Prelude.{◌≡◌, ℕ, ◌<◌, ◌≤◌, ◌==◌, true, List, [], ◌∷◌, length, drop, Option, None, Some}
use Rattle.spirv_model.specs.declared.op.TheConstants as op
use Rattle.valid_model.specs.Definitions.{definition, inst_at}
use Rattle.stage_model.specs.Value.{Value}
use Rattle.stage_model.specs.Program.{Program}
use Rattle.stage_model.specs.Start.{Values, all_values}
use Rattle.stage_model.specs.Effect.{paired_with}
use Rattle.frame_model.specs.Frame.{frame_words, in_frame}
use Rattle.frame_model.specs.Shown.{StandsAt}

-- no id, or one
abbrev pub ListsId : List ℕ → Option ℕ → Type 0
ListsId ids None = ids ≡ []
ListsId ids (Some id) = ids ≡ id ∷ []

-- each instruction from one place up to another is a phi
abbrev pub ArePhis : Program → ℕ → ℕ → Type 0
ArePhis program from to = (place : ℕ) → from ≤ place → place ≤ to → (inst_at program.insts place).op == op.PHI ≡ true

-- what the phi at a place takes, coming from the block before
abbrev pub Takes : Program → Values → ℕ → ℕ → Value → Type 0
Takes program values before place value = all_values values (paired_with before (drop 2 (inst_at program.insts place).words)) ≡ Some (value ∷ [])

-- the frame shows what the phi at a place takes, which fits its result
pub record PhiReads (program : Program) (frame : List ℕ) (values : Values) (before place : ℕ) : Type 0 where
  pub id : ℕ
  pub pair : paired_with before (drop 2 (inst_at program.insts place).words) ≡ id ∷ []
  pub value : Value
  pub has : values id ≡ Some value
  pub at : ℕ
  pub defined : definition program.insts id ≡ Some at
  pub stands : StandsAt program frame at value
  pub size : length (in_frame program value) ≡ frame_words program (inst_at program.insts place)

-- it does so for all phis from a place on
abbrev pub PhisRead : Program → List ℕ → Values → ℕ → ℕ → Type 0
PhisRead program frame values before from =
    (place : ℕ) → from ≤ place → place < length program.insts → ArePhis program from place → PhiReads program frame values before place

-- these words show what all phis from a place on take, each where it has its result
abbrev pub ShowsTaken : Program → List ℕ → Values → ℕ → ℕ → Type 0
ShowsTaken program incoming values before from =
    (place : ℕ) (value : Value) → from ≤ place → place < length program.insts → ArePhis program from place → Takes program values before place value
    → StandsAt program incoming place value
