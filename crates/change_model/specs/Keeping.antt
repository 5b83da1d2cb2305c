-- When one module may stand for another: whatever it is given, it leaves the same, in no more steps and no more words.
use Rattle.std.specs.Prelude.{◌≡◌, ℕ, ◌≤◌, Bool, true, false, List, [], length, slice_index, slice_index_or, Option, Some}
use Rattle.spirv_model.specs.declared.module.Inst.{Inst}
use Rattle.spirv_model.specs.declared.module.Words.{Words}
use Rattle.spirv_model.specs.Module.{module_words}
use Rattle.body_model.specs.Switches.{is_among}
use Rattle.state_model.specs.declared.parts.SpecValues.{SpecValues}
use Rattle.state_model.specs.declared.buffers.Buffers.{Buffers}
use Rattle.check_model.specs.Interfaces.{stage_of, inputs_of, outputs_of}
use Rattle.check_model.specs.Validity.{IsValidList}
use Rattle.stage_model.specs.declared.inputs.Inputs.{Inputs}
use Rattle.stage_model.specs.Stage.{Given, Outcome, stage}

-- the inputs are zeros at these locations
abbrev pub AreZerosAt : List ℕ → Inputs → Type 0
AreZerosAt zeros inputs = (location at : ℕ) → is_among location zeros ≡ true → slice_index (slice_index_or inputs.slots location []) at ≡ 0

abbrev pub given : SpecValues → Inputs → Buffers → Given
given entries inputs buffers = record { entries = entries; inputs = inputs; buffers = buffers }

-- the first outcome is the second one, but for steps that are spared
pub record IsKept (new old : Outcome) : Type 0 where
  pub kind : new.kind ≡ old.kind
  pub position : new.position ≡ old.position
  pub slots : new.slots ≡ old.slots
  pub back_edges : new.back_edges ≡ old.back_edges
  pub work : new.work ≤ old.work

-- the same, but for the position, if nobody reads it, and for slots that nobody reads
pub record IsKeptBut (is_unread_position : Bool) (is_unread : ℕ → Bool) (new old : Outcome) : Type 0 where
  pub kind : new.kind ≡ old.kind
  pub position : is_unread_position ≡ false → new.position ≡ old.position
  pub locations : length new.slots ≡ length old.slots
  pub slots : (location : ℕ) → is_unread location ≡ false → slice_index_or new.slots location [] ≡ slice_index_or old.slots location []
  pub back_edges : new.back_edges ≡ old.back_edges
  pub work : new.work ≤ old.work

-- where the second has an outcome, the first has one too that is kept by a relation
abbrev pub KeepsOutcomeBy : (Outcome → Outcome → Type 0) → Option Outcome → Option Outcome → Type 0
KeepsOutcomeBy Kept new old = (outcome : Outcome) → old ≡ Some outcome → (kept : Outcome) × (new ≡ Some kept) × Kept kept outcome

abbrev pub KeepsOutcome : Option Outcome → Option Outcome → Type 0
KeepsOutcome new old = KeepsOutcomeBy IsKept new old

abbrev pub KeepsOutcomeBut : Bool → (ℕ → Bool) → Option Outcome → Option Outcome → Type 0
KeepsOutcomeBut is_unread_position is_unread new old = KeepsOutcomeBy (IsKeptBut is_unread_position is_unread) new old

-- the new module with some entries does what the old one does with its own ones, for all inputs that are zeros at these locations
pub record Keeps (zeros : List ℕ) (new : Words) (settled : SpecValues) (old : Words) (entries : SpecValues) : Type 0 where
  pub does : (inputs : Inputs) (buffers : Buffers) → AreZerosAt zeros inputs →
      KeepsOutcome (stage new.insts (given settled inputs buffers)) (stage old.insts (given entries inputs buffers))
  pub words : length (module_words new.insts new.bound) ≤ length (module_words old.insts old.bound)

-- it is of the same stage, and has the same inputs and outputs
pub record HasInterfaceOf (new old : List Inst) : Type 0 where
  pub stage : stage_of new ≡ stage_of old
  pub inputs : inputs_of new ≡ inputs_of old
  pub outputs : outputs_of new ≡ outputs_of old

-- all that is asked of a change: the new list is a valid module, too
pub record IsChange (zeros : List ℕ) (new : Words) (settled : SpecValues) (old : Words) (entries : SpecValues) : Type 0 where
  pub valid : IsValidList new
  pub keeps : Keeps zeros new settled old entries
  pub interface : HasInterfaceOf new.insts old.insts
