-- Where an invocation stands, as the code keeps it, beside a frame and a memory of words.
use Rattle.std.specs.Prelude.{◌≡◌, ℕ, ◌<◌, List, Option, None, Some}
use Rattle.limits.specs.declared.TheConstants.{BACK_EDGES}
use Rattle.spirv_model.specs.declared.module.Words.{Words}
use Rattle.check_model.specs.Validity.{IsValidList}
use Rattle.stage_model.specs.declared.outcome.Kind.{Kind}
use Rattle.stage_model.specs.Program.{program_of}
use Rattle.stage_model.specs.Machine.{State, Machine, Step, GoesOn, Ends, step, run}
use Rattle.stage_model.specs.Stage.{enough_steps}
use Rattle.typed_model.specs.Running.{IsRunning}
use Rattle.frame_model.specs.Shown.{Shows, ShowsMemory, IsFrame}
use Rattle.spv_exec.specs.Phis.{ShowsTaken}
use Rattle.spv_exec.specs.declared.stand.Stand.{Stand}
use Rattle.spv_exec.specs.declared.stand.End.{End}

-- where an invocation begins
abbrev pub start : ℕ → Stand
start first = record { place = first; label = 0; before = 0; back_edges = 0; work = 0 }

-- the state has come to this, its values and its variables aside
pub record IsAt (state : State) (at : Stand) : Type 0 where
  pub label : state.label ≡ at.label
  pub before : state.before ≡ at.before
  pub back_edges : state.back_edges ≡ at.back_edges
  pub work : state.steps ≡ at.work

-- a step goes on to where this stands, or ends so; values and variables aside
abbrev pub LeadsTo : Option Kind → Stand → Step → Type 0
LeadsTo None at (GoesOn m) = (m.place ≡ at.place) × IsAt m.state at
LeadsTo None at (Ends kind state) = ⊥
LeadsTo (Some kind) at (GoesOn m) = ⊥
LeadsTo (Some kind) at (Ends own state) = (own ≡ kind) × IsAt state at

-- a machine that runs stands here; the frame shows the values of its ids, `incoming` what the phis take that are due, and the memory its variables
pub record Stands (words : Words) (m : Machine) (at : Stand) (frame incoming memory : List ℕ) : Type 0 where
  pub valid : IsValidList words
  pub running : IsRunning words.insts valid.derivation m
  pub place : m.place ≡ at.place
  pub state : IsAt m.state at
  pub few : at.back_edges < BACK_EDGES
  pub size : IsFrame (program_of words.insts) frame
  pub shows : Shows (program_of words.insts) frame m.state.values
  pub incoming_size : IsFrame (program_of words.insts) incoming
  pub taken : ShowsTaken (program_of words.insts) incoming m.state.values_at_entry m.state.before m.place
  pub holds : ShowsMemory (program_of words.insts) memory m.state.memory

pub record StandsSome (words : Words) (at : Stand) (frame incoming memory : List ℕ) : Type 0 where
  pub machine : Machine
  pub stands : Stands words machine at frame incoming memory

-- the machine's step goes on to where this stands, or ends so
abbrev pub StepsTo : Words → Machine → Option Kind → Stand → (frame incoming memory : List ℕ) → Type 0
StepsTo words m None at frame incoming memory =
    (next : Machine) × (step (program_of words.insts) m ≡ Some (GoesOn next)) × Stands words next at frame incoming memory
StepsTo words m (Some kind) at frame incoming memory =
    (state : State) × (step (program_of words.insts) m ≡ Some (Ends kind state)) × (state.steps ≡ at.work) × ShowsMemory (program_of words.insts) memory state.memory

-- a machine stands here that ends within the steps that a run has
pub record EndsSome (words : Words) (at : Stand) (frame incoming memory : List ℕ) : Type 0 where
  pub machine : Machine
  pub stands : Stands words machine at frame incoming memory
  pub kind : Kind
  pub state : State
  pub ends : run (enough_steps words.insts) (program_of words.insts) machine ≡ Some (kind, state)

-- what an invocation has come to
pub record EndsSo (words : Words) (end : End) (memory : List ℕ) (kind : Kind) (state : State) : Type 0 where
  pub kind_is : end.kind ≡ kind
  pub work : state.steps ≡ end.work
  pub holds : ShowsMemory (program_of words.insts) memory state.memory
