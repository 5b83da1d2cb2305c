-- What a part of a function comes to, by the machine's steps.
use Rattle.std.specs.Prelude.{◌≡◌, ℕ, ◌<◌, ◌≤◌, List, slice_get, Option, None, Some}
use Rattle.std.specs.Option.{option_and_then}
use Rattle.limits.specs.declared.TheConstants.{BACK_EDGES}
use Rattle.stage_model.specs.declared.outcome.Kind.{Kind}
use Rattle.stage_model.specs.Program.{Program}
use Rattle.stage_model.specs.Machine.{State, Flow, Next, To, Stopped, done, Machine, Step, Ends, step}
use Rattle.stage_model.specs.Steps.{Steps, IsStuck}

abbrev pub machine : ℕ → State → Machine
machine place state = record { place = place; state = state }

-- where the machine's next instruction leads
unfoldable pub flow_at : Program → Machine → Option (Flow × State)
flow_at program m = option_and_then (λ inst. done program inst m.state) (slice_get program.insts m.place)

-- from a place on, before another place, an instruction leads to a label
pub record Flows (program : Program) (from to : ℕ) (state : State) (label : ℕ) (after : State) : Type 0 where
  pub place : ℕ
  pub at : State
  pub comes : Steps program (machine from state) (machine place at)
  pub low : from ≤ place
  pub high : place < to
  pub flows : flow_at program (machine place at) ≡ Some (To label, after)
  pub grows : state.back_edges ≤ after.back_edges
  pub few : after.back_edges < BACK_EDGES

-- the invocation ends
pub record Stops (program : Program) (from : ℕ) (state : State) (kind : Kind) (after : State) : Type 0 where
  pub at : Machine
  pub comes : Steps program (machine from state) at
  pub stops : step program at ≡ Some (Ends kind after)

-- what a part from one place up to another comes to, where so many back edges were taken; the labels where it may lead have this property
abbrev pub Leads : Program → (ℕ → Type 0) → ℕ → ℕ → State → Option (Flow × State) → Type 0
Leads program MayGo from to state None = IsStuck program (machine from state)
Leads program MayGo from to state (Some (Next, after)) = ⊥
Leads program MayGo from to state (Some (To label, after)) = Flows program from to state label after × MayGo label
Leads program MayGo from to state (Some (Stopped kind, after)) = Stops program from state kind after
