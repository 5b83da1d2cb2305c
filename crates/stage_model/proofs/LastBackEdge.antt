-- The 4,095th back edge leads on, and the 4,096th loses the invocation: in the machine's steps, and in what code does.
use Rattle.std.proofs.Common.{◌≡◌, ℕ, Some, refl}
use Rattle.stage_model.specs.declared.outcome.Kind.TheVariants.{Lost}
use Rattle.stage_model.specs.Machine.{State, Stopped, Ends, at, back_to}
use Rattle.stage_model.specs.Running.{Run, turned}

-- the state where so many back edges were taken
abbrev taken : ℕ → State → State
taken back_edges state = record state { back_edges = back_edges }

pub steps_go_on : (place : ℕ) (state : State) → back_to place (taken 4094 state) ≡ at place (taken 4095 state)
steps_go_on place state = refl

pub steps_end : (place : ℕ) (state : State) → back_to place (taken 4095 state) ≡ Ends Lost (taken 4096 state)
steps_end place state = refl

pub turns_go_on : (again : Run) (state : State) → turned again (taken 4094 state) ≡ again (taken 4095 state)
turns_go_on again state = refl

pub turns_end : (again : Run) (state : State) → turned again (taken 4095 state) ≡ Some (Stopped Lost, taken 4096 state)
turns_end again state = refl
