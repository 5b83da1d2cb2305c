-- The machine that runs a module's instructions one by one.
use Rattle.std.specs.Prelude.{◌≡◌, ℕ, zero, suc, ◌+◌, ◌-◌, ◌==◌, Bool, nat_le, nat_lt, if◌then◌else◌, List, [], ◌∷◌, take, slice_index, slice_get, Option, None, Some}
use Rattle.std.specs.Option.{option_map, option_and_then}
use Rattle.limits.specs.declared.TheConstants.{BACK_EDGES}
use Rattle.spirv_model.specs.declared.module.Inst.{Inst}
use Rattle.spirv_model.specs.declared.op.TheConstants as op
use Rattle.stage_model.specs.declared.outcome.Kind.{Kind}
use Rattle.stage_model.specs.declared.outcome.Kind.TheVariants.{Lost}
use Rattle.stage_model.specs.Value.{Value}
use Rattle.stage_model.specs.Program.{Program}
use Rattle.stage_model.specs.Start.{Values, Memory, with_value, all_values}
use Rattle.stage_model.specs.Effect.{Effect, Passes, Gives, Writes, Enters, Goes, Stops, read_ids, effect_of, with_words}

-- What an invocation has come to, apart from its place.
pub record State : Type 0 where
  -- the block that runs, and the one before it
  pub label : ℕ
  pub before : ℕ
  -- the values of ids now, and when the block was entered
  pub values : Values
  pub values_at_entry : Values
  pub memory : Memory
  pub back_edges : ℕ
  pub steps : ℕ

-- where an instruction leads: to the next one, to a block, or to the invocation's end
pub data Flow : Type 0 where
  Next : Flow
  To : ℕ → Flow
  Stopped : Kind → Flow

-- a phi reads the values at its block's entry, so that all phis of a block take theirs at once
abbrev pub read_from : State → ℕ → Values
read_from state opcode = if opcode == op.PHI then state.values_at_entry else state.values

-- the values that an instruction reads
unfoldable pub read_values : Inst → State → Option (List Value)
read_values inst state = all_values (read_from state inst.op) (read_ids inst.op state.before inst.words)

abbrev pub counted : State → State
counted state = record state { steps = state.steps + 1 }

-- the state after an effect of an instruction, and where it leads
abbrev pub after_effect : Inst → State → Effect → Flow × State
after_effect inst state Passes = (Next, counted state)
after_effect inst state (Gives value) = (Next, record (counted state) { values = with_value (slice_index inst.words 1) (Some value) state.values })
after_effect inst state (Writes variable place words) = (Next, record (counted state) { memory = with_words variable place words state.memory })
after_effect inst state (Enters label) = (Next, record (counted state) { label = label; before = state.label; values_at_entry = state.values })
after_effect inst state (Goes label) = (To label, counted state)
after_effect inst state (Stops kind) = (Stopped kind, counted state)

-- what an instruction does; nothing where it can't be done
unfoldable pub done : Program → Inst → State → Option (Flow × State)
done program inst state =
    option_map (after_effect inst state) (option_and_then (effect_of program state.memory inst) (read_values inst state))

-- The next instruction is at the place.
pub record Machine : Type 0 where
  pub place : ℕ
  pub state : State

-- what a step leads to: the machine goes on, or the invocation has ended
pub data Step : Type 0 where
  GoesOn : Machine → Step
  Ends : Kind → State → Step

abbrev pub at : ℕ → State → Step
at place state = GoesOn (record { place = place; state = state })

-- one more back edge; the last one that is allowed loses the invocation
abbrev pub back_to : ℕ → State → Step
back_to place state =
    if nat_le BACK_EDGES (state.back_edges + 1)
    then Ends Lost (record state { back_edges = state.back_edges + 1 })
    else at place (record state { back_edges = state.back_edges + 1 })

-- control goes from one place to another: back, where the latter stands earlier
abbrev pub jump : ℕ → ℕ → State → Step
jump from to state = if nat_le to from then back_to to state else at to state

-- where a flow leads from a place
abbrev pub led : Program → ℕ → Flow × State → Option Step
led program place (Next, state) = Some (at (place + 1) state)
led program place (To label, state) = option_map (λ to. jump place to state) (program.label_place label)
led program place (Stopped kind, state) = Some (Ends kind state)

-- one step: the instruction at the place is run
unfoldable pub step : Program → Machine → Option Step
step program m = option_and_then (led program m.place) (option_and_then (λ inst. done program inst m.state) (slice_get program.insts m.place))

-- the end that a step leads to
abbrev pub end_after : Option Step → (Machine → Option (Kind × State)) → Option (Kind × State)
end_after None go = None
end_after (Some (GoesOn m)) go = go m
end_after (Some (Ends kind state)) go = Some (kind, state)

-- how the machine ends within so many steps
abbrev pub run : ℕ → Program → Machine → Option (Kind × State)
run zero program m = None
run (suc n) program m = end_after (step program m) (run n program)
