-- The work of a stage is at most the steps that are enough.
use Rattle.std.proofs.Common.{◌≡◌, ℕ, zero, suc, ◌+◌, ◌*◌, ◌≤◌, Bool, true, false, nat_le, if◌then◌else◌, List, length, refl, ap, sym, ◌∙◌, subst, arith, Option, None, Some}
use Rattle.std.specs.Prelude.{slice_get}
use Rattle.std.specs.Option.{option_map, option_and_then}
use Rattle.limits.specs.declared.TheConstants.{BACK_EDGES}
use Rattle.spirv_model.specs.declared.module.Inst.{Inst}
use Rattle.stage_model.specs.declared.outcome.Kind.{Kind}
use Rattle.stage_model.specs.declared.outcome.Kind.TheVariants.{Lost}
use Rattle.stage_model.specs.Program.{Program, program_of}
use Rattle.stage_model.specs.Effect.{Effect, Passes, Gives, Writes, Enters, Goes, Stops, effect_of}
use Rattle.stage_model.specs.Machine.{State, Flow, Next, To, Stopped, after_effect, done, read_values, Machine, Step, GoesOn, Ends, at, back_to, jump, led, step, end_after, run}
use Rattle.stage_model.specs.Stage.{Given, Outcome, start_at, first_label, outcome_of, enough_steps, stage}

-- the step has counted so many
abbrev CountsTo : ℕ → Option Step → Type 0
CountsTo n None = Unit {0}
CountsTo n (Some (GoesOn m)) = m.state.steps ≡ n
CountsTo n (Some (Ends kind state)) = state.steps ≡ n

back_counts : (to : ℕ) (state : State) (full : Bool)
    → CountsTo state.steps (Some (if full then Ends Lost (record state { back_edges = state.back_edges + 1 }) else at to (record state { back_edges = state.back_edges + 1 })))
back_counts to state true = refl
back_counts to state false = refl

jump_counts : (to : ℕ) (state : State) (is_back : Bool) → CountsTo state.steps (Some (if is_back then back_to to state else at to state))
jump_counts to state true = back_counts to state (nat_le BACK_EDGES (state.back_edges + 1))
jump_counts to state false = refl

jumps_count : (from : ℕ) (state : State) (to : Option ℕ) → CountsTo state.steps (option_map (λ to. jump from to state) to)
jumps_count from state None = tt
jumps_count from state (Some to) = jump_counts to state (nat_le to from)

led_counts : (program : Program) (place : ℕ) (flow : Flow) (state : State) → CountsTo state.steps (led program place (flow, state))
led_counts program place Next state = refl
led_counts program place (To label) state = jumps_count place state (program.label_place label)
led_counts program place (Stopped kind) state = refl

effect_counts : (program : Program) (place : ℕ) (inst : Inst) (state : State) (effect : Effect) → CountsTo (state.steps + 1) (led program place (after_effect inst state effect))
effect_counts program place inst state Passes = led_counts program place Next (after_effect inst state Passes).1
effect_counts program place inst state (Gives value) = led_counts program place Next (after_effect inst state (Gives value)).1
effect_counts program place inst state (Writes variable from words) = led_counts program place Next (after_effect inst state (Writes variable from words)).1
effect_counts program place inst state (Enters label) = led_counts program place Next (after_effect inst state (Enters label)).1
effect_counts program place inst state (Goes label) = led_counts program place (To label) (after_effect inst state (Goes label)).1
effect_counts program place inst state (Stops kind) = refl

some_effect_counts : (program : Program) (place : ℕ) (inst : Inst) (state : State) (effect : Option Effect)
    → CountsTo (state.steps + 1) (option_and_then (led program place) (option_map (after_effect inst state) effect))
some_effect_counts program place inst state None = tt
some_effect_counts program place inst state (Some effect) = effect_counts program place inst state effect

inst_counts : (program : Program) (place : ℕ) (state : State) (inst : Option Inst)
    → CountsTo (state.steps + 1) (option_and_then (led program place) (option_and_then (λ inst. done program inst state) inst))
unfolding done
inst_counts program place state None = tt
inst_counts program place state (Some inst) = some_effect_counts program place inst state (option_and_then (effect_of program state.memory inst) (read_values inst state))

step_counts : (program : Program) (m : Machine) → CountsTo (m.state.steps + 1) (step program m)
unfolding step
step_counts program m = inst_counts program m.place m.state (slice_get program.insts m.place)

-- the steps of an end
abbrev steps_of : Option (Kind × State) → ℕ
steps_of None = 0
steps_of (Some (kind, state)) = state.steps

after_counts : (n : ℕ) (program : Program) (m : Machine) (found : Option Step) (kind : Kind) (state : State) → CountsTo (m.state.steps + 1) found
    → ((next : Machine) → run n program next ≡ Some (kind, state) → state.steps ≤ next.state.steps + n)
    → end_after found (run n program) ≡ Some (kind, state) → state.steps ≤ m.state.steps + suc n
after_counts n program m None kind state counts rest is = absurd (cc)
after_counts n program m (Some (GoesOn next)) kind state counts rest is = let k = rest next is in omega (arith, k, counts)
after_counts n program m (Some (Ends own end)) kind state counts rest is = let k : end.steps ≡ state.steps = ap steps_of is in omega (arith, k, counts)

run_counts : (n : ℕ) (program : Program) (m : Machine) (kind : Kind) (state : State) → run n program m ≡ Some (kind, state) → state.steps ≤ m.state.steps + n
run_counts zero program m kind state is = absurd (cc)
run_counts (suc n) program m kind state is =
    after_counts n program m (step program m) kind state (step_counts program m) (λ next is. run_counts n program next kind state is) is

ended_counts : (insts : List Inst) (given : Given) (first : ℕ) (end : Option (Kind × State)) (o : Outcome)
    → run (enough_steps insts) (program_of insts) (start_at (program_of insts) given first) ≡ end → option_map (outcome_of (program_of insts)) end ≡ Some o → o.work ≤ enough_steps insts
unfolding start_at
ended_counts insts given first None o is h = absurd (cc)
ended_counts insts given first (Some (kind, state)) o is h =
    let e : outcome_of (program_of insts) (kind, state) ≡ o = cc in
    let k : state.steps ≡ o.work = ap (λ (p : Outcome). p.work) e in
    let l = run_counts (enough_steps insts) (program_of insts) (start_at (program_of insts) given first) kind state is in
    omega (arith, k, l)

labelled_counts : (insts : List Inst) (given : Given) (found : Option ℕ) (o : Outcome)
    → option_and_then (λ first. option_map (outcome_of (program_of insts)) (run (enough_steps insts) (program_of insts) (start_at (program_of insts) given first))) found ≡ Some o
    → o.work ≤ enough_steps insts
labelled_counts insts given None o is = absurd (cc)
labelled_counts insts given (Some first) o is =
    ended_counts insts given first (run (enough_steps insts) (program_of insts) (start_at (program_of insts) given first)) o refl is

-- the work of a stage is at most the steps of its run
pub stage_work : (insts : List Inst) (given : Given) (o : Outcome) → stage insts given ≡ Some o → o.work ≤ enough_steps insts
unfolding stage
stage_work insts given o is = labelled_counts insts given (first_label insts) o is
