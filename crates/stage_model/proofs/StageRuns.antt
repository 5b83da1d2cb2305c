-- The outcome of a module is what its function's code comes to.
use Rattle.std.proofs.Common.{◌≡◌, ◌≢◌, ℕ, zero, suc, ◌+◌, ◌-◌, ◌*◌, ◌<◌, ◌≤◌, ◌==◌, ◌⊎◌, inl, inr, Bool, true, false, List, [], ◌∷◌, length, take, drop, refl, ap, sym, ◌∙◌, subst, arith, Option, None, Some}
use Rattle.std.specs.Prelude.{slice_get, IsSome}
use Rattle.std.specs.Option.{option_map, option_and_then}
use Rattle.std.proofs.Math.Nat.{suc-mul}
use Rattle.limits.specs.declared.TheConstants.{BACK_EDGES}
use Rattle.spirv_model.specs.declared.module.Inst.{Inst}
use Rattle.body_model.specs.Scope.{main}
use Rattle.body_model.specs.Targets.{MayLeaveTo}
use Rattle.body_model.specs.Grammar.{Derives}
use Rattle.body_model.specs.Code.{code_of}
use Rattle.stage_model.specs.declared.outcome.Kind.{Kind}
use Rattle.stage_model.specs.Program.{Program, program_of}
use Rattle.stage_model.specs.Machine.{State, Flow, Next, To, Stopped, Machine, Step, GoesOn, Ends, step, end_after, run}
use Rattle.stage_model.specs.Stage.{Given, Outcome, start_at, first_label, outcome_of, enough_steps, stage}
use Rattle.stage_model.specs.Running.{Run, eval}
use Rattle.stage_model.specs.Steps.{Steps, stays, goes, IsStuck}
use Rattle.stage_model.specs.Leads.{machine, Flows, Stops, Leads}
use Rattle.stage_model.proofs.EnoughSteps.{steps_left, EndsOrIsStuck, enough}
use Rattle.stage_model.proofs.LabelPlaces.{label_places}
use Rattle.stage_model.proofs.CodeRuns.{sequence_runs}

-- ---- the machine's steps are determined

stuck_runs : (program : Program) (m at : Machine) → Steps program m at → step program at ≡ None → (n : ℕ) → run n program m ≡ None
stuck_runs program m at comes stuck zero = refl
stuck_runs program m at (stays is) stuck (suc n) = ap (λ (m : Machine). end_after (step program m) (run n program)) is ∙ ap (λ (s : Option Step). end_after s (run n program)) stuck
stuck_runs program m at (goes next is more) stuck (suc n) = ap (λ (s : Option Step). end_after s (run n program)) is ∙ stuck_runs program next at more stuck n

ended_runs : (program : Program) (m at : Machine) (kind : Kind) (state : State) → Steps program m at → step program at ≡ Some (Ends kind state) → (n : ℕ) → IsSome (run n program m) → run n program m ≡ Some (kind, state)
ended_runs program m at kind state comes ends zero some = cc
ended_runs program m at kind state (stays is) ends (suc n) some =
    ap (λ (m : Machine). end_after (step program m) (run n program)) is ∙ ap (λ (s : Option Step). end_after s (run n program)) ends
ended_runs program m at kind state (goes next is more) ends (suc n) some =
    ap (λ (s : Option Step). end_after s (run n program)) is
    ∙ ended_runs program next at kind state more ends n (subst (λ r. IsSome r) (ap (λ (s : Option Step). end_after s (run n program)) is) some)

same_next : (a b : Machine) → Some (GoesOn a) ≡ Some (GoesOn b) → a ≡ b
same_next a b is = cc

not_both : (program : Program) (m at other : Machine) (kind : Kind) (state : State) → Steps program m at → step program at ≡ Some (Ends kind state) → Steps program m other → step program other ≡ None → ⊥
not_both program m at other kind state (stays is) ends (stays same) stuck = let e : step program at ≡ step program other = ap (step program) (sym is ∙ same) in cc
not_both program m at other kind state (stays is) ends (goes next same more) stuck = let e : step program at ≡ step program m = ap (step program) (sym is) in cc
not_both program m at other kind state (goes next is more) ends (stays same) stuck = let e : step program other ≡ step program m = ap (step program) (sym same) in cc
not_both program m at other kind state (goes next is more) ends (goes after same further) stuck =
    not_both program next at other kind state more ends (subst (λ n. Steps program n other) (same_next after next (sym same ∙ is)) further) stuck

-- ---- from the first block

-- what an end leaves, where the invocation has ended
abbrev pub stopped : Program → Flow × State → Option Outcome
stopped program (Next, state) = None
stopped program (To label, state) = None
stopped program (Stopped kind, state) = Some (outcome_of program (kind, state))

-- nothing leads out of the function
pub nowhere : (label : ℕ) → MayLeaveTo main None label → ⊥
nowhere label (inl there) = there refl
nowhere label (inr (inl is)) = cc
nowhere label (inr (inr is)) = cc

outcome_is : (program : Program) (place to n : ℕ) (state : State) (result : Option (Flow × State)) → Leads program (MayLeaveTo main None) place to state result → EndsOrIsStuck n program (machine place state)
    → option_map (outcome_of program) (run n program (machine place state)) ≡ option_and_then (stopped program) result
outcome_is program place to n state None leads ends = ap (option_map (outcome_of program)) (stuck_runs program _ leads.at leads.comes leads.stuck n)
outcome_is program place to n state (Some (Next, after)) leads ends = absurd leads
outcome_is program place to n state (Some (To label, after)) leads ends = absurd (nowhere label leads.1)
outcome_is program place to n state (Some (Stopped kind, after)) leads (inl some) = ap (option_map (outcome_of program)) (ended_runs program _ leads.at kind after leads.comes leads.stops n some)
outcome_is program place to n state (Some (Stopped kind, after)) leads (inr stuck) = absurd (not_both program _ leads.at stuck.at kind after leads.comes leads.stops stuck.comes stuck.stuck)

left_at_most : (program : Program) (place : ℕ) (state : State) → state.back_edges ≡ 0 → steps_left program (machine place state) ≤ (BACK_EDGES + 1) * length program.insts
left_at_most program place state none =
    let e : (BACK_EDGES - state.back_edges) * length program.insts ≡ BACK_EDGES * length program.insts = ap (λ (n : ℕ). (BACK_EDGES - n) * length program.insts) none in
    let f : (BACK_EDGES + 1) * length program.insts ≡ BACK_EDGES * length program.insts + length program.insts = suc-mul BACK_EDGES (length program.insts) in
    omega (arith, e, f)

abbrev first_state : List Inst → Given → ℕ → State
first_state insts given first = (start_at (program_of insts) given first).state

start_has : (insts : List Inst) (given : Given) (first : ℕ) → (start_at (program_of insts) given first ≡ machine first (first_state insts given first)) × ((first_state insts given first).back_edges ≡ 0)
unfolding start_at
start_has insts given first = (refl, refl)

same_insts : (insts : List Inst) → (program_of insts).insts ≡ insts
unfolding program_of
same_insts insts = refl

-- the outcome of a module with one structured function is what the function's code comes to
pub stage_runs : (insts : List Inst) (d : Derives insts) (given : Given) → first_label insts ≡ Some (d.before + 1)
    → stage insts given ≡ option_and_then (stopped (program_of insts)) (eval (program_of insts) (code_of d.sequence) (first_state insts given (d.before + 1)))
unfolding stage
stage_runs insts d given first =
    let program = program_of insts in
    let state = first_state insts given (d.before + 1) in
    let start = start_has insts given (d.before + 1) in
    let few : state.back_edges < BACK_EDGES = omega (arith, start.1) in
    let leads = sequence_runs insts program (same_insts insts) (label_places insts) d.sequence state few in
    let left : steps_left program (machine (d.before + 1) state) ≤ enough_steps insts =
    subst (λ (l : List Inst). steps_left program (machine (d.before + 1) state) ≤ (BACK_EDGES + 1) * length l) (same_insts insts) (left_at_most program (d.before + 1) state start.1) in
    ap (option_and_then (λ (first : ℕ). option_map (outcome_of program) (run (enough_steps insts) program (start_at program given first)))) first
    ∙ ap (λ (m : Machine). option_map (outcome_of program) (run (enough_steps insts) program m)) start.0
    ∙ outcome_is program (d.before + 1) d.after (enough_steps insts) state _ leads (enough (enough_steps insts) program (machine (d.before + 1) state) few left)
