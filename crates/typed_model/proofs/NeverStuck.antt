-- A valid module is never stuck: its machine is running from the function's first label on, up to the invocation's end.
use Rattle.std.proofs.Common.{◌≡◌, ℕ, ◌+◌, ◌<◌, List, refl, ap, sym, ◌∙◌, subst, arith, Option, None, Some}
use Rattle.std.specs.Option.{option_and_then}
use Rattle.limits.specs.declared.TheConstants.{BACK_EDGES}
use Rattle.spirv_model.specs.declared.module.Inst.{Inst}
use Rattle.spirv_model.specs.declared.module.Words.{Words}
use Rattle.body_model.specs.Scope.{main}
use Rattle.body_model.specs.Targets.{MayLeaveTo}
use Rattle.body_model.specs.Code.{code_of}
use Rattle.check_model.specs.Validity.{IsValidList}
use Rattle.stage_model.specs.Program.{program_of}
use Rattle.stage_model.specs.Machine.{State, Flow, Next, To, Stopped, Machine, Step, GoesOn, step}
use Rattle.stage_model.specs.Stage.{Given, Outcome, start_at, outcome_of, stage}
use Rattle.stage_model.specs.Running.{eval}
use Rattle.stage_model.specs.Steps.{Steps, stays, goes}
use Rattle.stage_model.specs.Leads.{machine, Leads}
use Rattle.stage_model.proofs.CodeRuns.{sequence_runs}
use Rattle.stage_model.proofs.LabelPlaces.{label_places}
use Rattle.stage_model.proofs.StageRuns.{stopped, nowhere, stage_runs}
use Rattle.typed_model.specs.Running.{IsRunning}
use Rattle.typed_model.proofs.RunningSteps.{same_insts}
use Rattle.typed_model.proofs.RunningStart.{first_label_is, start_here}
use Rattle.typed_model.proofs.RunningGoes.{running_goes}

same_step : (found : Option Step) (a b : Step) → found ≡ Some a → found ≡ Some b → a ≡ b
same_step found a b is also = cc

-- a running machine comes to no instruction that it can't run
pub runs_on : (words : Words) (v : IsValidList words) (m at : Machine) → IsRunning words.insts v.derivation m → Steps (program_of words.insts) m at → step (program_of words.insts) at ≡ None → ⊥
runs_on words v m at r (stays is) stuck = let g = running_goes words v m r in never (step (program_of words.insts) m) g.to g.is (ap (step (program_of words.insts)) is ∙ stuck)
  where
    never : (found : Option Step) (to : Step) → found ≡ Some to → found ≡ None → ⊥
    never found to some none = cc
runs_on words v m at r (goes next is more) stuck =
    let g = running_goes words v m r in
    runs_on words v next at (g.on next (same_step (step (program_of words.insts) m) g.to (GoesOn next) g.is is)) more stuck

start_is : (insts : List Inst) (given : Given) (first : ℕ) → (start_at (program_of insts) given first ≡ machine first (start_at (program_of insts) given first).state) × ((start_at (program_of insts) given first).state.back_edges ≡ 0)
unfolding start_at
start_is insts given first = (refl, refl)

-- what its code comes to is an end
outcome_by : (words : Words) (v : IsValidList words) (place to : ℕ) (state : State) → IsRunning words.insts v.derivation (machine place state) → (result : Option (Flow × State)) → Leads (program_of words.insts) (MayLeaveTo main None) place to state result
    → (o : Outcome) × (option_and_then (stopped (program_of words.insts)) result ≡ Some o)
outcome_by words v place to state r None leads = absurd (runs_on words v (machine place state) leads.at r leads.comes leads.stuck)
outcome_by words v place to state r (Some (Next, after)) leads = absurd leads
outcome_by words v place to state r (Some (To label, after)) leads = absurd (nowhere label leads.1)
outcome_by words v place to state r (Some (Stopped kind, after)) leads = (outcome_of (program_of words.insts) (kind, after), refl)

-- a stage of a valid module has an outcome, whatever is given
pub never_stuck : (words : Words) → IsValidList words → (given : Given) → (o : Outcome) × (stage words.insts given ≡ Some o)
never_stuck words v given =
    let insts = words.insts in let program = program_of insts in let d = v.derivation in let first = d.before + 1 in
    let state : State = (start_at program given first).state in
    let start = start_is insts given first in
    let few : state.back_edges < BACK_EDGES = subst (λ n. n < BACK_EDGES) (sym start.1) (omega arith) in
    let o = outcome_by words v first d.after state (subst (IsRunning insts d) start.0 (start_here words v given)) (eval program (code_of d.sequence) state) (sequence_runs insts program (same_insts insts) (label_places insts) d.sequence state few) in
    (o.0, stage_runs insts d given (first_label_is insts d) ∙ o.1)
