-- The turns of a loop.
use Rattle.std.proofs.Common.{◌≡◌, ℕ, zero, suc, ◌+◌, ◌<◌, ◌≤◌, ◌==◌, Bool, true, false, if◌then◌else◌, List, refl, ap, sym, ◌∙◌, subst, arith, Option, None, Some}
use Rattle.limits.specs.declared.TheConstants.{BACK_EDGES}
use Rattle.spirv_model.specs.declared.module.Inst.{Inst}
use Rattle.body_model.specs.Due.{IsDue}
use Rattle.stage_model.specs.Program.{Program}
use Rattle.stage_model.specs.Machine.{State, Flow, Next, To, Stopped}
use Rattle.stage_model.specs.Running.{Run, leaves, onward, turned, turns}
use Rattle.stage_model.specs.Leads.{Flows, Leads}
use Rattle.stage_model.proofs.Comings.{leads_within}
use Rattle.stage_model.proofs.Jumps.{HasPlaces, goes_to, result_leads, onward_leads, left_by, choose_run, turned_leads, same_label}

-- what a part does from a state, where fewer back edges are taken than lose an invocation
abbrev pub RunsTo : Program → (ℕ → Type 0) → ℕ → ℕ → Run → Type 0
RunsTo program MayGo from to run = (state : State) → state.back_edges < BACK_EDGES → Leads program MayGo from to state (run state)

-- The parts of a loop with their runs: its header's block, condition sequence, body and continue sequence.
pub record LoopParts (insts : List Inst) (program : Program) (merge : ℕ) (header condition body step : Run) (from to : ℕ) : Type 0 where
  pub label : ℕ
  pub test : ℕ
  pub inner : ℕ
  pub continue : ℕ
  pub after : ℕ
  pub first : ℕ
  pub second : ℕ
  pub low : from ≤ after
  pub up : after ≤ first
  pub further : first ≤ second
  pub high : second ≤ to
  pub place : program.label_place label ≡ Some from
  pub on_header : RunsTo program (λ l. l ≡ test) from after header
  pub due_test : IsDue insts (Some test) after
  pub on_condition : RunsTo program (λ l. l == merge ≡ false → l ≡ inner) after first condition
  pub due_inner : IsDue insts (Some inner) first
  pub on_body : RunsTo program (λ l. l == merge ≡ false → l ≡ continue) first second body
  pub due_continue : IsDue insts (Some continue) second
  pub on_step : RunsTo program (λ l. l ≡ label) second to step

leaves_merge : (program : Program) (merge from to past label : ℕ) (state after : State) → to ≤ past → Flows program from to state label after → label ≡ merge
    → Leads program (λ l. l ≡ merge) from past state (leaves merge after)
leaves_merge program merge from to past label state after up f is =
    left_by program (λ l. l ≡ merge) from to past merge state after up (subst (λ l. Flows program from to state l after) is f) refl

due_as : (insts : List Inst) (label known place : ℕ) → label ≡ known → IsDue insts (Some known) place → IsDue insts (Some label) place
due_as insts label known place is due = subst (λ l. IsDue insts (Some l) place) (sym is) due

pub turns_lead : (insts : List Inst) (program : Program) → HasPlaces insts program → (merge from to : ℕ) (header condition body step : Run) → LoopParts insts program merge header condition body step from to
    → (n : ℕ) → (state : State) → state.back_edges < BACK_EDGES → BACK_EDGES ≤ n + state.back_edges → Leads program (λ l. l ≡ merge) from to state (turns n merge header condition body step state)
turns_lead insts program places merge from to header condition body step parts zero state few enough = absurd (omega (arith, few, enough))
turns_lead insts program places merge from to header condition body step parts (suc n) state few enough =
    let MayGo : ℕ → Type 0 = λ l. l ≡ merge in
    let Inner : ℕ → Type 0 = λ l. l == merge ≡ false → l ≡ parts.inner in
    let Continue : ℕ → Type 0 = λ l. l == merge ≡ false → l ≡ parts.continue in
    let Header : ℕ → Type 0 = λ l. l ≡ parts.label in
    let again = turns n merge header condition body step in
    let low = parts.low in let up = parts.up in let further = parts.further in let high = parts.high in
    onward_leads program (λ l. l ≡ parts.test) MayGo from parts.after to state header _ (parts.on_header state few)
    (λ a s is f. result_leads program Inner MayGo from parts.first to state _ (condition s)
    (goes_to insts program places Inner from parts.after parts.after parts.first a state s (condition s) low f (due_as insts a parts.test parts.after is parts.due_test) (omega arith) (parts.on_condition s f.few))
    (λ b t is g. choose_run program MayGo from to state t (leaves merge) _ (b == merge)
    (λ m. leaves_merge program merge from parts.first to b state t (omega (arith, further, high)) g (same_label b merge m))
    (λ isnt. result_leads program Continue MayGo from parts.second to state _ (body t)
    (goes_to insts program places Continue from parts.first parts.first parts.second b state t (body t) (omega (arith, low, up)) g (due_as insts b parts.inner parts.first (is isnt) parts.due_inner) (omega arith) (parts.on_body t g.few))
    (λ c u is h. choose_run program MayGo from to state u (leaves merge) _ (c == merge)
    (λ m. leaves_merge program merge from parts.second to c state u high h (same_label c merge m))
    (λ isnt. result_leads program Header MayGo from to to state _ (step u)
    (goes_to insts program places Header from parts.second parts.second to c state u (step u) (omega (arith, low, up, further)) h (due_as insts c parts.continue parts.second (is isnt) parts.due_continue) (omega arith) (parts.on_step u h.few))
    (λ d v is k. turned_leads program MayGo from to to d state v again k (ap program.label_place is ∙ parts.place)
    (λ next more still. turns_lead insts program places merge from to header condition body step parts n next still (omega (arith, enough, more, k.grows)))))))))
