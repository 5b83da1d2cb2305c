-- Control that goes from one part of a function to another.
use Rattle.std.proofs.Common.{◌≡◌, ℕ, ◌+◌, ◌<◌, ◌≤◌, ◌==◌, nat_le, Bool, true, false, if◌then◌else◌, List, refl, ap, sym, ◌∙◌, subst, arith, Option, None, Some}
use Rattle.std.specs.Option.{option_map, option_and_then}
use Rattle.std.proofs.lemmas.Bool.Decides.{nat_tests}
use Rattle.limits.specs.declared.TheConstants.{BACK_EDGES}
use Rattle.stage_model.specs.declared.outcome.Kind.{Kind}
use Rattle.stage_model.specs.declared.outcome.Kind.TheVariants.{Lost}
use Rattle.spirv_model.specs.declared.module.Inst.{Inst}
use Rattle.body_model.specs.Due.{IsDue}
use Rattle.stage_model.specs.Program.{Program}
use Rattle.stage_model.specs.Machine.{State, Flow, Next, To, Stopped, Machine, Step, GoesOn, Ends, at, back_to, jump, led, step}
use Rattle.stage_model.specs.Running.{Run, led_on, leaves, at_label, onward, onward_at, turned}
use Rattle.stage_model.specs.Steps.{Steps, goes, stays, IsStuck}
use Rattle.stage_model.specs.Leads.{machine, flow_at, Flows, Stops, Leads}
use Rattle.stage_model.proofs.Comings.{and_then, one_step, stuck_later, leads_later, leads_within}
use Rattle.stage_model.proofs.BlockRuns.{step_is}

-- labels stand where their blocks are due
abbrev pub HasPlaces : List Inst → Program → Type 0
HasPlaces insts program = (label place : ℕ) → IsDue insts (Some label) place → program.label_place label ≡ Some place

jump_step : (program : Program) (place target label : ℕ) (state after : State) → flow_at program (machine place state) ≡ Some (To label, after) → program.label_place label ≡ Some target
    → step program (machine place state) ≡ Some (jump place target after)
jump_step program place target label state after flows known = step_is program place state _ flows ∙ ap (option_map (λ to. jump place to after)) known

is_ahead : (from to : ℕ) → from < to → nat_le to from ≡ false
is_ahead from to less = grind (arith, nat_tests)

is_behind : (from to : ℕ) → to ≤ from → nat_le to from ≡ true
is_behind from to less = grind (arith, nat_tests)

-- a flow to a label that stands behind comes there
pub comes_to : (program : Program) (from to target label : ℕ) (state after : State) → (f : Flows program from to state label after) → program.label_place label ≡ Some target → to ≤ target
    → Steps program (machine from state) (machine target after)
comes_to program from to target label state after f known behind =
    let here : f.place < target = omega (arith, f.high) in
    and_then program _ _ _ f.comes
    (one_step program (machine f.place f.at) (machine target after)
    (jump_step program f.place target label f.at after f.flows known
    ∙ ap (λ (b : Bool). Some (if b then back_to target after else at target after)) (is_ahead f.place target here)))

-- what is due there goes on
pub goes_to : (insts : List Inst) (program : Program) → HasPlaces insts program → (MayGo : ℕ → Type 0) (from to target past label : ℕ) (state after : State) (result : Option (Flow × State)) → from ≤ to
    → Flows program from to state label after → IsDue insts (Some label) target → to ≤ target → Leads program MayGo target past after result → Leads program MayGo from past state result
goes_to insts program places MayGo from to target past label state after result up f due behind leads =
    leads_later program MayGo from target past state after result (omega (arith, up, behind)) f.grows
    (comes_to program from to target label state after f (places label target due) behind) leads

-- what a part comes to, and what comes of each label to which it leads
pub result_leads : (program : Program) (MayGo MayGoOn : ℕ → Type 0) (from to past : ℕ) (state : State) (go : ℕ → Run) (result : Option (Flow × State)) → Leads program MayGo from to state result
    → ((label : ℕ) (after : State) → MayGo label → Flows program from to state label after → Leads program MayGoOn from past state (go label after))
    → Leads program MayGoOn from past state (led_on result (at_label go))
result_leads program MayGo MayGoOn from to past state go None leads rest = leads
result_leads program MayGo MayGoOn from to past state go (Some (Next, after)) leads rest = absurd leads
result_leads program MayGo MayGoOn from to past state go (Some (To label, after)) leads rest = rest label after leads.1 leads.0
result_leads program MayGo MayGoOn from to past state go (Some (Stopped kind, after)) leads rest = leads

pub onward_leads : (program : Program) (MayGo MayGoOn : ℕ → Type 0) (from to past : ℕ) (state : State) (run : Run) (go : ℕ → Run) → Leads program MayGo from to state (run state)
    → ((label : ℕ) (after : State) → MayGo label → Flows program from to state label after → Leads program MayGoOn from past state (go label after))
    → Leads program MayGoOn from past state (onward run go state)
onward_leads program MayGo MayGoOn from to past state run go leads rest = result_leads program MayGo MayGoOn from to past state go (run state) leads rest

-- a flow that leaves
pub left_by : (program : Program) (MayGo : ℕ → Type 0) (from to past label : ℕ) (state after : State) → to ≤ past → Flows program from to state label after → MayGo label
    → Leads program MayGo from past state (leaves label after)
left_by program MayGo from to past label state after up f may =
    leads_within program MayGo MayGo from to past state (leaves label after) up (λ _ h. h) (f, may)

choose : (P : Run → Type 0) {x y : Run} (b : Bool) → (b ≡ true → P x) → (b ≡ false → P y) → P (if b then x else y)
choose P true f g = f refl
choose P false f g = g refl

pub same_label : (a b : ℕ) → a == b ≡ true → a ≡ b
same_label a b is = grind (arith, nat_tests)

pub choose_run : (program : Program) (MayGo : ℕ → Type 0) (from past : ℕ) (state after : State) (x y : Run) (b : Bool) → (b ≡ true → Leads program MayGo from past state (x after))
    → (b ≡ false → Leads program MayGo from past state (y after)) → Leads program MayGo from past state ((if b then x else y) after)
choose_run program MayGo from past state after x y b f g = choose (λ (run : Run). Leads program MayGo from past state (run after)) b f g

-- the part goes on at a merge block, and else leaves
pub onward_at_leads : (insts : List Inst) (program : Program) → HasPlaces insts program → (MayGo MayGoOn : ℕ → Type 0) (from to past merge : ℕ) (state : State) (run rest : Run) → from ≤ to → to ≤ past → Leads program MayGo from to state (run state)
    → IsDue insts (Some merge) to → ((after : State) → after.back_edges < BACK_EDGES → Leads program MayGoOn to past after (rest after))
    → ((label : ℕ) → MayGo label → label == merge ≡ false → MayGoOn label) → Leads program MayGoOn from past state (onward_at run merge rest state)
onward_at_leads insts program places MayGo MayGoOn from to past merge state run rest low up leads due go may =
    onward_leads program MayGo MayGoOn from to past state run (λ to. if to == merge then rest else leaves to) leads
    (λ label after h f. choose_run program MayGoOn from past state after rest (leaves label) (label == merge)
    (λ is. goes_to insts program places MayGoOn from to to past label state after (rest after) low f
    (subst (λ l. IsDue insts (Some l) to) (sym (same_label label merge is)) due) (omega arith) (go after f.few))
    (λ isnt. left_by program MayGoOn from to past label state after up f (may label h isnt)))

-- a flow back to the label of a loop's header counts a back edge
pub turned_leads : (program : Program) (MayGo : ℕ → Type 0) (from to past label : ℕ) (state after : State) (again : Run) → Flows program from to state label after → program.label_place label ≡ Some from
    → ((next : State) → next.back_edges ≡ after.back_edges + 1 → next.back_edges < BACK_EDGES → Leads program MayGo from past next (again next)) → Leads program MayGo from past state (turned again after)
turned_leads program MayGo from to past label state after again f known go = by_count program MayGo from to past label state after again f known go (nat_le BACK_EDGES (after.back_edges + 1)) refl
  where
    back_step : (program : Program) (from to label : ℕ) (state after : State) (f : Flows program from to state label after) → program.label_place label ≡ Some from → (full : Bool) → full ≡ nat_le BACK_EDGES (after.back_edges + 1)
        → step program (machine f.place f.at) ≡ Some (if full then Ends Lost (record after { back_edges = after.back_edges + 1 }) else at from (record after { back_edges = after.back_edges + 1 }))
    back_step program from to label state after f known full is =
        jump_step program f.place from label f.at after f.flows known
        ∙ ap (λ (b : Bool). Some (if b then back_to from after else at from after)) (is_behind f.place from f.low)
        ∙ ap (λ (b : Bool). Some (if b then Ends Lost (record after { back_edges = after.back_edges + 1 }) else at from (record after { back_edges = after.back_edges + 1 }))) (sym is)

    few_of : (after : State) → false ≡ nat_le BACK_EDGES (after.back_edges + 1) → after.back_edges + 1 < BACK_EDGES
    few_of after is = grind (arith, nat_tests)

    by_count : (program : Program) (MayGo : ℕ → Type 0) (from to past label : ℕ) (state after : State) (again : Run) (f : Flows program from to state label after) → program.label_place label ≡ Some from
        → ((next : State) → next.back_edges ≡ after.back_edges + 1 → next.back_edges < BACK_EDGES → Leads program MayGo from past next (again next)) → (full : Bool) → full ≡ nat_le BACK_EDGES (after.back_edges + 1)
        → Leads program MayGo from past state (if full then Some (Stopped Lost, record after { back_edges = after.back_edges + 1 }) else again (record after { back_edges = after.back_edges + 1 }))
    by_count program MayGo from to past label state after again f known go true is =
        record { at = machine f.place f.at; comes = f.comes; stops = back_step program from to label state after f known true is }
    by_count program MayGo from to past label state after again f known go false is =
        let next : State = record after { back_edges = after.back_edges + 1 } in
        leads_later program MayGo from from past state next (again next) (omega arith) (omega (arith, f.grows))
        (and_then program _ _ _ f.comes (one_step program (machine f.place f.at) (machine from next) (back_step program from to label state after f known false is)))
        (go next refl (few_of after is))
