-- A block's run is what the machine's steps lead to.
use Rattle.std.proofs.Common.{◌≡◌, ◌≢◌, ℕ, suc, ◌+◌, ◌-◌, ◌<◌, ◌≤◌, Bool, true, false, List, [], ◌∷◌, ◌++◌, length, drop, take, get_or, drop-cons, refl, ap, sym, ◌∙◌, subst, arith, Option, None, Some}
use Rattle.std.specs.Prelude.{slice_get}
use Rattle.std.specs.Option.{option_map, option_and_then}
use Rattle.std.proofs.lemmas.List.{drop-drop, length-drop}
use Rattle.std.proofs.lemmas.Option.{slice_get-get_or}
use Rattle.std.proofs.Math.Seq.{drop-append_seam}
use Rattle.limits.specs.declared.TheConstants.{BACK_EDGES}
use Rattle.spirv_model.specs.declared.module.Inst.{Inst}
use Rattle.body_model.specs.Classes.{is_terminator}
use Rattle.body_model.specs.Switches.{is_among}
use Rattle.body_model.specs.Targets.{targets}
use Rattle.body_model.proofs.Shapes.{AreStraight}
use Rattle.stage_model.specs.declared.outcome.Kind.{Kind}
use Rattle.stage_model.specs.Program.{Program}
use Rattle.stage_model.specs.Machine.{State, Flow, Next, To, Stopped, done, Machine, Step, GoesOn, Ends, led, step}
use Rattle.stage_model.specs.Running.{led_on, after_inst, block}
use Rattle.stage_model.specs.Steps.{Steps, stays, goes, IsStuck}
use Rattle.stage_model.specs.Leads.{machine, flow_at, Flows, Stops, Leads}
use Rattle.stage_model.proofs.Comings.{and_then, one_step, stuck_later, leads_later}
use Rattle.stage_model.proofs.Flows.{FlowSuits, done_suits}

true_false : true ≡ false → ⊥
true_false is = cc

same_front : (a b : Inst) (xs ys : List Inst) → a ∷ xs ≡ b ∷ ys → a ≡ b
same_front a b xs ys is = cc

is_within : (insts : List Inst) (place : ℕ) (inst : Inst) (rest : List Inst) → drop place insts ≡ inst ∷ rest → place < length insts
is_within insts place inst rest is = let e : length insts - place ≡ suc (length rest) = sym (length-drop place insts) ∙ ap length is in omega arith

-- the instruction at the front of what stands from a place on
pub front_at : (insts : List Inst) (place : ℕ) (inst : Inst) (rest : List Inst) → drop place insts ≡ inst ∷ rest
    → (slice_get insts place ≡ Some inst) × (drop (place + 1) insts ≡ rest)
front_at insts place inst rest is =
    let within = is_within insts place inst rest is in
    let same = same_front (get_or insts place inst) inst _ rest (sym (drop-cons insts place inst within) ∙ is) in
    (slice_get-get_or insts place inst within ∙ ap Some same, sym (drop-drop 1 place insts) ∙ ap (drop 1) is)

-- what stands behind a front of what stands from a place on
pub behind_front : (insts front rest : List Inst) (place : ℕ) → drop place insts ≡ front ++ rest → drop (place + length front) insts ≡ rest
behind_front insts front rest place is = sym (drop-drop (length front) place insts) ∙ ap (drop (length front)) is ∙ drop-append_seam front rest

flow_is : (program : Program) (place : ℕ) (state : State) (inst : Inst) → slice_get program.insts place ≡ Some inst → flow_at program (machine place state) ≡ done program inst state
unfolding flow_at
flow_is program place state inst is = ap (option_and_then (λ inst. done program inst state)) is

pub step_is : (program : Program) (place : ℕ) (state : State) (found : Option (Flow × State)) → flow_at program (machine place state) ≡ found
    → step program (machine place state) ≡ option_and_then (led program place) found
unfolding flow_at step
step_is program place state found is = ap (option_and_then (led program place)) is

stuck_here : (program : Program) (place : ℕ) (state : State) → flow_at program (machine place state) ≡ None → IsStuck program (machine place state)
stuck_here program place state is = record { at = machine place state; comes = stays refl; stuck = step_is program place state None is }

-- instructions that lead nowhere, in front of others: the machine is stuck in them, or comes to the others
data FrontRuns (program : Program) (front rest : List Inst) (place : ℕ) (state : State) : Type 0 where
  stuck_in : block program (front ++ rest) state ≡ None → IsStuck program (machine place state) → FrontRuns program front rest place state
  passes : (after : State) → Steps program (machine place state) (machine (place + length front) after) → after.back_edges ≡ state.back_edges
      → block program (front ++ rest) state ≡ block program rest after → FrontRuns program front rest place state

add_suc : (program : Program) (place n : ℕ) (a b : State) → Steps program (machine (place + 1) a) (machine (place + 1 + n) b) → Steps program (machine (place + 1) a) (machine (place + suc n) b)
add_suc program place n a b comes = let e : place + 1 + n ≡ place + suc n = omega arith in subst (λ p. Steps program (machine (place + 1) a) (machine p b)) e comes

abbrev Rest : Program → List Inst → List Inst → ℕ → Type 0
Rest program front rest place = (state : State) → FrontRuns program front rest place state

by_flow : (program : Program) (inst : Inst) (front rest : List Inst) (place : ℕ) (state : State) → slice_get program.insts place ≡ Some inst → is_terminator inst.op ≡ false
    → Rest program front rest (place + 1) → (found : Option (Flow × State)) → done program inst state ≡ found → FlowSuits inst state found → FrontRuns program (inst ∷ front) rest place state
by_flow program inst front rest place state at isnt go None is suits =
    stuck_in (ap (λ (r : Option (Flow × State)). led_on r (after_inst (block program (front ++ rest)))) is)
    (stuck_here program place state (flow_is program place state inst at ∙ is))
by_flow program inst front rest place state at isnt go (Some (Next, next)) is suits =
    let flows = flow_is program place state inst at ∙ is in
    let steps = one_step program (machine place state) (machine (place + 1) next) (step_is program place state _ flows) in
    let same = ap (λ (r : Option (Flow × State)). led_on r (after_inst (block program (front ++ rest)))) is in
    elim (go next) [
      | stuck_in none stuck ↦ stuck_in (same ∙ none) (stuck_later program _ _ steps stuck)
      | passes after comes edges runs ↦ passes after (and_then program _ _ _ steps (add_suc program place (length front) next after comes)) (edges ∙ suits.1) (same ∙ runs)
    ]
by_flow program inst front rest place state at isnt go (Some (To label, next)) is suits = absurd (true_false (sym suits.0 ∙ isnt))
by_flow program inst front rest place state at isnt go (Some (Stopped kind, next)) is suits = absurd (true_false (sym suits.0 ∙ isnt))

front_runs : (program : Program) (front rest behind : List Inst) (place : ℕ) (state : State) → drop place program.insts ≡ front ++ behind → AreStraight front
    → FrontRuns program front rest place state
front_runs program [] rest behind place state at straight =
    passes state (stays (ap (λ (p : ℕ). machine p state) (omega arith))) refl refl
front_runs program (inst ∷ front) rest behind place state at straight =
    let here = front_at program.insts place inst (front ++ behind) at in
    by_flow program inst front rest place state here.0 straight.0 (λ next. front_runs program front rest behind (place + 1) next here.1 straight.1)
    (done program inst state) refl (done_suits program inst state)

-- ---- with the terminator

abbrev pub AfterLast : Inst → ℕ → Type 0
AfterLast last label = is_among label (targets last) ≡ true

last_leads : (program : Program) (last : Inst) (place : ℕ) (state : State) → slice_get program.insts place ≡ Some last → is_terminator last.op ≡ true → state.back_edges < BACK_EDGES
    → (found : Option (Flow × State)) → done program last state ≡ found → FlowSuits last state found
    → Leads program (AfterLast last) place (place + 1) state (led_on found (after_inst (block program [])))
last_leads program last place state at is few None flows suits = stuck_here program place state (flow_is program place state last at ∙ flows)
last_leads program last place state at is few (Some (Next, after)) flows suits = absurd (true_false (sym is ∙ suits.0))
last_leads program last place state at is few (Some (To label, after)) flows suits =
    (record { place = place; at = state; comes = stays refl; low = omega arith; high = omega arith; flows = flow_is program place state last at ∙ flows; grows = omega (arith, suits.2); few = subst (λ n. n < BACK_EDGES) (sym suits.2) few }, suits.1)
last_leads program last place state at is few (Some (Stopped kind, after)) flows suits =
    record { at = machine place state; comes = stays refl; stops = step_is program place state _ (flow_is program place state last at ∙ flows) }

last_is : (program : Program) (last : Inst) (place : ℕ) (state : State) → slice_get program.insts place ≡ Some last → is_terminator last.op ≡ true → state.back_edges < BACK_EDGES
    → Leads program (AfterLast last) place (place + 1) state (block program (last ∷ []) state)
last_is program last place state at is few = last_leads program last place state at is few (done program last state) refl (done_suits program last state)

-- a block leads where its last instruction does
pub block_leads : (program : Program) (front : List Inst) (last : Inst) (behind : List Inst) (place : ℕ) (state : State) → drop place program.insts ≡ front ++ last ∷ behind
    → AreStraight front → is_terminator last.op ≡ true → state.back_edges < BACK_EDGES
    → Leads program (AfterLast last) place (place + length front + 1) state (block program (front ++ last ∷ []) state)
block_leads program front last behind place state at straight is few =
    let at_last = front_at program.insts (place + length front) last behind (behind_front program.insts front (last ∷ behind) place at) in
    elim (front_runs program front (last ∷ []) (last ∷ behind) place state at straight) [
      | stuck_in none stuck ↦ subst (Leads program (AfterLast last) place (place + length front + 1) state) (sym none) stuck
      | passes after comes edges runs ↦ subst (Leads program (AfterLast last) place (place + length front + 1) state) (sym runs)
          (leads_later program (AfterLast last) place (place + length front) (place + length front + 1) state after _ (omega arith) (omega (arith, edges)) comes
          (last_is program last (place + length front) after at_last.0 is (subst (λ n. n < BACK_EDGES) (sym edges) few)))
    ]
