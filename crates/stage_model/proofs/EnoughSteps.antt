-- The steps of a run are enough: a machine that hasn't ended by then is stuck before.
use Rattle.std.proofs.Common.{◌≡◌, ℕ, zero, suc, ◌+◌, ◌-◌, ◌*◌, ◌<◌, ◌≤◌, ◌⊎◌, inl, inr, Bool, true, false, nat_le, if◌then◌else◌, List, length, refl, ap, sym, ◌∙◌, subst, arith, Option, None, Some}
use Rattle.std.specs.Prelude.{slice_get, IsSome}
use Rattle.std.specs.Option.{option_map, option_and_then}
use Rattle.std.proofs.lemmas.Bool.Decides.{nat_tests}
use Rattle.std.proofs.lemmas.Option.{slice_get_within}
use Rattle.std.proofs.Math.Nat.{suc-mul}
use Rattle.limits.specs.declared.TheConstants.{BACK_EDGES}
use Rattle.spirv_model.specs.declared.module.Inst.{Inst}
use Rattle.stage_model.specs.declared.outcome.Kind.{Kind}
use Rattle.stage_model.specs.declared.outcome.Kind.TheVariants.{Lost}
use Rattle.stage_model.specs.Value.{Value}
use Rattle.stage_model.specs.Program.{Program}
use Rattle.stage_model.specs.Effect.{Effect, Passes, Gives, Writes, Enters, Goes, Stops, effect_of}
use Rattle.stage_model.specs.Machine.{State, Flow, Next, To, Stopped, after_effect, done, read_values, Machine, Step, GoesOn, Ends, at, back_to, jump, led, step, end_after, run}
use Rattle.stage_model.specs.Steps.{Steps, stays, goes, IsStuck}

-- how far a step comes: further on in the list, or by a back edge, of which there are fewer than lose an invocation
data Advances (place edges : ℕ) (m : Machine) : Type 0 where
  further : place < m.place → m.state.back_edges ≡ edges → Advances place edges m
  back : m.state.back_edges ≡ edges + 1 → edges + 1 < BACK_EDGES → Advances place edges m

abbrev AdvancesTo : ℕ → ℕ → Option Step → Type 0
AdvancesTo place edges None = Unit {0}
AdvancesTo place edges (Some (GoesOn m)) = Advances place edges m
AdvancesTo place edges (Some (Ends kind state)) = Unit {0}

below : (edges : ℕ) → nat_le BACK_EDGES (edges + 1) ≡ false → edges + 1 < BACK_EDGES
below edges is = grind (arith, nat_tests)

ahead : (from to : ℕ) → nat_le to from ≡ false → from < to
ahead from to is = grind (arith, nat_tests)

back_edge : (place to : ℕ) (state : State) (full : Bool) → full ≡ nat_le BACK_EDGES (state.back_edges + 1)
    → AdvancesTo place state.back_edges (Some (if full then Ends Lost (record state { back_edges = state.back_edges + 1 }) else at to (record state { back_edges = state.back_edges + 1 })))
back_edge place to state true is = tt
back_edge place to state false is = back refl (below state.back_edges (sym is))

jumps : (from to : ℕ) (state : State) (is_back : Bool) → is_back ≡ nat_le to from → AdvancesTo from state.back_edges (Some (if is_back then back_to to state else at to state))
jumps from to state true is = back_edge from to state (nat_le BACK_EDGES (state.back_edges + 1)) refl
jumps from to state false is = further (ahead from to (sym is)) refl

jumps_to : (from : ℕ) (state : State) (to : Option ℕ) → AdvancesTo from state.back_edges (option_map (λ to. jump from to state) to)
jumps_to from state None = tt
jumps_to from state (Some to) = jumps from to state (nat_le to from) refl

leads : (program : Program) (place : ℕ) (flow : Flow) (state : State) → AdvancesTo place state.back_edges (led program place (flow, state))
leads program place Next state = further (omega arith) refl
leads program place (To label) state = jumps_to place state (program.label_place label)
leads program place (Stopped kind) state = tt

effect_leads : (program : Program) (place : ℕ) (inst : Inst) (state : State) (effect : Effect) → AdvancesTo place state.back_edges (led program place (after_effect inst state effect))
effect_leads program place inst state Passes = leads program place Next (after_effect inst state Passes).1
effect_leads program place inst state (Gives value) = leads program place Next (after_effect inst state (Gives value)).1
effect_leads program place inst state (Writes variable from words) = leads program place Next (after_effect inst state (Writes variable from words)).1
effect_leads program place inst state (Enters label) = leads program place Next (after_effect inst state (Enters label)).1
effect_leads program place inst state (Goes label) = leads program place (To label) (after_effect inst state (Goes label)).1
effect_leads program place inst state (Stops kind) = tt

some_effect_leads : (program : Program) (place : ℕ) (inst : Inst) (state : State) (effect : Option Effect)
    → AdvancesTo place state.back_edges (option_and_then (led program place) (option_map (after_effect inst state) effect))
some_effect_leads program place inst state None = tt
some_effect_leads program place inst state (Some effect) = effect_leads program place inst state effect

inst_leads : (program : Program) (place : ℕ) (state : State) (inst : Option Inst)
    → AdvancesTo place state.back_edges (option_and_then (led program place) (option_and_then (λ inst. done program inst state) inst))
unfolding done
inst_leads program place state None = tt
inst_leads program place state (Some inst) = some_effect_leads program place inst state _

step_advances : (program : Program) (m : Machine) → AdvancesTo m.place m.state.back_edges (step program m)
unfolding step
step_advances program m = inst_leads program m.place m.state (slice_get program.insts m.place)

-- the instruction at the place is there, where there is a step
within : (program : Program) (place : ℕ) (state : State) (found : Option Inst) (s : Step)
    → option_and_then (led program place) (option_and_then (λ inst. done program inst state) found) ≡ Some s → (inst : Inst) × (found ≡ Some inst)
within program place state None s is = cc
within program place state (Some inst) s is = (inst, refl)

step_within : (program : Program) (m : Machine) (s : Step) → step program m ≡ Some s → m.place < length program.insts
unfolding step
step_within program m s is =
    let found = within program m.place m.state (slice_get program.insts m.place) s is in
    slice_get_within program.insts m.place found.0 found.1

-- how many steps may follow
abbrev pub steps_left : Program → Machine → ℕ
steps_left program m = (BACK_EDGES - m.state.back_edges) * length program.insts + (length program.insts - m.place)

one_less : (edges count : ℕ) → edges + 1 < BACK_EDGES → (BACK_EDGES - edges) * count ≡ (BACK_EDGES - (edges + 1)) * count + count
one_less edges count few =
    let is : BACK_EDGES - edges ≡ suc (BACK_EDGES - (edges + 1)) = omega arith in
    ap (λ (n : ℕ). n * count) is ∙ suc-mul (BACK_EDGES - (edges + 1)) count

fewer : (program : Program) (m next : Machine) → m.place < length program.insts → Advances m.place m.state.back_edges next → steps_left program next < steps_left program m
fewer program m next here (further forward same) =
    let e : (BACK_EDGES - next.state.back_edges) * length program.insts ≡ (BACK_EDGES - m.state.back_edges) * length program.insts
    = ap (λ (n : ℕ). (BACK_EDGES - n) * length program.insts) same in
    omega (arith, e)
fewer program m next here (back same few) =
    let e : (BACK_EDGES - next.state.back_edges) * length program.insts ≡ (BACK_EDGES - (m.state.back_edges + 1)) * length program.insts
    = ap (λ (n : ℕ). (BACK_EDGES - n) * length program.insts) same in
    let l = one_less m.state.back_edges (length program.insts) few in
    omega (arith, e, l)

few_still : (m next : Machine) → m.state.back_edges < BACK_EDGES → Advances m.place m.state.back_edges next → next.state.back_edges < BACK_EDGES
few_still m next few (further forward same) = subst (λ n. n < BACK_EDGES) (sym same) few
few_still m next few (back same less) = subst (λ n. n < BACK_EDGES) (sym same) less

-- a machine has ended by then, or is stuck before
abbrev pub EndsOrIsStuck : ℕ → Program → Machine → Type 0
EndsOrIsStuck n program m = IsSome (run n program m) ⊎ IsStuck program m

later : (program : Program) (m next : Machine) → step program m ≡ Some (GoesOn next) → IsStuck program next → IsStuck program m
later program m next is stuck = record { at = stuck.at; comes = goes next is stuck.comes; stuck = stuck.stuck }

no_place : (program : Program) (m : Machine) → m.state.back_edges < BACK_EDGES → steps_left program m ≤ 0 → m.place < length program.insts → ⊥
no_place program m few left here =
    let e : (BACK_EDGES - m.state.back_edges) * length program.insts + (length program.insts - m.place) ≤ 0 = left in
    omega (arith, e)

nothing_left : (program : Program) (m : Machine) → m.state.back_edges < BACK_EDGES → steps_left program m ≤ 0 → (found : Option Step) → step program m ≡ found → IsStuck program m
nothing_left program m few left None is = record { at = m; comes = stays refl; stuck = is }
nothing_left program m few left (Some s) is = absurd (no_place program m few left (step_within program m s is))

after_step : (n : ℕ) (program : Program) (m : Machine) (found : Option Step) → step program m ≡ found
    → ((next : Machine) → found ≡ Some (GoesOn next) → EndsOrIsStuck n program next) → IsSome (end_after found (run n program)) ⊎ IsStuck program m
after_step n program m None is rest = inr (record { at = m; comes = stays refl; stuck = is })
after_step n program m (Some (Ends kind state)) is rest = inl refl
after_step n program m (Some (GoesOn next)) is rest = elim (rest next refl) [ inl ended ↦ inl ended | inr stuck ↦ inr (later program m next is stuck) ]

advances : (program : Program) (m next : Machine) → step program m ≡ Some (GoesOn next) → Advances m.place m.state.back_edges next
advances program m next is = subst (AdvancesTo m.place m.state.back_edges) is (step_advances program m)

-- the steps that may follow are enough
pub enough : (n : ℕ) (program : Program) (m : Machine) → m.state.back_edges < BACK_EDGES → steps_left program m ≤ n → EndsOrIsStuck n program m
enough zero program m few left = inr (nothing_left program m few left (step program m) refl)
enough (suc n) program m few left = after_step n program m (step program m) refl
    (λ next is. let a = advances program m next is in
    let less = fewer program m next (step_within program m _ is) a in
    enough n program next (few_still m next few a) (omega (arith, less, left)))
