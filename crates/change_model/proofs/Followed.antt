-- A machine that follows another one ends as that one ends.
use Rattle.std.proofs.Common.{◌≡◌, ℕ, zero, suc, ◌+◌, ◌-◌, ◌*◌, ◌<◌, ◌≤◌, inl, inr, List, length, refl, ap, sym, ◌∙◌, subst, arith, Option, None, Some}
use Rattle.std.specs.Prelude.{IsSome}
use Rattle.std.specs.Option.{option_map, option_and_then}
use Rattle.std.proofs.Math.Nat.{suc-mul}
use Rattle.limits.specs.declared.TheConstants.{BACK_EDGES}
use Rattle.spirv_model.specs.declared.module.Inst.{Inst}
use Rattle.stage_model.specs.declared.outcome.Kind.{Kind}
use Rattle.stage_model.specs.Program.{Program, program_of}
use Rattle.stage_model.specs.Machine.{State, Machine, Step, GoesOn, Ends, step, end_after, run}
use Rattle.stage_model.specs.Steps.{Steps, stays, goes}
use Rattle.stage_model.specs.Stage.{Given, Outcome, start_at, first_label, outcome_of, enough_steps, stage}
use Rattle.stage_model.proofs.EnoughSteps.{EndsOrIsStuck, enough, steps_left}
use Rattle.change_model.specs.Keeping.{KeepsOutcomeBy}
use Rattle.change_model.specs.Following.{Moves, Round, returns, ends, stops, Follows}

-- ---- runs and steps

-- a machine ends within fewer than so many steps
record EndsWithin (program : Program) (m : Machine) (kind : Kind) (after : State) (limit : ℕ) : Type 0 where
  steps : ℕ
  few : steps < limit
  is : run steps program m ≡ Some (kind, after)

same_run : (program : Program) (n : ℕ) (m : Machine) (found : Step) (r : Option (Kind × State)) → step program m ≡ Some found → run (suc n) program m ≡ r → end_after (Some found) (run n program) ≡ r
same_run program n m found r is runs = sym (ap (λ (s : Option Step). end_after s (run n program)) is) ∙ runs

-- behind a step fewer are left
after_step : (program : Program) (n : ℕ) (m next : Machine) (kind : Kind) (after : State) → step program m ≡ Some (GoesOn next) → run n program m ≡ Some (kind, after) → EndsWithin program next kind after n
after_step program zero m next kind after is runs = cc
after_step program (suc n) m next kind after is runs = record { steps = n; few = omega arith; is = same_run program n m (GoesOn next) (Some (kind, after)) is runs }

later : (program : Program) (m n : Machine) (kind : Kind) (after : State) (limit : ℕ) → Steps program m n → EndsWithin program m kind after limit → EndsWithin program n kind after limit
later program m n kind after limit (stays is) e = subst (λ m. EndsWithin program m kind after limit) is e
later program m n kind after limit (goes next is more) e =
    let f = after_step program e.steps m next kind after is e.is in
    later program next n kind after limit more (record { steps = f.steps; few = let a = e.few in let b = f.few in omega (arith, a, b); is = f.is })

moved : (program : Program) (m n : Machine) (kind : Kind) (after : State) (steps : ℕ) → Moves program m n → run steps program m ≡ Some (kind, after) → EndsWithin program n kind after steps
moved program m n kind after steps moves runs = later program moves.next n kind after steps moves.comes (after_step program steps m moves.next kind after moves.goes runs)

one_end : (a b : Kind × State) → ◌≡◌ {A = Option (Kind × State)} (Some a) (Some b) → a ≡ b
one_end a b is = cc

-- where a machine comes to its end, that is what it ends with
end_is : (program : Program) (at : Machine) (kind other : Kind) (after left : State) (n : ℕ) → step program at ≡ Some (Ends kind after) → run n program at ≡ Some (other, left) → (kind ≡ other) × (after ≡ left)
end_is program at kind other after left zero ended runs = cc
end_is program at kind other after left (suc n) ended runs =
    let same = one_end (kind, after) (other, left) (same_run program n at (Ends kind after) (Some (other, left)) ended runs) in
    (ap (λ (r : Kind × State). r.0) same, ap (λ (r : Kind × State). r.1) same)

-- a machine that ends comes to no instruction that it can't run
never_stuck : (program : Program) (j : ℕ) (m at : Machine) (r : Kind × State) → run j program m ≡ Some r → Steps program m at → step program at ≡ None → ⊥
never_stuck program zero m at r runs comes stuck = cc
never_stuck program (suc j) m at r runs (stays is) stuck =
    let e : end_after None (run j program) ≡ Some r = sym (ap (λ (s : Option Step). end_after s (run j program)) (ap (step program) is ∙ stuck)) ∙ runs in cc
never_stuck program (suc j) m at r runs (goes next is more) stuck =
    never_stuck program j next at r (sym (ap (λ (s : Option Step). end_after s (run j program)) is) ∙ runs) more stuck

-- ---- ends

-- a machine comes to an end, and what is left there is the outcome of the old side but for steps that are spared
pub record EndsAlike (Kept : Outcome → Outcome → Type 0) (new old : Program) (m : Machine) (kind : Kind) (after : State) : Type 0 where
  pub left : State
  pub steps : ℕ
  pub is : run steps new m ≡ Some (kind, left)
  pub kept : Kept (outcome_of new (kind, left)) (outcome_of old (kind, after))

earlier : (Kept : Outcome → Outcome → Type 0) (new old : Program) (m n : Machine) (kind : Kind) (after : State) → Steps new m n → EndsAlike Kept new old n kind after → EndsAlike Kept new old m kind after
earlier Kept new old m n kind after (stays is) e = subst (λ m. EndsAlike Kept new old m kind after) (sym is) e
earlier Kept new old m n kind after (goes next is more) e =
    let f = earlier Kept new old next n kind after more e in
    record { left = f.left; steps = suc f.steps; is = ap (λ (s : Option Step). end_after s (run f.steps new)) is ∙ f.is; kept = f.kept }

ended : (Kept : Outcome → Outcome → Type 0) (new old : Program) (at : Machine) (kind other : Kind) (after left left' : State) → step new at ≡ Some (Ends kind left) → kind ≡ other → left' ≡ after → Kept (outcome_of new (kind, left)) (outcome_of old (kind, left'))
    → EndsAlike Kept new old at other after
ended Kept new old at kind other after left left' at_end is same kept =
    subst (EndsAlike Kept new old at other) same
    (subst (λ k. EndsAlike Kept new old at k left') is (record { left = left; steps = suc zero; is = ap (λ (s : Option Step). end_after s (run zero new)) at_end; kept = kept }))

follow_within : (Kept : Outcome → Outcome → Type 0) (new old : Program) (Related : Machine → Machine → Type 0) → Follows Kept new old Related → (limit : ℕ) (m n : Machine) (kind : Kind) (after : State) → Related m n → EndsWithin old n kind after limit → EndsAlike Kept new old m kind after
follow_within Kept new old Related follows zero m n kind after related e = let few = e.few in absurd (omega (arith, few))
follow_within Kept new old Related follows (suc limit) m n kind after related e =
    by_round (λ m' n' again within. follow_within Kept new old Related follows limit m' n' kind after again within) (follows m n related)
  where
    by_round : ((m' n' : Machine) → Related m' n' → EndsWithin old n' kind after limit → EndsAlike Kept new old m' kind after) → Round Kept new old Related m n → EndsAlike Kept new old m kind after
    by_round further (returns m' n' comes moves again) =
        let f = moved old n n' kind after e.steps moves e.is in
        earlier Kept new old m m' kind after comes
        (further m' n' again (record { steps = f.steps; few = let a = e.few in let b = f.few in omega (arith, a, b); is = f.is }))
    by_round further (ends own left left' comes finishes kept) =
        let f = later old n finishes.at kind after (suc limit) finishes.comes e in
        let same = end_is old finishes.at own kind left' after f.steps finishes.stops f.is in
        earlier Kept new old m comes.at kind after comes.comes (ended Kept new old comes.at own kind after left left' comes.stops same.0 same.1 kept)
    by_round further (stops stuck) = absurd (never_stuck old e.steps n stuck.at (kind, after) e.is stuck.comes stuck.stuck)

-- a machine that follows another one ends as that one ends
pub follow : (Kept : Outcome → Outcome → Type 0) (new old : Program) (Related : Machine → Machine → Type 0) → Follows Kept new old Related → (m n : Machine) → Related m n → (steps : ℕ) (kind : Kind) (after : State) → run steps old n ≡ Some (kind, after) → EndsAlike Kept new old m kind after
follow Kept new old Related follows m n related steps kind after is = follow_within Kept new old Related follows (suc steps) m n kind after related (record { steps = steps; few = omega arith; is = is })

-- ---- outcomes

same_end : (program : Program) (j n : ℕ) (m : Machine) (r : Kind × State) → run j program m ≡ Some r → IsSome (run n program m) → run n program m ≡ Some r
same_end program zero n m r runs some = cc
same_end program (suc j) zero m r runs some = cc
same_end program (suc j) (suc n) m r runs some = by_step (λ next. same_end program j n next r) (step program m) refl
  where
    by_step : ((next : Machine) → run j program next ≡ Some r → IsSome (run n program next) → run n program next ≡ Some r) → (found : Option Step) → step program m ≡ found → run (suc n) program m ≡ Some r
    by_step later None is = let e : end_after None (run j program) ≡ Some r = sym (ap (λ (s : Option Step). end_after s (run j program)) is) ∙ runs in cc
    by_step later (Some (Ends kind state)) is =
        ap (λ (s : Option Step). end_after s (run n program)) is ∙ (sym (ap (λ (s : Option Step). end_after s (run j program)) is) ∙ runs)
    by_step later (Some (GoesOn next)) is =
        ap (λ (s : Option Step). end_after s (run n program)) is
        ∙ later next (sym (ap (λ (s : Option Step). end_after s (run j program)) is) ∙ runs)
        (subst (λ o. IsSome o) (ap (λ (s : Option Step). end_after s (run n program)) is) some)

by_end : (program : Program) (j n : ℕ) (m : Machine) (r : Kind × State) → run j program m ≡ Some r → EndsOrIsStuck n program m → run n program m ≡ Some r
by_end program j n m r runs (inl some) = same_end program j n m r runs some
by_end program j n m r runs (inr stuck) = absurd (never_stuck program j m stuck.at r runs stuck.comes stuck.stuck)

pub same_insts : (insts : List Inst) → (program_of insts).insts ≡ insts
unfolding program_of
same_insts insts = refl

start_is_first : (insts : List Inst) (given : Given) (first : ℕ) → (start_at (program_of insts) given first).state.back_edges ≡ 0
unfolding start_at
start_is_first insts given first = refl

no_fewer : (insts : List Inst) (given : Given) (first : ℕ) → steps_left (program_of insts) (start_at (program_of insts) given first) ≤ enough_steps insts
no_fewer insts given first =
    let m = start_at (program_of insts) given first in
    let e : (BACK_EDGES - m.state.back_edges) * length (program_of insts).insts ≡ BACK_EDGES * length insts
    = ap (λ (n : ℕ). (BACK_EDGES - n) * length (program_of insts).insts) (start_is_first insts given first) ∙ ap (λ (l : List Inst). BACK_EDGES * length l) (same_insts insts) in
    let f : (BACK_EDGES + 1) * length insts ≡ BACK_EDGES * length insts + length insts = suc-mul BACK_EDGES (length insts) in
    let g : length (program_of insts).insts ≡ length insts = ap length (same_insts insts) in
    omega (arith, e, f, g)

found : {A B : Type 0} (f : A → B) (o : Option A) (b : B) → option_map f o ≡ Some b → (a : A) × (o ≡ Some a) × (f a ≡ b)
found f None b is = cc
found f (Some a) b is = (a, refl, cc)

stage_at : (insts : List Inst) (given : Given) (first : ℕ) → first_label insts ≡ Some first
    → stage insts given ≡ option_map (outcome_of (program_of insts)) (run (enough_steps insts) (program_of insts) (start_at (program_of insts) given first))
unfolding stage
stage_at insts given first is = ap (option_and_then (λ first. option_map (outcome_of (program_of insts)) (run (enough_steps insts) (program_of insts) (start_at (program_of insts) given first)))) is

-- where the machine of one list follows that of another from their first labels on, what the latter leaves is kept
pub stage_followed : (Kept : Outcome → Outcome → Type 0) (new old : List Inst) (Related : Machine → Machine → Type 0) → Follows Kept (program_of new) (program_of old) Related
    → (given given' : Given) (first first' : ℕ) → first_label new ≡ Some first → first_label old ≡ Some first'
    → Related (start_at (program_of new) given first) (start_at (program_of old) given' first') → KeepsOutcomeBy Kept (stage new given) (stage old given')
stage_followed Kept new old Related follows given given' first first' at at' related = λ outcome is.
    let p = program_of new in let q = program_of old in
    let m = start_at p given first in
    let f = found (outcome_of q) (run (enough_steps old) q (start_at q given' first')) outcome (sym (stage_at old given' first' at') ∙ is) in
    let e = follow Kept p q Related follows m (start_at q given' first') related (enough_steps old) f.0.0 f.0.1 f.1 in
    let few : m.state.back_edges < BACK_EDGES = subst (λ n. n < BACK_EDGES) (sym (start_is_first new given first)) (omega arith) in
    let r = by_end p e.steps (enough_steps new) m (f.0.0, e.left) e.is (enough (enough_steps new) p m few (no_fewer new given first)) in
    (outcome_of p (f.0.0, e.left), stage_at new given first at ∙ ap (option_map (outcome_of p)) r, subst (Kept (outcome_of p (f.0.0, e.left))) f.2 e.kept)
