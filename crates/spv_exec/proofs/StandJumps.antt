-- Where the code stands behind a jump.
use Rattle.std.proofs.Common.{◌≡◌, ℕ, ◌+◌, ◌<◌, ◌≤◌, nat_le, Bool, true, false, if◌then◌else◌, refl, ap, sym, ◌∙◌, subst, arith, Option, None, Some}
use Rattle.std.specs.Option.{unwrap_or}
use Rattle.std.proofs.lemmas.Bool.Decides.{nat_tests}
use Rattle.limits.specs.declared.TheConstants.{BACK_EDGES}
use Rattle.stage_model.specs.declared.outcome.Kind.{Kind}
use Rattle.stage_model.specs.declared.outcome.Kind.TheVariants.{Lost}
use Rattle.stage_model.specs.Machine.{State, Step, GoesOn, Ends, at, back_to, jump}
use Rattle.spv_exec.specs.declared.stand.Stand.{Stand}
use Rattle.spv_exec.specs.Walks.{IsAt, LeadsTo}

is_ahead : (from to : ℕ) → from < to → nat_le to from ≡ false
is_ahead from to less = grind (arith, nat_tests)

is_behind : (from to : ℕ) → to ≤ from → nat_le to from ≡ true
is_behind from to upto = grind (arith, nat_tests)

is_last : (edges : ℕ) → BACK_EDGES ≤ edges → nat_le BACK_EDGES edges ≡ true
is_last edges upto = grind (arith, nat_tests)

is_few : (edges : ℕ) → edges < BACK_EDGES → nat_le BACK_EDGES edges ≡ false
is_few edges less = grind (arith, nat_tests)

abbrev Jumps : Option Kind → Stand → ℕ → State → Bool → Bool → Type 0
Jumps kind stand to state back last =
    LeadsTo kind stand (if back then (if last then Ends Lost (record state { back_edges = state.back_edges + 1 }) else at to (record state { back_edges = state.back_edges + 1 })) else at to state)

tests : (kind : Option Kind) (stand : Stand) (from to : ℕ) (state : State) (back last : Bool) → nat_le to from ≡ back → nat_le BACK_EDGES (state.back_edges + 1) ≡ last → Jumps kind stand to state back last → LeadsTo kind stand (jump from to state)
tests kind stand from to state back last is also jumps = subst (λ (l : Bool). Jumps kind stand to state (nat_le to from) l) (sym also) (subst (λ (b : Bool). Jumps kind stand to state b last) (sym is) jumps)

-- ahead
pub jumps_ahead : (stand : Stand) (to found : ℕ) (state : State) → found ≡ to → stand.place < found → IsAt state stand → LeadsTo None (record stand { place = found }) (jump stand.place to state)
jumps_ahead stand to found state is less here =
    tests None (record stand { place = found }) stand.place to state false (nat_le BACK_EDGES (state.back_edges + 1)) (is_ahead stand.place to (omega (arith, is, less))) refl
    (sym is, record { label = here.label; before = here.before; back_edges = here.back_edges; work = here.work })

one_more : (stand : Stand) (state : State) → IsAt state stand → state.back_edges + 1 ≡ stand.back_edges + 1
one_more stand state here = ap (λ (n : ℕ). n + 1) here.back_edges

-- back for the last time
pub jumps_last : (stand : Stand) (to found : ℕ) (state : State) → found ≡ to → found ≤ stand.place → BACK_EDGES ≤ stand.back_edges + 1 → IsAt state stand
    → LeadsTo (Some Lost) (record stand { back_edges = stand.back_edges + 1 }) (jump stand.place to state)
jumps_last stand to found state is upto last here =
    tests (Some Lost) (record stand { back_edges = stand.back_edges + 1 }) stand.place to state true true (is_behind stand.place to (omega (arith, is, upto)))
    (is_last (state.back_edges + 1) (let e = one_more stand state here in omega (arith, last, e)))
    (refl, record { label = here.label; before = here.before; back_edges = one_more stand state here; work = here.work })

-- back
pub jumps_back : (stand : Stand) (to found : ℕ) (state : State) → found ≡ to → found ≤ stand.place → stand.back_edges + 1 < BACK_EDGES → IsAt state stand
    → LeadsTo None (record stand { place = found; back_edges = stand.back_edges + 1 }) (jump stand.place to state)
jumps_back stand to found state is upto few here =
    tests None (record stand { place = found; back_edges = stand.back_edges + 1 }) stand.place to state true false (is_behind stand.place to (omega (arith, is, upto)))
    (is_few (state.back_edges + 1) (let e = one_more stand state here in omega (arith, few, e)))
    (sym is, record { label = here.label; before = here.before; back_edges = one_more stand state here; work = here.work })
