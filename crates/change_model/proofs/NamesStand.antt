-- What stands for an id where a plan is carried out: what its name means is no phi that goes, and is visible where the id is defined.
use Rattle.std.proofs.Common.{◌≡◌, ℕ, zero, suc, ◌<◌, ◌≤◌, ◌||◌, ◌⊎◌, inl, inr, Bool, true, false, not, if◌then◌else◌, List, [], ◌∷◌, refl, ap, sym, ◌∙◌, arith, Option, Some}
use Rattle.std.specs.Prelude.{filter}
use Rattle.std.proofs.lemmas.Bool.{eq-eqb, and_parts, and_from}
use Rattle.spirv_model.specs.declared.module.Inst.{Inst}
use Rattle.spirv_model.specs.declared.op.TheConstants as op
use Rattle.spirv_model.specs.Operands.{word_at}
use Rattle.body_model.specs.Switches.{is_among}
use Rattle.valid_model.specs.Definitions.{definition, inst_at}
use Rattle.check_model.specs.Intervals.{Interval, intervals_of, has_place, is_visible}
use Rattle.check_model.specs.Visibility.{Incoming, incoming, is_defined_for}
use Rattle.typed_model.specs.Jumps.{keeps}
use Rattle.typed_model.proofs.FunctionRuns.{function_within}
use Rattle.typed_model.proofs.TypedSteps.{visible_by, seen}
use Rattle.change_model.specs.declared.fate.Fate.{Fate}
use Rattle.change_model.specs.declared.fate.Fate.TheVariants.{Dead, Stays, Goes, Picks, Folds, Nulls, Resolves, Skips, Unused}
use Rattle.change_model.specs.Plans.{Plan, is_dead, predecessors_left, block_at}
use Rattle.change_model.specs.PlanRules.{remains, intervals_left, is_constant_fate, IsResolved}
use Rattle.change_model.proofs.PhiPairsLeft.{in_filtered, pair_left}
use Rattle.change_model.proofs.Planned.{Planned, inside, fits_there}
use Rattle.change_model.proofs.PlanRunsNames.{own_name, phi_result}
use Rattle.change_model.proofs.PlanRunsValues.{result_at}
use Rattle.change_model.proofs.SeenAlive.{seen_alive}

-- ---- visibility

fewer_kept : (test : Interval → Bool) (intervals : List Interval) (a b : ℕ) → keeps intervals a b ≡ true → keeps (filter test intervals) a b ≡ true
fewer_kept test [] a b kept = refl
fewer_kept test (i ∷ intervals) a b kept =
    let parts = and_parts (not (has_place a i) || has_place b i) (keeps intervals a b) kept in
    by_test (test i) parts.0 (fewer_kept test intervals a b parts.1)
  where
    by_test : (x : Bool) → (not (has_place a i) || has_place b i) ≡ true → keeps (filter test intervals) a b ≡ true → keeps (if x then i ∷ filter test intervals else filter test intervals) a b ≡ true
    by_test true own rest = and_from (not (has_place a i) || has_place b i) (keeps (filter test intervals) a b) own rest
    by_test false own rest = rest

-- with fewer intervals more is visible
pub visible_fewer : (plan : Plan) (insts : List Inst) (intervals : List Interval) (a b : ℕ) → is_visible intervals a b ≡ true → is_visible (intervals_left plan insts intervals) a b ≡ true
unfolding intervals_left
visible_fewer plan insts intervals a b visible =
    let s = seen intervals a b visible in
    visible_by (filter (remains plan insts) intervals) a b s.0 (fewer_kept (remains plan insts) intervals a b s.1)

through : (x y z : Bool) → (not x || y) ≡ true → (not y || z) ≡ true → (not x || z) ≡ true
through true true z first second = second
through true false z first second = cc
through false y z first second = refl

kept_through : (intervals : List Interval) (a b c : ℕ) → keeps intervals a b ≡ true → keeps intervals b c ≡ true → keeps intervals a c ≡ true
kept_through [] a b c first second = refl
kept_through (i ∷ intervals) a b c first second =
    let one = and_parts (not (has_place a i) || has_place b i) (keeps intervals a b) first in
    let two = and_parts (not (has_place b i) || has_place c i) (keeps intervals b c) second in
    and_from (not (has_place a i) || has_place c i) (keeps intervals a c) (through (has_place a i) (has_place b i) (has_place c i) one.0 two.0) (kept_through intervals a b c one.1 two.1)

-- what is visible where something is defined is visible where that is
pub visible_through : (intervals : List Interval) (a b c : ℕ) → is_visible intervals a b ≡ true → is_visible intervals b c ≡ true → is_visible intervals a c ≡ true
visible_through intervals a b c first second =
    let one = seen intervals a b first in
    let two = seen intervals b c second in
    let low = one.0 in
    let high = two.0 in
    visible_by intervals a c (omega (arith, low, high)) (kept_through intervals a b c one.1 two.1)

-- ---- names

-- what stands for an id that is defined at a place
pub record Stands (g : Planned) (id own : ℕ) : Type 0 where
  pub at : ℕ
  pub defined : definition g.words.insts (g.plan.name id) ≡ Some at
  pub most : at ≤ own
  pub no_phi : g.plan.fate at ≡ Resolves → ⊥
  pub alive : is_dead (g.plan.fate at) ≡ false
  pub seen : (is_constant_fate (g.plan.fate at) ≡ true) ⊎ ((at ≡ own) ⊎ (is_visible (intervals_left g.plan g.words.insts (intervals_of g.valid.derivation)) at own ≡ true))

some_same : (a b : ℕ) → ◌≡◌ {A = Option ℕ} (Some a) (Some b) → a ≡ b
some_same a b is = cc

abbrev resolves : Fate → Bool
resolves Resolves = true
resolves fate = false

resolves_is : (fate : Fate) → resolves fate ≡ true → fate ≡ Resolves
resolves_is Resolves is = refl
resolves_is Dead is = cc
resolves_is Stays is = cc
resolves_is (Goes label) is = cc
resolves_is (Picks label) is = cc
resolves_is (Folds scalar) is = cc
resolves_is Nulls is = cc
resolves_is Skips is = cc
resolves_is Unused is = cc

clash : {Q : Type 0} (b : Bool) → b ≡ true → b ≡ false → Q
clash true is isnt = cc
clash false is isnt = cc

defined_seen : (intervals : List Interval) (place at : ℕ) (found : Option ℕ) → found ≡ Some at → is_defined_for intervals place found ≡ true → is_visible intervals at place ≡ true
defined_seen intervals place at found is visible = ap (is_defined_for intervals place) (sym is) ∙ visible

either : (a b : Bool) → (a || b) ≡ true → (a ≡ true) ⊎ (b ≡ true)
either true b is = inl refl
either false b is = inr is

-- a phi that goes, by what stands for the value of its pair
stands_resolved : (g : Planned) (id own : ℕ) → definition g.words.insts id ≡ Some own → (rule : IsResolved g.plan g.words.insts (intervals_of g.valid.derivation) own) → Stands g rule.pair.value rule.origin → Stands g id own
stands_resolved g id own defined rule s =
    let insts = g.words.insts in
    let mine : word_at 1 (inst_at insts own) ≡ id = some_same (word_at 1 (inst_at insts own)) id (sym (phi_result (inst_at insts own) rule.is_phi) ∙ result_at insts id own defined) in
    let named : g.plan.name id ≡ g.plan.name rule.pair.value = ap g.plan.name (sym mine) ∙ rule.stands in
    let same : rule.at ≡ s.at = some_same rule.at s.at (sym rule.defined ∙ s.defined) in
    let most = s.most in
    let earlier = rule.earlier in
    record {
      at = s.at;
      defined = ap (definition insts) named ∙ s.defined;
      most = omega (arith, most, earlier);
      no_phi = s.no_phi;
      alive = s.alive;
      seen = elim (either (is_constant_fate (g.plan.fate rule.at)) (is_visible (intervals_left g.plan insts (intervals_of g.valid.derivation)) rule.at own) rule.visible) [
        | inl constant ↦ inl (ap (λ (n : ℕ). is_constant_fate (g.plan.fate n)) (sym same) ∙ constant)
        | inr visible ↦ inr (inr (ap (λ (n : ℕ). is_visible (intervals_left g.plan insts (intervals_of g.valid.derivation)) n own) (sym same) ∙ visible))
      ];
    }

stands_by : (g : Planned) (n id own : ℕ) → own < n → definition g.words.insts id ≡ Some own → is_dead (g.plan.fate own) ≡ false → Stands g id own
stands_by g zero id own less defined alive = absurd (omega (arith, less))
stands_by g (suc n) id own less defined alive = by_test (resolves (g.plan.fate own)) refl (λ other at earlier given lives. stands_by g n other at earlier given lives)
  where
    by_test : (b : Bool) → resolves (g.plan.fate own) ≡ b → ((other at : ℕ) → at < n → definition g.words.insts other ≡ Some at → is_dead (g.plan.fate at) ≡ false → Stands g other at) → Stands g id own
    by_test false isnt more =
        let no_phi : g.plan.fate own ≡ Resolves → ⊥ = λ is. clash (resolves (g.plan.fate own)) (ap resolves is) isnt in
        let named = own_name g.words g.valid g.zeros g.plan g.is own id defined no_phi in
        record { at = own; defined = ap (definition g.words.insts) named ∙ defined; most = omega arith; no_phi = no_phi; alive = alive; seen = inr (inl refl) }
    by_test true is more =
        let insts = g.words.insts in
        let fate_is = resolves_is (g.plan.fate own) is in
        let i = inside g own Resolves fate_is refl in
        let rule = fits_there g own Resolves fate_is i in
        let f = in_filtered (λ (pair : Incoming). is_among pair.block (predecessors_left g.plan insts (block_at insts own))) (incoming (inst_at insts own)) rule.pair [] rule.only in
        let p = pair_left g own rule.pair (function_within insts g.valid.derivation own i.high) (eq-eqb (inst_at insts own).op op.PHI rule.is_phi) f.0 f.1 in
        let visible = defined_seen (intervals_of g.valid.derivation) p.end rule.origin (definition insts rule.pair.value) rule.given p.seen in
        let earlier = rule.earlier in
        stands_resolved g id own defined rule (more rule.pair.value rule.origin (omega (arith, earlier, less)) rule.given (seen_alive g rule.origin p.end visible p.alive))

-- an id that is defined where it isn't dead
pub stands : (g : Planned) (id own : ℕ) → definition g.words.insts id ≡ Some own → is_dead (g.plan.fate own) ≡ false → Stands g id own
stands g id own defined alive = stands_by g (suc own) id own (omega arith) defined alive
