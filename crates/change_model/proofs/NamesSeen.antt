-- What is used is visible in the list that a plan makes: at the place where the user comes to stand, under the name that the id then has.
use Rattle.std.proofs.Common.{◌≡◌, ℕ, ◌+◌, ◌<◌, ◌≤◌, ◌⊎◌, inl, inr, Bool, true, false, List, [], ◌∷◌, length, refl, ap, sym, ◌∙◌, arith, Option, None, Some}
use Rattle.std.proofs.lemmas.Bool.{cases_lt}
use Rattle.spirv_model.specs.declared.module.Inst.{Inst}
use Rattle.spirv_model.specs.declared.op.TheConstants as op
use Rattle.spirv_model.specs.Operands.{entry_of, result}
use Rattle.valid_model.specs.Definitions.{definition, inst_at}
use Rattle.check_model.specs.Intervals.{Interval, inside, intervals_of, is_visible}
use Rattle.check_model.specs.Visibility.{is_defined_for}
use Rattle.typed_model.proofs.Keeping.{lie_around, kept_outside}
use Rattle.typed_model.proofs.TypedSteps.{visible_by}
use Rattle.typed_model.proofs.ValidTypes.{defined_within}
use Rattle.typed_model.proofs.VisibleJumps.{lies}
use Rattle.change_model.specs.declared.fate.Fate.{Fate}
use Rattle.change_model.specs.declared.fate.Fate.TheVariants.{Dead, Stays, Goes, Picks, Folds, Nulls, Resolves, Skips, Unused}
use Rattle.change_model.specs.Folding.{function_at}
use Rattle.change_model.specs.Plans.{Plan, is_dead, written_at, changed}
use Rattle.change_model.specs.PlanRules.{intervals_left, is_constant_fate, MaySkip, selection, loop}
use Rattle.change_model.proofs.ChangedDefinitions.{is_left, constant_comes, written_comes, level_defined, written_defined, constant_defined}
use Rattle.change_model.proofs.ChangedPlaces.{new_constants, place_left, place_behind, constant_left, constant_before}
use Rattle.change_model.proofs.LeftFunction.{plan_derives}
use Rattle.change_model.proofs.LeftIntervals.{visible_moved}
use Rattle.change_model.proofs.LeftWritten.{dead_at}
use Rattle.change_model.proofs.MovedUp.{function_is}
use Rattle.change_model.proofs.NamesStand.{Stands, stands, visible_fewer, visible_through}
use Rattle.change_model.proofs.Planned.{Planned, inside as inside_function, fits_there}
use Rattle.change_model.proofs.PlanRuns.{is_unused_at, is_unused_fate}
use Rattle.change_model.proofs.PlanRunsValues.{result_at}
use Rattle.change_model.proofs.SeenAlive.{seen_alive}

clash : {Q : Type 0} (b : Bool) → b ≡ true → b ≡ false → Q
clash true is isnt = cc
clash false is isnt = cc

-- ---- what is left

merge_words : (words : List ℕ) → (result (record { op = op.SELECTION_MERGE; words = words }) ≡ None) × (result (record { op = op.LOOP_MERGE; words = words }) ≡ None)
unfolding result entry_of
merge_words words = (refl, refl)

none_some : {Q : Type 0} (found : Option ℕ) (id : ℕ) → found ≡ None → found ≡ Some id → Q
none_some found id none some = cc

-- a merge instruction has no result
no_skipped : {Q : Type 0} (plan : Plan) (insts : List Inst) (place id : ℕ) → MaySkip plan insts place → result (inst_at insts place) ≡ Some id → Q
no_skipped plan insts place id (selection op_is goes) is =
    none_some (result (inst_at insts place)) id (ap (λ (o : ℕ). result (record { op = o; words = (inst_at insts place).words })) op_is ∙ (merge_words (inst_at insts place).words).0) is
no_skipped plan insts place id (loop op_is goes) is =
    none_some (result (inst_at insts place)) id (ap (λ (o : ℕ). result (record { op = o; words = (inst_at insts place).words })) op_is ∙ (merge_words (inst_at insts place).words).1) is

-- something is left of what stands for an id that is used
stands_left : (g : Planned) (id own : ℕ) (s : Stands g id own) → is_unused_at g.plan (definition g.words.insts (g.plan.name id)) ≡ false → is_left (g.plan.fate s.at) ≡ true
stands_left g id own s used = by_fate (g.plan.fate s.at) refl
  where
    used_fate : is_unused_fate (g.plan.fate s.at) ≡ false
    used_fate = ap (is_unused_at g.plan) (sym s.defined) ∙ used

    by_fate : (fate : Fate) → g.plan.fate s.at ≡ fate → is_left fate ≡ true
    by_fate Stays same = refl
    by_fate (Goes label) same = refl
    by_fate (Picks label) same = refl
    by_fate (Folds scalar) same = refl
    by_fate Nulls same = refl
    by_fate Dead same = clash (is_dead (g.plan.fate s.at)) (ap is_dead same) s.alive
    by_fate Resolves same = absurd (s.no_phi same)
    by_fate Skips same =
        no_skipped g.plan g.words.insts s.at (g.plan.name id) (fits_there g s.at Skips same (inside_function g s.at Skips same refl)) (result_at g.words.insts (g.plan.name id) s.at s.defined)
    by_fate Unused same = clash (is_unused_fate (g.plan.fate s.at)) (ap is_unused_fate same) used_fate

-- ---- where it is visible

module _ (g : Planned) where
  abbrev insts : List Inst
  insts = g.words.insts

  abbrev plan : Plan
  plan = g.plan

  abbrev left : List Interval
  left = intervals_left g.plan g.words.insts (intervals_of g.valid.derivation)

  abbrev pub new_intervals : List Interval
  new_intervals = intervals_of (plan_derives g.words g.valid g.zeros g.plan g.is).derivation

  -- what stands before the function's blocks is visible behind it
  pub front_visible : (a b : ℕ) → a < (plan_derives g.words g.valid g.zeros g.plan g.is).derivation.before + 1 → a < b → is_visible new_intervals a b ≡ true
  front_visible a b early less =
      let e = (plan_derives g.words g.valid g.zeros g.plan g.is).derivation in
      visible_by new_intervals a b less
      (kept_outside (e.before + 1) e.after (intervals_of e) (lie_around (e.before + 1) e.after (inside e.sequence) (lies (changed g.plan g.words.insts) e.sequence)) a b (inl early))

  -- OpFunction comes to stand behind the level and the new constants
  pub new_before : function_at insts + length (new_constants plan insts) ≤ (plan_derives g.words g.valid g.zeros g.plan g.is).derivation.before
  new_before =
      let b = (plan_derives g.words g.valid g.zeros g.plan g.is).before in
      let f = function_is insts g.valid.derivation in
      let p = place_behind plan insts g.valid.derivation.before (omega (arith, f)) in
      omega (arith, b, p)

  behind_constants : (b : ℕ) → function_at insts ≤ b → function_at insts + length (new_constants plan insts) ≤ place_left plan insts b
  behind_constants b low = let p = place_behind plan insts b low in omega (arith, p)

  -- where something is visible that stands at a place
  seen_at : (id at b : ℕ) (y : Inst) → definition insts id ≡ Some at → is_left (plan.fate at) ≡ true → function_at insts ≤ b → written_at plan insts b ≡ y ∷ []
      → (is_constant_fate (plan.fate at) ≡ true) ⊎ (is_visible left at b ≡ true) → is_defined_for new_intervals (place_left plan insts b) (definition (changed plan insts) id) ≡ true
  seen_at id at b y defined is low written visible = elim (cases_lt at (function_at insts)) [
    | inl early ↦ by_level early
    | inr late ↦ by_kind late (is_constant_fate (plan.fate at)) refl visible
  ]
    where
      far : function_at insts + length (new_constants plan insts) ≤ (plan_derives g.words g.valid g.zeros g.plan g.is).derivation.before
      far = new_before

      past : function_at insts + length (new_constants plan insts) ≤ place_left plan insts b
      past = behind_constants b low

      by_level : at < function_at insts → is_defined_for new_intervals (place_left plan insts b) (definition (changed plan insts) id) ≡ true
      by_level early =
          ap (is_defined_for new_intervals (place_left plan insts b)) (level_defined g id at defined early)
          ∙ front_visible at (place_left plan insts b) (omega (arith, early, far)) (omega (arith, early, past))

      by_constant : function_at insts ≤ at → is_constant_fate (plan.fate at) ≡ true → is_defined_for new_intervals (place_left plan insts b) (definition (changed plan insts) id) ≡ true
      by_constant late constant =
          let c = constant_comes plan insts at constant in
          let before = constant_before plan insts at c.0 late (defined_within insts id at defined) c.1 in
          ap (is_defined_for new_intervals (place_left plan insts b)) (constant_defined g id at c.0 defined c.1)
          ∙ front_visible (constant_left plan insts at) (place_left plan insts b) (omega (arith, before, far)) (omega (arith, before, past))

      by_written : function_at insts ≤ at → is_constant_fate (plan.fate at) ≡ false → is_visible left at b ≡ true → is_defined_for new_intervals (place_left plan insts b) (definition (changed plan insts) id) ≡ true
      by_written late isnt there =
          let w = written_comes plan insts at is isnt in
          ap (is_defined_for new_intervals (place_left plan insts b)) (written_defined g id at w.0 defined w.1)
          ∙ ap (λ (l : List Interval). is_visible l (place_left plan insts at) (place_left plan insts b)) (plan_derives g.words g.valid g.zeros g.plan g.is).intervals
          ∙ visible_moved plan insts left at b w.0 y late low w.1 written there

      by_kind : function_at insts ≤ at → (c : Bool) → is_constant_fate (plan.fate at) ≡ c → (is_constant_fate (plan.fate at) ≡ true) ⊎ (is_visible left at b ≡ true)
          → is_defined_for new_intervals (place_left plan insts b) (definition (changed plan insts) id) ≡ true
      by_kind late true constant visible = by_constant late constant
      by_kind late false isnt (inl constant) = clash (is_constant_fate (plan.fate at)) constant isnt
      by_kind late false isnt (inr there) = by_written late isnt there

  -- an id that an instruction that is written uses in the old list
  pub name_seen : (id b : ℕ) (y : Inst) → function_at insts ≤ b → written_at plan insts b ≡ y ∷ [] → is_defined_for (intervals_of g.valid.derivation) b (definition insts id) ≡ true
      → is_unused_at plan (definition insts (plan.name id)) ≡ false → is_defined_for new_intervals (place_left plan insts b) (definition (changed plan insts) (plan.name id)) ≡ true
  name_seen id b y low written seen used = by_found (definition insts id) refl seen
    where
      something : {Q : Type 0} → ◌≡◌ {A = List Inst} [] (y ∷ []) → Q
      something is = cc

      by_life : (x : Bool) → is_dead (plan.fate b) ≡ x → x ≡ false
      by_life false is = refl
      by_life true dead = something (sym (dead_at plan insts b dead) ∙ written)

      by_found : (found : Option ℕ) → definition insts id ≡ found → is_defined_for (intervals_of g.valid.derivation) b found ≡ true
          → is_defined_for new_intervals (place_left plan insts b) (definition (changed plan insts) (plan.name id)) ≡ true
      by_found None defined visible = cc
      by_found (Some own) defined visible =
          let alive = seen_alive g own b visible (by_life (is_dead (plan.fate b)) refl) in
          let s = stands g id own defined alive in
          let fewer = visible_fewer plan insts (intervals_of g.valid.derivation) own b visible in
          seen_at (plan.name id) s.at b y s.defined (stands_left g id own s used) low written
          (elim s.seen [
            | inl constant ↦ inl constant
            | inr other ↦ elim other [
              | inl same ↦ inr (ap (λ (n : ℕ). is_visible left n b) same ∙ fewer)
              | inr there ↦ inr (visible_through left s.at own b there fewer)
            ]
          ])
