-- Where an arm isn't left from within in the module, it isn't in the list that the plan makes.
use Rattle.std.specs.List.{list_any, range_with_len}
use Rattle.std.proofs.Common.{◌≡◌, ℕ, suc, ◌-◌, Bool, true, false, ◌==◌, ◌&&◌, ◌||◌, if◌then◌else◌, List, [], ◌∷◌, length, filter, drop, slice_index, refl, ap, sym, ◌∙◌, arith, Option, Some}
use Rattle.std.proofs.lemmas.Bool.{eqb-true}
use Rattle.spirv_model.specs.declared.module.Inst.{Inst}
use Rattle.spirv_model.specs.Operands.{word_at, words_from}
use Rattle.scalar_model.specs.declared.scalar_value.Scalar.{Scalar}
use Rattle.scalar_model.specs.declared.scalar_value.Scalar.TheVariants as scalar
use Rattle.body_model.specs.Switches.{is_among}
use Rattle.body_model.specs.Targets.{targets}
use Rattle.valid_model.specs.Definitions.{inst_at}
use Rattle.check_model.specs.Intervals.{Interval, intervals_of}
use Rattle.stage_model.specs.Effect.{target_for}
use Rattle.unit_model.specs.ConstantScalars.{begins_at, is_nested, is_left_to, is_left_from_within}
use Rattle.change_model.specs.Plans.{leads_from}
use Rattle.change_model.specs.PlanRules.{remains, intervals_left, is_left_in, is_left_within, switched_target}
use Rattle.change_model.specs.Passes.{has_one_way}
use Rattle.change_model.proofs.FoundPlans.{Found}
use Rattle.change_model.proofs.FoundGoes.{still_leads}

-- ---- tests on lists

any_more : {X : Type 0} (first second : X → Bool) → ((x : X) → first x ≡ true → second x ≡ true) → (xs : List X) → list_any first xs ≡ true → list_any second xs ≡ true
any_more first second more [] some = cc
any_more first second more (x ∷ xs) some = by_first (first x) refl (λ later. any_more first second more xs later) some
  where
    or_second : (a b : Bool) → b ≡ true → (a || b) ≡ true
    or_second true b is = refl
    or_second false b is = is

    by_first : (b : Bool) → first x ≡ b → (list_any first xs ≡ true → list_any second xs ≡ true) → (b || list_any first xs) ≡ true → (second x || list_any second xs) ≡ true
    by_first true is others some = ap (λ (b : Bool). b || list_any second xs) (more x is)
    by_first false is others some = or_second (second x) (list_any second xs) (others some)

any_kept : {X : Type 0} (test keep : X → Bool) (xs : List X) → list_any test (filter keep xs) ≡ true → list_any test xs ≡ true
any_kept test keep [] some = cc
any_kept test keep (x ∷ xs) some = by_keep (keep x) some (any_kept test keep xs)
  where
    or_second : (a b : Bool) → b ≡ true → (a || b) ≡ true
    or_second true b is = refl
    or_second false b is = is

    by_own : (a b : Bool) → (b ≡ true → list_any test xs ≡ true) → (a || b) ≡ true → (a || list_any test xs) ≡ true
    by_own true b more some = refl
    by_own false b more some = more some

    by_keep : (b : Bool) → list_any test (if b then x ∷ filter keep xs else filter keep xs) ≡ true → (list_any test (filter keep xs) ≡ true → list_any test xs ≡ true) → (test x || list_any test xs) ≡ true
    by_keep true some more = by_own (test x) (list_any test (filter keep xs)) more some
    by_keep false some more = or_second (test x) (list_any test xs) (more some)

and_more : (a b c : Bool) → (b ≡ true → c ≡ true) → (a && b) ≡ true → (a && c) ≡ true
and_more true b c more is = more is
and_more false b c more is = cc

refuted_by : (a b : Bool) → (a ≡ true → b ≡ true) → b ≡ false → a ≡ false
refuted_by true b more isnt = sym (more refl) ∙ isnt
refuted_by false b more isnt = refl

-- ---- an arm

module _ (f : Found) where
  left_in : (label : ℕ) (i : Interval) → is_left_in f.plan f.words.insts label i ≡ true → is_left_to f.words.insts label i ≡ true
  left_in label i some = any_more (leads_from f.plan f.words.insts label) (λ (place : ℕ). is_among label (targets (inst_at f.words.insts place))) (λ place leads. still_leads f place label leads) (range_with_len i.from (i.to - i.from)) some

  left_within : (intervals : List Interval) (arm label : ℕ) → is_left_within f.plan f.words.insts intervals arm label ≡ true → is_left_from_within intervals f.words.insts arm label ≡ true
  unfolding intervals_left
  left_within intervals arm label some =
      any_more (λ (outer : Interval). begins_at f.words.insts arm outer && list_any (λ (inner : Interval). is_nested outer inner && is_left_in f.plan f.words.insts label inner) (intervals_left f.plan f.words.insts intervals))
      (λ (outer : Interval). begins_at f.words.insts arm outer && list_any (λ (inner : Interval). is_nested outer inner && is_left_to f.words.insts label inner) intervals)
      (λ outer is. and_more (begins_at f.words.insts arm outer) _ _ (λ inside.
      any_more (λ (inner : Interval). is_nested outer inner && is_left_in f.plan f.words.insts label inner) (λ (inner : Interval). is_nested outer inner && is_left_to f.words.insts label inner)
      (λ inner both. and_more (is_nested outer inner) (is_left_in f.plan f.words.insts label inner) (is_left_to f.words.insts label inner) (λ leads. left_in label inner leads) both) intervals
      (any_kept (λ (inner : Interval). is_nested outer inner && is_left_in f.plan f.words.insts label inner) (remains f.plan f.words.insts) intervals inside)) is) intervals some

  pub none_within : (arm label : ℕ) → is_left_from_within (intervals_of f.valid.derivation) f.words.insts arm label ≡ false → is_left_within f.plan f.words.insts (intervals_of f.valid.derivation) arm label ≡ false
  none_within arm label none =
      refuted_by (is_left_within f.plan f.words.insts (intervals_of f.valid.derivation) arm label) (is_left_from_within (intervals_of f.valid.derivation) f.words.insts arm label) (left_within (intervals_of f.valid.derivation) arm label) none

-- ---- the default of an OpSwitch without literals

default_of : (selector : ℕ) (words : List ℕ) → length words == 2 ≡ true → target_for selector (slice_index words 1) (drop 2 words) ≡ slice_index words 1
default_of selector [] two = cc
default_of selector (a ∷ []) two = cc
default_of selector (a ∷ b ∷ []) two = refl
default_of selector (a ∷ b ∷ c ∷ words) two = absurd (longer (length words) two)
  where
    longer : (n : ℕ) → suc (suc (suc n)) == 2 ≡ true → ⊥
    longer n two = let e = eqb-true (suc (suc (suc n))) 2 two in omega (arith, e)

pub one_way_default : (known : Option Scalar) (inst : Inst) (label : ℕ) → has_one_way inst ≡ true → switched_target known inst ≡ Some label → label ≡ word_at 1 inst
one_way_default (Some (scalar.Word selector)) inst label one is = same_label label (target_for selector (word_at 1 inst) (words_from 2 inst)) (sym is) ∙ default_of selector inst.words one
  where
    same_label : (a b : ℕ) → ◌≡◌ {A = Option ℕ} (Some a) (Some b) → a ≡ b
    same_label a b same = cc
one_way_default known inst label one is = cc
