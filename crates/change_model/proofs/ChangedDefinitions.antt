-- Which instruction defines an id in the list that a plan makes.
use Rattle.std.proofs.Common.{◌≡◌, ℕ, ◌<◌, ◌≤◌, inl, inr, Bool, true, false, if◌then◌else◌, List, [], ◌∷◌, length, slice_get, refl, ap, sym, ◌∙◌, subst, arith, le-ltb, Option, None, Some}
use Rattle.std.specs.Option.{unwrap_or, option_and_then}
use Rattle.std.proofs.lemmas.Bool.{cases_lt}
use Rattle.std.proofs.lemmas.Option.{get_or_from_slice_get, unwrap_or-slice_get}
use Rattle.spirv_model.specs.declared.module.Inst.{Inst}
use Rattle.spirv_model.specs.Operands.{word_at, result}
use Rattle.scalar_model.specs.declared.scalar_value.Scalar.{Scalar}
use Rattle.scalar_model.specs.declared.scalar_value.Scalar.TheVariants.{Bool as TruthOf, Word as WordOf}
use Rattle.valid_model.specs.Definitions.{inst_at, no_instruction, definition, is_earlier, twice_by, id_twice}
use Rattle.stage_model.specs.Start.{of_scalar}
use Rattle.typed_model.proofs.BlockParts.{clash}
use Rattle.typed_model.proofs.ModuleValues.{defined_at}
use Rattle.typed_model.proofs.SilentSteps.{given_id}
use Rattle.typed_model.proofs.TypedSteps.{gives_at}
use Rattle.typed_model.proofs.ValidTypes.{keeps_rules, defined_within}
use Rattle.change_model.specs.declared.fate.Fate.{Fate}
use Rattle.change_model.specs.declared.fate.Fate.TheVariants.{Dead, Stays, Goes, Picks, Folds, Nulls, Resolves, Skips, Unused}
use Rattle.change_model.specs.Folding.{function_at}
use Rattle.change_model.specs.Constants.{scalar_constant}
use Rattle.change_model.specs.Plans.{Plan, written_as, written_at, listed, constant_as, constant_at, changed}
use Rattle.change_model.specs.PlanRules.{is_constant_fate}
use Rattle.change_model.proofs.ChangedPlaces.{place_left, place_same, place_behind, rises, constant_left, constant_there, ConstantAt, constant_stood, function_within, kept_there, level_there, length_left, StoodAt, of_level, of_constant, of_function, stood_at}
use Rattle.change_model.proofs.MovedUp.{function_is}
use Rattle.change_model.proofs.Pieces.{got_within}
use Rattle.change_model.proofs.NewConstants.{constant_result, written_result}
use Rattle.change_model.proofs.Planned.{Planned, IsWritten, keeps, goes, picks, is_written, IsNewConstant, folds, nulls, is_new_constant}

-- ---- where what is left of an instruction stands

-- something is left of an instruction with this fate: it, a branch for it, or a constant
abbrev pub is_left : Fate → Bool
is_left Stays = true
is_left (Goes label) = true
is_left (Picks label) = true
is_left (Folds scalar) = true
is_left Nulls = true
is_left fate = false

unfoldable pub where_left : Plan → List Inst → ℕ → ℕ
where_left plan insts place = if is_constant_fate (plan.fate place) then constant_left plan insts place else place_left plan insts place

where_constant : (plan : Plan) (insts : List Inst) (place : ℕ) → is_constant_fate (plan.fate place) ≡ true → where_left plan insts place ≡ constant_left plan insts place
unfolding where_left
where_constant plan insts place is = ap (λ (b : Bool). if b then constant_left plan insts place else place_left plan insts place) is

where_written : (plan : Plan) (insts : List Inst) (place : ℕ) → is_constant_fate (plan.fate place) ≡ false → where_left plan insts place ≡ place_left plan insts place
unfolding where_left
where_written plan insts place is = ap (λ (b : Bool). if b then constant_left plan insts place else place_left plan insts place) is

pub same_there : (xs ys : List Inst) (a b : ℕ) → slice_get xs a ≡ slice_get ys b → inst_at xs a ≡ inst_at ys b
same_there xs ys a b is = sym (unwrap_or-slice_get xs a no_instruction) ∙ ap (λ (o : Option Inst). unwrap_or o no_instruction) is ∙ unwrap_or-slice_get ys b no_instruction

-- ---- of which instruction something stands at a place

pub record ComesFrom (plan : Plan) (insts : List Inst) (place : ℕ) : Type 0 where
  pub old : ℕ
  pub within : old < length insts
  pub there : where_left plan insts old ≡ place
  pub left : is_left (plan.fate old) ≡ true
  pub result_is : result (inst_at (changed plan insts) place) ≡ result (inst_at insts old)

written_fate : (g : Planned) (place : ℕ) (inst : Inst) → IsWritten g place inst → (is_left (g.plan.fate place) ≡ true) × (is_constant_fate (g.plan.fate place) ≡ false)
written_fate g place inst (keeps same is) = (ap is_left same, ap is_constant_fate same)
written_fate g place inst (goes label same may is) = (ap is_left same, ap is_constant_fate same)
written_fate g place inst (picks label same may is) = (ap is_left same, ap is_constant_fate same)

constant_fate : (g : Planned) (place : ℕ) (inst : Inst) → IsNewConstant g place inst → (is_left (g.plan.fate place) ≡ true) × (is_constant_fate (g.plan.fate place) ≡ true)
constant_fate g place inst (folds scalar same may is) = (ap is_left same, ap is_constant_fate same)
constant_fate g place inst (nulls same may is) = (ap is_left same, ap is_constant_fate same)

-- the module's level stays
pub level_stays : (g : Planned) (place : ℕ) → place < function_at g.words.insts → g.plan.fate place ≡ Stays
level_stays g place low = let e = function_is g.words.insts g.valid.derivation in g.is.outside place (inl (omega (arith, low, e)))

pub comes_from : (g : Planned) (place : ℕ) → place < length (changed g.plan g.words.insts) → ComesFrom g.plan g.words.insts place
comes_from g place within = by_stood (stood_at g.plan g.words.insts place (function_within g.words.insts) within)
  where
    plan : Plan
    plan = g.plan

    insts : List Inst
    insts = g.words.insts

    of_new : ConstantAt plan insts place → ComesFrom plan insts place
    of_new c =
        let n = is_new_constant g c.old c.inst c.is in
        let f = constant_fate g c.old c.inst n in
        record {
          old = c.old;
          within = c.high;
          there = where_constant plan insts c.old f.1 ∙ c.there;
          left = f.0;
          result_is = ap result (ap (inst_at (changed plan insts)) (sym c.there) ∙ get_or_from_slice_get (changed plan insts) (constant_left plan insts c.old) c.inst no_instruction (constant_there plan insts c.old c.inst c.low c.high c.is))
              ∙ constant_result g c.old c.inst n;
        }

    by_stood : StoodAt plan insts place → ComesFrom plan insts place
    by_stood (of_level low) =
        let stays = level_stays g place low in
        record {
          old = place;
          within = let most = function_within insts in omega (arith, low, most);
          there = where_written plan insts place (ap is_constant_fate stays) ∙ place_same plan insts place low;
          left = ap is_left stays;
          result_is = ap result (same_there (changed plan insts) insts place place (level_there plan insts place low));
        }
    by_stood (of_constant old inst low high is late early there) = of_new (constant_stood plan insts place late early)
    by_stood (of_function old inst low high is there at) =
        let w = is_written g old inst is in
        let f = written_fate g old inst w in
        record {
          old = old;
          within = high;
          there = where_written plan insts old f.1 ∙ there;
          left = f.0;
          result_is = ap result (get_or_from_slice_get (changed plan insts) place inst no_instruction at) ∙ written_result g old inst w;
        }

-- ---- ids are given once

some_same : (a b : ℕ) → ◌≡◌ {A = Option ℕ} (Some a) (Some b) → a ≡ b
some_same a b is = cc

pub old_defined : (g : Planned) (place id : ℕ) → place < length g.words.insts → result (inst_at g.words.insts place) ≡ Some id → definition g.words.insts id ≡ Some place
old_defined g place id within is = defined_at g.words.insts place id within is (keeps_rules g.words g.valid.sound place within).once

pub one_place : (g : Planned) (a b id : ℕ) → a < length (changed g.plan g.words.insts) → b < length (changed g.plan g.words.insts)
    → result (inst_at (changed g.plan g.words.insts) a) ≡ Some id → result (inst_at (changed g.plan g.words.insts) b) ≡ Some id → a ≡ b
one_place g a b id within also is so =
    let c = comes_from g a within in
    let e = comes_from g b also in
    sym c.there
    ∙ ap (where_left g.plan g.words.insts) (some_same c.old e.old (sym (old_defined g c.old id c.within (sym c.result_is ∙ is)) ∙ old_defined g e.old id e.within (sym e.result_is ∙ so)))
    ∙ e.there

pub once_changed : (g : Planned) (place : ℕ) → place < length (changed g.plan g.words.insts) → id_twice (changed g.plan g.words.insts) place ≡ None
unfolding id_twice
once_changed g place within = by_given (result (inst_at new place)) refl
  where
    new : List Inst
    new = changed g.plan g.words.insts

    by_found : (id : ℕ) → result (inst_at new place) ≡ Some id → (found : Option ℕ) → definition new id ≡ found → (if is_earlier found place then Some id else None) ≡ None
    by_found id is None at = refl
    by_found id is (Some q) at =
        let e = one_place g q place id (defined_within new id q at) within (given_id id (result (inst_at new q)) (gives_at new id q at)) is in
        ap (λ (b : Bool). if b then Some id else None) (le-ltb q place (omega (arith, e)))

    by_given : (given : Option ℕ) → result (inst_at new place) ≡ given → twice_by new place given ≡ None
    by_given None is = refl
    by_given (Some id) is = by_found id is (definition new id) refl

-- ---- definitions

abbrev pub place_if : Bool → ℕ → Option ℕ
place_if true place = Some place
place_if false place = None

-- where an id is defined that was defined at this place, if at all
unfoldable pub definition_left : Plan → List Inst → Option ℕ → Option ℕ
definition_left plan insts found = option_and_then (λ (place : ℕ). place_if (is_left (plan.fate place)) (where_left plan insts place)) found

-- what stands where something is left of an instruction
pub record IsLeftAt (plan : Plan) (insts : List Inst) (old : ℕ) : Type 0 where
  pub within : where_left plan insts old < length (changed plan insts)
  pub result_is : result (inst_at (changed plan insts) (where_left plan insts old)) ≡ result (inst_at insts old)

-- what is written for a place of the function stands at the place that is left
pub written_there : (g : Planned) (old : ℕ) (inst : Inst) → function_at g.words.insts ≤ old → old < length g.words.insts → written_at g.plan g.words.insts old ≡ inst ∷ []
    → inst_at (changed g.plan g.words.insts) (place_left g.plan g.words.insts old) ≡ inst
written_there g old inst low high is =
    get_or_from_slice_get (changed g.plan g.words.insts) (place_left g.plan g.words.insts old) inst no_instruction (kept_there g.plan g.words.insts old inst low high is)

left_written : (g : Planned) (old : ℕ) (inst : Inst) → function_at g.words.insts ≤ old → old < length g.words.insts → written_at g.plan g.words.insts old ≡ inst ∷ [] → IsLeftAt g.plan g.words.insts old
left_written g old inst low high is =
    let w = is_written g old inst is in
    let e = where_written g.plan g.words.insts old (written_fate g old inst w).1 in
    record {
      within = subst (λ (n : ℕ). n < length (changed g.plan g.words.insts)) (sym e) (got_within (changed g.plan g.words.insts) (place_left g.plan g.words.insts old) inst (kept_there g.plan g.words.insts old inst low high is));
      result_is = ap (λ (n : ℕ). result (inst_at (changed g.plan g.words.insts) n)) e ∙ ap result (written_there g old inst low high is) ∙ written_result g old inst w;
    }

-- the constant for a place of the function stands at its place
pub new_constant_there : (g : Planned) (old : ℕ) (inst : Inst) → function_at g.words.insts ≤ old → old < length g.words.insts → constant_at g.plan g.words.insts old ≡ inst ∷ []
    → inst_at (changed g.plan g.words.insts) (constant_left g.plan g.words.insts old) ≡ inst
new_constant_there g old inst low high is =
    get_or_from_slice_get (changed g.plan g.words.insts) (constant_left g.plan g.words.insts old) inst no_instruction (constant_there g.plan g.words.insts old inst low high is)

left_constant : (g : Planned) (old : ℕ) (inst : Inst) → function_at g.words.insts ≤ old → old < length g.words.insts → constant_at g.plan g.words.insts old ≡ inst ∷ [] → IsLeftAt g.plan g.words.insts old
left_constant g old inst low high is =
    let c = is_new_constant g old inst is in
    let e = where_constant g.plan g.words.insts old (constant_fate g old inst c).1 in
    record {
      within = subst (λ (n : ℕ). n < length (changed g.plan g.words.insts)) (sym e)
          (got_within (changed g.plan g.words.insts) (constant_left g.plan g.words.insts old) inst (constant_there g.plan g.words.insts old inst low high is));
      result_is = ap (λ (n : ℕ). result (inst_at (changed g.plan g.words.insts) n)) e ∙ ap result (new_constant_there g old inst low high is) ∙ constant_result g old inst c;
    }

left_level : (g : Planned) (old : ℕ) → old < function_at g.words.insts → IsLeftAt g.plan g.words.insts old
left_level g old low =
    let e = where_written g.plan g.words.insts old (ap is_constant_fate (level_stays g old low)) ∙ place_same g.plan g.words.insts old low in
    let long = length_left g.plan g.words.insts (function_within g.words.insts) in
    let rises_too = rises g.plan g.words.insts (function_at g.words.insts) (length g.words.insts) (function_within g.words.insts) in
    let first = place_behind g.plan g.words.insts (function_at g.words.insts) (omega arith) in
    record {
      within = omega (arith, e, long, rises_too, first, low);
      result_is = ap (λ (n : ℕ). result (inst_at (changed g.plan g.words.insts) n)) e ∙ ap result (same_there (changed g.plan g.words.insts) g.words.insts old old (level_there g.plan g.words.insts old low));
    }

-- the constant of a scalar
pub scalar_listed : (type own : ℕ) (scalar : Scalar) → (inst : Inst) × (scalar_constant type own (Some (of_scalar scalar)) ≡ Some inst)
scalar_listed type own (TruthOf true) = (_, refl)
scalar_listed type own (TruthOf false) = (_, refl)
scalar_listed type own (WordOf word) = (_, refl)

-- one constant comes for an instruction with this fate
pub constant_comes : (plan : Plan) (insts : List Inst) (old : ℕ) → is_constant_fate (plan.fate old) ≡ true → (inst : Inst) × (constant_at plan insts old ≡ inst ∷ [])
unfolding constant_at
constant_comes plan insts old is = by_fate (plan.fate old) refl is
  where
    by_fate : (fate : Fate) → plan.fate old ≡ fate → is_constant_fate fate ≡ true → (inst : Inst) × (constant_as (inst_at insts old) (plan.fate old) ≡ inst ∷ [])
    by_fate (Folds scalar) same is =
        let l = scalar_listed (word_at 0 (inst_at insts old)) (word_at 1 (inst_at insts old)) scalar in
        (l.0, ap (constant_as (inst_at insts old)) same ∙ ap listed l.1)
    by_fate Nulls same is = (_, ap (constant_as (inst_at insts old)) same)
    by_fate Dead same is = cc
    by_fate Stays same is = cc
    by_fate (Goes label) same is = cc
    by_fate (Picks label) same is = cc
    by_fate Resolves same is = cc
    by_fate Skips same is = cc
    by_fate Unused same is = cc

-- one instruction is written for one with another fate by which something is left
pub written_comes : (plan : Plan) (insts : List Inst) (old : ℕ) → is_left (plan.fate old) ≡ true → is_constant_fate (plan.fate old) ≡ false → (inst : Inst) × (written_at plan insts old ≡ inst ∷ [])
unfolding written_at
written_comes plan insts old is isnt = by_fate (plan.fate old) refl is isnt
  where
    by_fate : (fate : Fate) → plan.fate old ≡ fate → is_left fate ≡ true → is_constant_fate fate ≡ false → (inst : Inst) × (written_as plan insts old (inst_at insts old) (plan.fate old) ≡ inst ∷ [])
    by_fate Stays same is isnt = (_, ap (written_as plan insts old (inst_at insts old)) same)
    by_fate (Goes label) same is isnt = (_, ap (written_as plan insts old (inst_at insts old)) same)
    by_fate (Picks label) same is isnt = (_, ap (written_as plan insts old (inst_at insts old)) same)
    by_fate (Folds scalar) same is isnt = cc
    by_fate Nulls same is isnt = cc
    by_fate Dead same is isnt = cc
    by_fate Resolves same is isnt = cc
    by_fate Skips same is isnt = cc
    by_fate Unused same is isnt = cc

pub left_at : (g : Planned) (old : ℕ) → old < length g.words.insts → is_left (g.plan.fate old) ≡ true → IsLeftAt g.plan g.words.insts old
left_at g old within is = elim (cases_lt old (function_at g.words.insts)) [ inl low ↦ left_level g old low | inr late ↦ by_kind late (is_constant_fate (g.plan.fate old)) refl ]
  where
    by_kind : function_at g.words.insts ≤ old → (b : Bool) → is_constant_fate (g.plan.fate old) ≡ b → IsLeftAt g.plan g.words.insts old
    by_kind late true constant = let c = constant_comes g.plan g.words.insts old constant in left_constant g old c.0 late within c.1
    by_kind late false isnt = let w = written_comes g.plan g.words.insts old is isnt in left_written g old w.0 late within w.1

-- an id is defined by what is left of the instruction that defined it, or not at all
pub definition_changed : (g : Planned) (id : ℕ) → definition (changed g.plan g.words.insts) id ≡ definition_left g.plan g.words.insts (definition g.words.insts id)
unfolding definition_left
definition_changed g id = by_old (definition insts id) refl
  where
    plan : Plan
    plan = g.plan

    insts : List Inst
    insts = g.words.insts

    new : List Inst
    new = changed plan insts

    -- the instruction that defined it
    came : (q : ℕ) → definition new id ≡ Some q → (old : ℕ) × (definition insts id ≡ Some old) × (is_left (plan.fate old) ≡ true)
    came q at =
        let c = comes_from g q (defined_within new id q at) in
        (c.old, old_defined g c.old id c.within (sym c.result_is ∙ given_id id (result (inst_at new q)) (gives_at new id q at)), c.left)

    none : (found : Option ℕ) → definition new id ≡ found → ((old : ℕ) → definition insts id ≡ Some old → is_left (plan.fate old) ≡ true → ⊥) → found ≡ None
    none None at never = refl
    none (Some q) at never = let c = came q at in absurd (never c.0 c.1 c.2)

    by_left : (k : ℕ) → definition insts id ≡ Some k → (b : Bool) → is_left (plan.fate k) ≡ b → definition new id ≡ place_if b (where_left plan insts k)
    by_left k at true is =
        let l = left_at g k (defined_within insts id k at) is in
        defined_at new (where_left plan insts k) id l.within (l.result_is ∙ given_id id (result (inst_at insts k)) (gives_at insts id k at)) (once_changed g (where_left plan insts k) l.within)
    by_left k at false isnt =
        none (definition new id) refl (λ old so left. clash (is_left (plan.fate old)) left (ap (λ (n : ℕ). is_left (plan.fate n)) (some_same old k (sym so ∙ at)) ∙ isnt))

    by_old : (found : Option ℕ) → definition insts id ≡ found → definition new id ≡ option_and_then (λ (place : ℕ). place_if (is_left (plan.fate place)) (where_left plan insts place)) found
    by_old None at = none (definition new id) refl (λ old so left. never old (sym at ∙ so))
      where
        never : (old : ℕ) → ◌≡◌ {A = Option ℕ} None (Some old) → ⊥
        never old is = cc
    by_old (Some k) at = by_left k at (is_left (plan.fate k)) refl

-- ---- case by case

defined_as : (g : Planned) (id old : ℕ) (b : Bool) → definition g.words.insts id ≡ Some old → is_left (g.plan.fate old) ≡ b → definition (changed g.plan g.words.insts) id ≡ place_if b (where_left g.plan g.words.insts old)
unfolding definition_left
defined_as g id old b at is = definition_changed g id ∙ ap (definition_left g.plan g.words.insts) at ∙ ap (λ (b : Bool). place_if b (where_left g.plan g.words.insts old)) is

-- at the module's level
pub level_defined : (g : Planned) (id old : ℕ) → definition g.words.insts id ≡ Some old → old < function_at g.words.insts → definition (changed g.plan g.words.insts) id ≡ Some old
level_defined g id old at low =
    defined_as g id old true at (ap is_left (level_stays g old low))
    ∙ ap (λ (n : ℕ). Some n) (where_written g.plan g.words.insts old (ap is_constant_fate (level_stays g old low)) ∙ place_same g.plan g.words.insts old low)

-- by what is written
pub written_defined : (g : Planned) (id old : ℕ) (inst : Inst) → definition g.words.insts id ≡ Some old → written_at g.plan g.words.insts old ≡ inst ∷ [] → definition (changed g.plan g.words.insts) id ≡ Some (place_left g.plan g.words.insts old)
written_defined g id old inst at is =
    let f = written_fate g old inst (is_written g old inst is) in
    defined_as g id old true at f.0 ∙ ap (λ (n : ℕ). Some n) (where_written g.plan g.words.insts old f.1)

-- by a new constant
pub constant_defined : (g : Planned) (id old : ℕ) (inst : Inst) → definition g.words.insts id ≡ Some old → constant_at g.plan g.words.insts old ≡ inst ∷ [] → definition (changed g.plan g.words.insts) id ≡ Some (constant_left g.plan g.words.insts old)
constant_defined g id old inst at is =
    let f = constant_fate g old inst (is_new_constant g old inst is) in
    defined_as g id old true at f.0 ∙ ap (λ (n : ℕ). Some n) (where_constant g.plan g.words.insts old f.1)

-- no longer
pub gone_defined : (g : Planned) (id old : ℕ) → definition g.words.insts id ≡ Some old → is_left (g.plan.fate old) ≡ false → definition (changed g.plan g.words.insts) id ≡ None
gone_defined g id old at isnt = defined_as g id old false at isnt

pub never_defined : (g : Planned) (id : ℕ) → definition g.words.insts id ≡ None → definition (changed g.plan g.words.insts) id ≡ None
unfolding definition_left
never_defined g id none = definition_changed g id ∙ ap (definition_left g.plan g.words.insts) none
