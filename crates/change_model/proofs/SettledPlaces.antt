-- Which place of the old list a place of the new one is, where constants stand for specialization constants.
use Rattle.std.proofs.Common.{◌≡◌, ℕ, zero, suc, ◌<◌, ◌≤◌, ◌||◌, Bool, true, false, nat_lt, if◌then◌else◌, List, [], ◌∷◌, length, take, refl, ap, sym, ◌∙◌, arith, Option, None, Some}
use Rattle.std.specs.Option.{option_map}
use Rattle.std.specs.List.{list_any}
use Rattle.std.proofs.lemmas.Bool.Decides.{nat_tests}
use Rattle.spirv_model.specs.declared.module.Inst.{Inst}
use Rattle.spirv_model.specs.Operands.{result}
use Rattle.valid_model.specs.Definitions.{gives, inst_at, definition, is_earlier, twice_by, id_twice}
use Rattle.change_model.specs.Constants.{is_spec_id}
use Rattle.change_model.specs.Settling.{all_settled}
use Rattle.change_model.proofs.Sifted.{PlaceIn, place_in}
use Rattle.change_model.proofs.Settlings.{Settles, IsKeptTest, any_settled, result_same, gives_same, gone_gives}

abbrev pub PlaceOf : (Inst → Inst) → List Inst → ℕ → Type 0
PlaceOf f insts place = PlaceIn is_spec_id f insts place

pub place_of : (f : Inst → Inst) (insts : List Inst) (place : ℕ) → place < length (all_settled f insts) → PlaceOf f insts place
place_of f insts place within = place_in is_spec_id f insts place within

-- ---- what is defined before a place

never_below : (found : Option ℕ) → is_earlier found 0 ≡ false
never_below None = refl
never_below (Some at) = less at
  where
    less : (n : ℕ) → nat_lt n 0 ≡ false
    less n = grind (arith, nat_tests)

both_more : (found : Option ℕ) (place : ℕ) → is_earlier (option_map (λ (n : ℕ). suc n) found) (suc place) ≡ is_earlier found place
both_more None place = refl
both_more (Some at) place = less at place
  where
    less : (n m : ℕ) → nat_lt (suc n) (suc m) ≡ nat_lt n m
    less n m = grind (arith, nat_tests)

above : (n : ℕ) → nat_lt 0 (suc n) ≡ true
above n = grind (arith, nat_tests)

pub earlier_is : (insts : List Inst) (id place : ℕ) → place ≤ length insts → is_earlier (definition insts id) place ≡ list_any (gives id) (take place insts)
unfolding definition
earlier_is [] id zero within = refl
earlier_is [] id (suc place) within = absurd (omega (arith, within))
earlier_is (inst ∷ insts) id zero within = never_below (definition (inst ∷ insts) id)
earlier_is (inst ∷ insts) id (suc place) within = by_test (gives id inst) (earlier_is insts id place (omega (arith, within)))
  where
    by_test : (b : Bool) → is_earlier (definition insts id) place ≡ list_any (gives id) (take place insts)
        → is_earlier (if b then Some 0 else option_map (λ (n : ℕ). suc n) (definition insts id)) (suc place) ≡ (b || list_any (gives id) (take place insts))
    by_test true rest = above place
    by_test false rest = both_more (definition insts id) place ∙ rest

pub gives_kept : (f : Inst → Inst) → Settles f → (id : ℕ) → IsKeptTest f (gives id) (gives id)
gives_kept f s id = record { kept = λ inst stays. gives_same id (f inst) inst (s inst); gone = λ inst is. gone_gives id inst is }

pub long_enough : (a b : ℕ) → a < b → a ≤ b
long_enough a b less = omega (arith, less)

pub earlier_same : (f : Inst → Inst) → Settles f → (insts : List Inst) (place : ℕ) → place < length (all_settled f insts) → (p : PlaceOf f insts place) → (id : ℕ)
    → is_earlier (definition (all_settled f insts) id) place ≡ is_earlier (definition insts id) p.old
earlier_same f s insts place within p id =
    earlier_is (all_settled f insts) id place (long_enough place (length (all_settled f insts)) within)
    ∙ ap (list_any (gives id)) p.front
    ∙ any_settled f (gives id) (gives id) (gives_kept f s id) (take p.old insts)
    ∙ sym (earlier_is insts id p.old (long_enough p.old (length insts) p.within))

-- ---- ids are given once

twice_same : (f : Inst → Inst) → Settles f → (insts : List Inst) (place : ℕ) → place < length (all_settled f insts) → (p : PlaceOf f insts place) → (given : Option ℕ)
    → twice_by (all_settled f insts) place given ≡ twice_by insts p.old given
twice_same f s insts place within p None = refl
twice_same f s insts place within p (Some id) = ap (λ (b : Bool). if b then Some id else None) (earlier_same f s insts place within p id)

pub once_settled : (f : Inst → Inst) → Settles f → (insts : List Inst) (place : ℕ) → place < length (all_settled f insts) → (p : PlaceOf f insts place) → id_twice (all_settled f insts) place ≡ id_twice insts p.old
unfolding id_twice
once_settled f s insts place within p =
    ap (λ (i : Inst). twice_by (all_settled f insts) place (result i)) p.inst
    ∙ ap (twice_by (all_settled f insts) place) (result_same (f (inst_at insts p.old)) (inst_at insts p.old) (s (inst_at insts p.old)))
    ∙ twice_same f s insts place within p (result (inst_at insts p.old))
