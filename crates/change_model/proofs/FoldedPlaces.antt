-- Where the instruction at a place stood before one of the function became a constant of the module's level, and that ids are given once.
use Rattle.std.proofs.Common.{◌≡◌, ℕ, zero, suc, ◌+◌, ◌<◌, ◌==◌, ◌||◌, ◌⊎◌, inl, inr, Bool, true, false, if◌then◌else◌, List, [], ◌∷◌, ◌++◌, length, take, drop, refl, ap, sym, ◌∙◌, subst, arith, length-drop, Option, None, Some}
use Rattle.std.specs.List.{list_any}
use Rattle.std.proofs.lemmas.Bool.{cases_lt, le-ltb}
use Rattle.std.proofs.lemmas.List.{get_or-drop, get_or-append-add}
use Rattle.std.proofs.Math.Seq.{take-append_seam}
use Rattle.spirv_model.specs.declared.module.Inst.{Inst}
use Rattle.spirv_model.specs.declared.module.Words.{Words}
use Rattle.spirv_model.specs.Operands.{result}
use Rattle.body_model.specs.Grammar.{Derives}
use Rattle.valid_model.specs.Definitions.{has_result, gives, inst_at, no_instruction, is_earlier, twice_by, id_twice}
use Rattle.check_model.specs.Validity.{IsValidList}
use Rattle.stage_model.specs.Value.{Value}
use Rattle.typed_model.proofs.BlockParts.{clash}
use Rattle.typed_model.proofs.ModuleValues.{defined_at}
use Rattle.typed_model.proofs.SilentSteps.{given_id}
use Rattle.typed_model.proofs.ValidTypes.{keeps_rules}
use Rattle.change_model.specs.Folding.{moved_up}
use Rattle.change_model.proofs.FoldedKeeps.{IsFolded}
use Rattle.change_model.proofs.FoldedMeanings.{by_level}
use Rattle.change_model.proofs.KnownResults.{without_one}
use Rattle.change_model.proofs.MovedUp.{moved_up_is, level_long}
use Rattle.change_model.proofs.SettledPlaces.{earlier_is, long_enough}
use Rattle.change_model.proofs.SettledValues.{only_there}

pub same_or_not : (a b : ℕ) → (a ≡ b) ⊎ (a ≡ b → ⊥)
same_or_not a b = elim (cases_lt a b) [
  | inl less ↦ inr (λ same. absurd (omega (arith, less, same)))
  | inr rest ↦ elim (cases_lt b a) [ inl more ↦ inr (λ same. absurd (omega (arith, more, same))) | inr upto ↦ inl (omega (arith, rest, upto)) ]
]

up : (a b : ℕ) → a < b → suc a < suc b
up a b less = omega (arith, less)

down : (a b : ℕ) → suc a < suc b → a < b
down a b less = omega (arith, less)

positive : (a : ℕ) → 0 < suc a
positive a = omega arith

-- ---- without one instruction

-- the instruction at a place is another one of the list before, and what passes a test stands before both
record StoodIn (insts : List Inst) (gone place : ℕ) : Type 0 where
  old : ℕ
  within : old < length insts
  other : old ≡ gone → ⊥
  inst : inst_at (without_one gone insts) place ≡ inst_at insts old
  front : (p : Inst → Bool) → p (inst_at insts gone) ≡ false → list_any p (take place (without_one gone insts)) ≡ list_any p (take old insts)

stood_in : (insts : List Inst) (gone place : ℕ) → gone < length insts → place < length (without_one gone insts) → StoodIn insts gone place
unfolding without_one
stood_in [] gone place there within = absurd (omega (arith, there))
stood_in (x ∷ xs) zero place there within = record {
  old = suc place;
  within = up place (length xs) within;
  other = λ same. absurd (omega (arith, same));
  inst = refl;
  front = λ p isnt. sym (ap (λ (b : Bool). b || list_any p (take place xs)) isnt);
}
stood_in (x ∷ xs) (suc gone) zero there within = record {
  old = 0;
  within = omega arith;
  other = λ same. absurd (omega (arith, same));
  inst = refl;
  front = λ p isnt. refl;
}
stood_in (x ∷ xs) (suc gone) (suc place) there within =
    let r = stood_in xs gone place (down gone (length xs) there) (down place (length (take gone xs ++ drop (suc gone) xs)) within) in
    record {
      old = suc r.old;
      within = up r.old (length xs) r.within;
      other = λ same. r.other (omega (arith, same));
      inst = r.inst;
      front = λ p isnt. ap (λ (b : Bool). p x || b) (r.front p isnt);
    }

-- ---- with a constant behind the level

record StoodBehind (level tail : List Inst) (constant : Inst) (gone place : ℕ) : Type 0 where
  old : ℕ
  within : old < length (level ++ tail)
  other : old ≡ length level + gone → ⊥
  inst : inst_at (level ++ (constant ∷ without_one gone tail)) place ≡ inst_at (level ++ tail) old
  front : (p : Inst → Bool) → p constant ≡ false → p (inst_at tail gone) ≡ false → list_any p (take place (level ++ (constant ∷ without_one gone tail))) ≡ list_any p (take old (level ++ tail))
  early : old < length level → take place (level ++ (constant ∷ without_one gone tail)) ≡ take old (level ++ tail)

nothing_more : (a b : ℕ) → a ≡ 0 + b → a ≡ b
nothing_more a b same = omega (arith, same)

one_less : (a b c : ℕ) → suc a ≡ suc b + c → a ≡ b + c
one_less a b c same = omega (arith, same)

no_sum : (b c : ℕ) → 0 ≡ suc b + c → ⊥
no_sum b c same = absurd (omega (arith, same))

stood_behind : (level tail : List Inst) (constant : Inst) (gone place : ℕ) → gone < length tail → place < length (level ++ (constant ∷ without_one gone tail)) → (place ≡ length level → ⊥) → StoodBehind level tail constant gone place
stood_behind [] tail constant gone zero there within differs = absurd (differs refl)
stood_behind [] tail constant gone (suc place) there within differs =
    let r = stood_in tail gone place there (down place (length (without_one gone tail)) within) in
    record {
      old = r.old;
      within = r.within;
      other = λ same. r.other (nothing_more r.old gone same);
      inst = r.inst;
      front = λ p isnt also. ap (λ (b : Bool). b || list_any p (take place (without_one gone tail))) isnt ∙ r.front p also;
      early = λ less. absurd (omega (arith, less));
    }
stood_behind (x ∷ level) tail constant gone zero there within differs = record {
  old = 0;
  within = positive (length (level ++ tail));
  other = λ same. no_sum (length level) gone same;
  inst = refl;
  front = λ p isnt also. refl;
  early = λ less. refl;
}
stood_behind (x ∷ level) tail constant gone (suc place) there within differs =
    let r = stood_behind level tail constant gone place there (down place (length (level ++ (constant ∷ without_one gone tail))) within) (λ same. differs (ap (λ (n : ℕ). suc n) same)) in
    record {
      old = suc r.old;
      within = up r.old (length (level ++ tail)) r.within;
      other = λ same. r.other (one_less r.old (length level) gone same);
      inst = r.inst;
      front = λ p isnt also. ap (λ (b : Bool). p x || b) (r.front p isnt also);
      early = λ less. ap (λ (l : List Inst). x ∷ l) (r.early (down r.old (length level) less));
    }

-- ---- of both lists

-- where the instruction at a place of the new list stood, which isn't the constant
pub record StoodAt (insts : List Inst) (d : Derives insts) (gone : ℕ) (constant : Inst) (place : ℕ) : Type 0 where
  pub old : ℕ
  pub within : old < length insts
  pub other : old ≡ d.before + 1 + gone → ⊥
  pub inst : inst_at (moved_up (d.before + 1 + gone) constant insts) place ≡ inst_at insts old
  pub front : (p : Inst → Bool) → p constant ≡ false → p (inst_at insts (d.before + 1 + gone)) ≡ false → list_any p (take place (moved_up (d.before + 1 + gone) constant insts)) ≡ list_any p (take old insts)
  pub early : old < d.before → take place (moved_up (d.before + 1 + gone) constant insts) ≡ take old insts

-- the function with its first instruction
abbrev from_function : (insts : List Inst) → Derives insts → List Inst
from_function insts d = inst_at insts d.before ∷ drop (d.before + 1) insts

new_is : (insts : List Inst) (d : Derives insts) (gone : ℕ) (constant : Inst) → moved_up (d.before + 1 + gone) constant insts ≡ take d.before insts ++ (constant ∷ without_one (suc gone) (from_function insts d))
unfolding without_one
new_is insts d gone constant = moved_up_is insts d gone constant

pub stood_at : (insts : List Inst) (d : Derives insts) (gone : ℕ) (constant : Inst) (place : ℕ) → d.before + 1 + gone < length insts → place < length (moved_up (d.before + 1 + gone) constant insts) → (place ≡ d.before → ⊥)
    → StoodAt insts d gone constant place
stood_at insts d gone constant place there within differs =
    let level = take d.before insts in
    let tail = from_function insts d in
    let e = new_is insts d gone constant in
    let o = by_level insts d in
    let long = level_long insts d in
    let rest_long = length-drop (d.before + 1) insts in
    let there_too : gone < length (drop (d.before + 1) insts) = omega (arith, there, rest_long) in
    let new_within : place < length (level ++ (constant ∷ without_one (suc gone) tail)) = subst (λ (l : List Inst). place < length l) e within in
    let r = stood_behind level tail constant (suc gone) place (up gone (length (drop (d.before + 1) insts)) there_too) new_within (λ same. differs (same ∙ long)) in
    record {
      old = r.old;
      within = subst (λ (l : List Inst). r.old < length l) (sym o) r.within;
      other = λ same. r.other (omega (arith, same, long));
      inst = ap (λ (l : List Inst). inst_at l place) e ∙ r.inst ∙ ap (λ (l : List Inst). inst_at l r.old) (sym o);
      front = λ p isnt also. ap (λ (l : List Inst). list_any p (take place l)) e
          ∙ r.front p isnt (ap p (get_or-drop (d.before + 1) insts gone no_instruction) ∙ also)
          ∙ ap (λ (l : List Inst). list_any p (take r.old l)) (sym o);
      early = λ less. ap (take place) e ∙ r.early (omega (arith, less, long)) ∙ ap (take r.old) (sym o);
    }

-- the constant stands behind the level
pub level_front : (insts : List Inst) (d : Derives insts) (gone : ℕ) (constant : Inst) → take d.before (moved_up (d.before + 1 + gone) constant insts) ≡ take d.before insts
level_front insts d gone constant =
    let level = take d.before insts in
    let after = constant ∷ without_one (suc gone) (from_function insts d) in
    ap (take d.before) (new_is insts d gone constant) ∙ ap (λ (n : ℕ). take n (level ++ after)) (sym (level_long insts d)) ∙ take-append_seam level after

pub constant_there : (insts : List Inst) (d : Derives insts) (gone : ℕ) (constant : Inst) → inst_at (moved_up (d.before + 1 + gone) constant insts) d.before ≡ constant
constant_there insts d gone constant =
    let level = take d.before insts in
    let after = constant ∷ without_one (suc gone) (from_function insts d) in
    let long = level_long insts d in
    ap (λ (l : List Inst). inst_at l d.before) (new_is insts d gone constant)
    ∙ ap (λ (n : ℕ). inst_at (level ++ after) n) {x = d.before} {y = length level + 0} (omega (arith, long)) ∙ get_or-append-add level after 0 no_instruction

-- ---- ids are given once

flip_same : (a b : ℕ) → a == b ≡ true → has_result b (Some a) ≡ true
flip_same a b is = is

-- the result at another place is another id
other_result : (words : Words) (v : IsValidList words) (gone own type : ℕ) (constant : Inst) (value : Value) → IsFolded words v gone own type constant value → (old id : ℕ) → old < length words.insts
    → (old ≡ v.derivation.before + 1 + gone → ⊥) → result (inst_at words.insts old) ≡ Some id → id == own ≡ false
other_result words v gone own type constant value f old id within other is = by_test (id == own) refl
  where
    by_test : (b : Bool) → id == own ≡ b → b ≡ false
    by_test false isnt = refl
    by_test true same = absurd (clash (gives own (inst_at words.insts old)) (ap (has_result own) is ∙ flip_same id own same)
        (only_there words v.sound (v.derivation.before + 1 + gone) old own f.moves.within within f.result_is other))

once_at : (words : Words) (v : IsValidList words) (gone own type : ℕ) (constant : Inst) (value : Value) → IsFolded words v gone own type constant value → (place : ℕ)
    → place < length (moved_up (v.derivation.before + 1 + gone) constant words.insts) → (s : StoodAt words.insts v.derivation gone constant place)
    → (given : Option ℕ) → result (inst_at words.insts s.old) ≡ given → twice_by (moved_up (v.derivation.before + 1 + gone) constant words.insts) place given ≡ twice_by words.insts s.old given
once_at words v gone own type constant value f place within s None is = refl
once_at words v gone own type constant value f place within s (Some id) is =
    let insts = words.insts in
    let new = moved_up (v.derivation.before + 1 + gone) constant insts in
    let isnt = other_result words v gone own type constant value f s.old id s.within s.other is in
    ap (λ (b : Bool). if b then Some id else None)
    (earlier_is new id place (long_enough place (length new) within) ∙ s.front (gives id) (f.moves.constant_gives id isnt) (f.moves.gone_gives id isnt)
    ∙ sym (earlier_is insts id s.old (long_enough s.old (length insts) s.within)))

constant_once : (words : Words) (v : IsValidList words) (gone own type : ℕ) (constant : Inst) (value : Value) → IsFolded words v gone own type constant value
    → v.derivation.before < length (moved_up (v.derivation.before + 1 + gone) constant words.insts) → id_twice (moved_up (v.derivation.before + 1 + gone) constant words.insts) v.derivation.before ≡ None
unfolding id_twice
constant_once words v gone own type constant value f within =
    let insts = words.insts in let d = v.derivation in
    let new = moved_up (d.before + 1 + gone) constant insts in
    let w = f.moves.within in
    let defined = defined_at insts (d.before + 1 + gone) own w f.result_is (keeps_rules words v.sound (d.before + 1 + gone) w).once in
    ap (λ (i : Inst). twice_by new d.before (result i)) (constant_there insts d gone constant)
    ∙ ap (twice_by new d.before) (given_id own (result constant) f.moves.gives_own)
    ∙ ap (λ (b : Bool). if b then Some own else None)
    (earlier_is new own d.before (long_enough d.before (length new) within) ∙ ap (list_any (gives own)) (level_front insts d gone constant)
    ∙ sym (earlier_is insts own d.before (omega (arith, w)))
    ∙ ap (λ (found : Option ℕ). is_earlier found d.before) defined ∙ le-ltb (d.before + 1 + gone) d.before (omega arith))

-- with a scalar operation folded each id is still given once
pub once_folded : (words : Words) (v : IsValidList words) (gone own type : ℕ) (constant : Inst) (value : Value) → IsFolded words v gone own type constant value → (place : ℕ)
    → place < length (moved_up (v.derivation.before + 1 + gone) constant words.insts) → id_twice (moved_up (v.derivation.before + 1 + gone) constant words.insts) place ≡ None
unfolding id_twice
once_folded words v gone own type constant value f place within = by_order (same_or_not place v.derivation.before)
  where
    insts : List Inst
    insts = words.insts

    by_order : (place ≡ v.derivation.before) ⊎ (place ≡ v.derivation.before → ⊥) → id_twice (moved_up (v.derivation.before + 1 + gone) constant insts) place ≡ None
    by_order (inl here) =
        subst (λ (n : ℕ). id_twice (moved_up (v.derivation.before + 1 + gone) constant insts) n ≡ None) (sym here)
        (constant_once words v gone own type constant value f (subst (λ (n : ℕ). n < length (moved_up (v.derivation.before + 1 + gone) constant insts)) here within))
    by_order (inr differs) =
        let s = stood_at insts v.derivation gone constant place f.moves.within within differs in
        let new = moved_up (v.derivation.before + 1 + gone) constant insts in
        ap (λ (i : Inst). twice_by new place (result i)) s.inst
        ∙ once_at words v gone own type constant value f place within s (result (inst_at insts s.old)) refl
        ∙ (keeps_rules words v.sound s.old s.within).once
