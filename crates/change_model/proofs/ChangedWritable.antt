-- The list that a plan makes can be written, in no more words than the one before.
use Rattle.std.proofs.Common.{◌≡◌, ℕ, zero, suc, ◌+◌, ◌-◌, ◌<◌, ◌≤◌, ◌&&◌, inl, inr, Bool, true, false, List, [], ◌∷◌, ◌++◌, length, take, drop, refl, ap, sym, ◌∙◌, subst, arith, take-append-drop}
use Rattle.std.specs.Prelude.{is_some}
use Rattle.std.specs.List.{list_all}
use Rattle.std.proofs.lemmas.Bool.{cases_lt}
use Rattle.std.proofs.lemmas.List.{drop_more}
use Rattle.spirv_model.specs.declared.module.Inst.{Inst}
use Rattle.spirv_model.specs.Operands.{kinds}
use Rattle.spirv_model.specs.Module.{module_words, fits_table, IsWritable}
use Rattle.valid_model.specs.Definitions.{inst_at, no_instruction}
use Rattle.typed_model.proofs.ValidModules.{valid_sound}
use Rattle.change_model.specs.declared.fate.Fate.{Fate}
use Rattle.change_model.specs.declared.fate.Fate.TheVariants.{Dead, Stays, Goes, Picks, Folds, Nulls, Resolves, Skips, Unused}
use Rattle.change_model.specs.Folding.{function_at}
use Rattle.change_model.specs.Plans.{Plan, written_as, written_at, constant_as, constant_at, changed}
use Rattle.change_model.specs.PlanRules.{is_constant_fate}
use Rattle.change_model.proofs.BehindLevel.{BehindLevel, new_one, written_one, behind_level}
use Rattle.change_model.proofs.ChangedDefinitions.{constant_comes}
use Rattle.change_model.proofs.ChangedMeanings.{level_inst}
use Rattle.change_model.proofs.ChangedPlaces.{at_most_one, function_within}
use Rattle.change_model.proofs.ChangedWords.{written_no_longer, constant_no_longer}
use Rattle.change_model.proofs.FoldedWords.{size, size_more, size_both, whole_size}
use Rattle.change_model.proofs.Pieces.{pieces}
use Rattle.change_model.proofs.Planned.{Planned, is_written, is_new_constant}

-- ---- one instruction

none_written : (plan : Plan) (insts : List Inst) (place : ℕ) → is_constant_fate (plan.fate place) ≡ true → written_at plan insts place ≡ []
unfolding written_at
none_written plan insts place is = by_fate (plan.fate place) is
  where
    by_fate : (fate : Fate) → is_constant_fate fate ≡ true → written_as plan insts place (inst_at insts place) fate ≡ []
    by_fate (Folds scalar) is = refl
    by_fate Nulls is = refl
    by_fate fate is = cc

none_constant : (plan : Plan) (insts : List Inst) (place : ℕ) → is_constant_fate (plan.fate place) ≡ false → constant_at plan insts place ≡ []
unfolding constant_at
none_constant plan insts place is = by_fate (plan.fate place) is
  where
    by_fate : (fate : Fate) → is_constant_fate fate ≡ false → constant_as (inst_at insts place) fate ≡ []
    by_fate (Folds scalar) is = cc
    by_fate Nulls is = cc
    by_fate Dead is = refl
    by_fate Stays is = refl
    by_fate (Goes label) is = refl
    by_fate (Picks label) is = refl
    by_fate Resolves is = refl
    by_fate Skips is = refl
    by_fate Unused is = refl

one_size : (inst : Inst) (most : ℕ) → length inst.words ≤ most → size (inst ∷ []) ≤ most + 1
one_size inst most short = let e = size_more inst [] in omega (arith, e, short)

no_more : (a b most : ℕ) → a ≤ most + 1 → b ≡ 0 → a + b ≤ most + 1
no_more a b most short none = omega (arith, short, none)

no_more_too : (a b most : ℕ) → a ≡ 0 → b ≤ most + 1 → a + b ≤ most + 1
no_more_too a b most none short = omega (arith, short, none)

-- what is left of it takes no more words
pub one_smaller : (g : Planned) (place : ℕ) → function_at g.words.insts ≤ place → place < length g.words.insts
    → size (constant_at g.plan g.words.insts place) + size (written_at g.plan g.words.insts place) ≤ length (inst_at g.words.insts place).words + 1
one_smaller g place low within = by_kind (is_constant_fate (g.plan.fate place)) refl
  where
    by_written : (found : List Inst) → written_at g.plan g.words.insts place ≡ found → size found ≤ length (inst_at g.words.insts place).words + 1
    by_written [] is = omega arith
    by_written (inst ∷ []) is = one_size inst (length (inst_at g.words.insts place).words) (written_no_longer g place inst (is_written g place inst is) low within).short
    by_written (inst ∷ next ∷ more) is =
        let long = subst (λ (l : List Inst). length l ≤ 1) is (at_most_one g.plan g.words.insts place) in absurd (omega (arith, long))

    by_kind : (b : Bool) → is_constant_fate (g.plan.fate place) ≡ b → size (constant_at g.plan g.words.insts place) + size (written_at g.plan g.words.insts place) ≤ length (inst_at g.words.insts place).words + 1
    by_kind true is =
        let c = constant_comes g.plan g.words.insts place is in
        no_more (size (constant_at g.plan g.words.insts place)) (size (written_at g.plan g.words.insts place)) (length (inst_at g.words.insts place).words)
        (subst (λ (l : List Inst). size l ≤ length (inst_at g.words.insts place).words + 1) (sym c.1)
        (one_size c.0 (length (inst_at g.words.insts place).words) (constant_no_longer g place c.0 (is_new_constant g place c.0 c.1) within).short))
        (ap size (none_written g.plan g.words.insts place is))
    by_kind false is =
        no_more_too (size (constant_at g.plan g.words.insts place)) (size (written_at g.plan g.words.insts place)) (length (inst_at g.words.insts place).words)
        (ap size (none_constant g.plan g.words.insts place is)) (by_written (written_at g.plan g.words.insts place) refl)

-- ---- all of them

sums : (a b c d e f n s t : ℕ) → a ≡ b + c → d ≡ e + f → n ≡ s + t → b + e ≤ s → c + f ≤ t → a + d ≤ n
sums a b c d e f n s t p q r x y = omega (arith, p, q, r, x, y)

function_smaller : (g : Planned) (n from : ℕ) → function_at g.words.insts ≤ from → from + n ≡ length g.words.insts
    → size (pieces (constant_at g.plan g.words.insts) from n) + size (pieces (written_at g.plan g.words.insts) from n) ≤ size (drop from g.words.insts)
function_smaller g zero from low long = omega arith
function_smaller g (suc n) from low long =
    let insts = g.words.insts in
    let c = constant_at g.plan insts in
    let w = written_at g.plan insts in
    let within : from < length insts = omega (arith, long) in
    sums (size (c from ++ pieces c (from + 1) n)) (size (c from)) (size (pieces c (from + 1) n)) (size (w from ++ pieces w (from + 1) n)) (size (w from)) (size (pieces w (from + 1) n))
    (size (drop from insts)) (length (inst_at insts from).words + 1) (size (drop (from + 1) insts))
    (size_both (c from) (pieces c (from + 1) n)) (size_both (w from) (pieces w (from + 1) n))
    (ap size (drop_more insts from no_instruction within) ∙ size_more (inst_at insts from) (drop (from + 1) insts))
    (one_smaller g from low within) (function_smaller g n (from + 1) (omega (arith, low)) (omega (arith, long)))

pub shortens : (g : Planned) → length (module_words (changed g.plan g.words.insts) g.words.bound) ≤ length (module_words g.words.insts g.words.bound)
unfolding changed
shortens g =
    let insts = g.words.insts in
    let first = function_at insts in
    let level = take first insts in
    let constants = pieces (constant_at g.plan insts) first (length insts - first) in
    let written = pieces (written_at g.plan insts) first (length insts - first) in
    let most = function_within insts in
    let less = function_smaller g (length insts - first) first (omega arith) (omega (arith, most)) in
    let new_size = size_both level (constants ++ written) in
    let behind = size_both constants written in
    let old_size : size insts ≡ size level + size (drop first insts) = ap size (sym (take-append-drop first insts)) ∙ size_both level (drop first insts) in
    let a = whole_size (level ++ (constants ++ written)) g.words.bound in
    let b = whole_size insts g.words.bound in
    omega (arith, less, new_size, behind, old_size, a, b)

-- ---- the table

pub fits_changed : (g : Planned) (k : ℕ) → k < length (changed g.plan g.words.insts) → is_some (kinds (inst_at (changed g.plan g.words.insts) k)) ≡ true
fits_changed g k within = elim (cases_lt k (function_at g.words.insts)) [
  | inl low ↦
      let most = function_within g.words.insts in
      ap (λ (i : Inst). is_some (kinds i)) (level_inst g k low) ∙ (valid_sound g.words g.valid).shaped k (omega (arith, low, most))
  | inr late ↦ by_kind (behind_level g k late within)
]
  where
    by_kind : BehindLevel g k → is_some (kinds (inst_at (changed g.plan g.words.insts) k)) ≡ true
    by_kind (new_one old inst n least most there at) = ap (λ (i : Inst). is_some (kinds i)) at ∙ (constant_no_longer g old inst n most).fits
    by_kind (written_one old inst w least most there at) = ap (λ (i : Inst). is_some (kinds i)) at ∙ (written_no_longer g old inst w least most).fits

all_fit : (insts : List Inst) → ((k : ℕ) → k < length insts → is_some (kinds (inst_at insts k)) ≡ true) → list_all fits_table insts ≡ true
all_fit [] fit = refl
all_fit (inst ∷ insts) fit = ap (λ (b : Bool). b && list_all fits_table insts) (fit 0 (omega arith)) ∙ all_fit insts (λ k within. fit (suc k) (omega (arith, within)))

less_again : (a b c : ℕ) → a ≤ b → b ≤ c → a ≤ c
less_again a b c first second = omega arith

pub changed_written : (g : Planned) → IsWritable (record { bound = g.words.bound; insts = changed g.plan g.words.insts })
changed_written g = record {
  fit = all_fit (changed g.plan g.words.insts) (fits_changed g);
  bound_least = g.valid.writable.bound_least;
  bound_most = g.valid.writable.bound_most;
  few = less_again _ _ _ (shortens g) g.valid.writable.few;
}
