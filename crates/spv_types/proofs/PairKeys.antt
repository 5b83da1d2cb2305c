-- Pairs of numbers as keys.
use Rattle.std.proofs.Common.{◌≡◌, ℕ, Bool, true, false, cond, ◌&&◌, ◌||◌, ◌==◌, ◌∙◌, ap, refl, subst, arith}
use Rattle.std.specs.Prelude.{Option, None, Some, is_some}
use Rattle.std.specs.Option.{option_or}
use Rattle.std.specs.declared.cmp.Ordering.{Ordering}
use Rattle.std.specs.declared.cmp.Ordering.TheVariants.{Less, Equal, Greater}
use Rattle.std.specs.Ordering.{nat_cmp, ordering_then, is_eq}
use Rattle.std.specs.BTreeMap.{BTreeMap}
use Rattle.std.proofs.lemmas.Bool.Decides.{nat_tests}
use Rattle.spv_types.specs.Pairs.{pair_cmp, at_pair, word_if}

pub both_equal : (o p : Ordering) → is_eq (ordering_then o p) ≡ (is_eq o && is_eq p)
both_equal Less p = refl
both_equal Equal p = refl
both_equal Greater p = refl

pub equal_numbers : (a b : ℕ) → is_eq (nat_cmp a b) ≡ (a == b)
equal_numbers a b = grind (arith, nat_tests)

pub same_pair : (a b c d : ℕ) → is_eq (pair_cmp (a, b) (c, d)) ≡ ((a == c) && (b == d))
same_pair a b c d = both_equal (nat_cmp a c) (nat_cmp b d) ∙ ap (λ t. t && is_eq (nat_cmp b d)) (equal_numbers a c) ∙ ap (λ t. (a == c) && t) (equal_numbers b d)

by_test : (t : Bool) (old : Option ℕ) (word : ℕ) → (t ≡ true → old ≡ None) → cond t (Some word) old ≡ option_or old (word_if t word)
by_test true old word none = rw (none refl) refl
by_test false None word none = refl
by_test false (Some own) word none = refl

is_none : (old : Option ℕ) → is_some old ≡ false → old ≡ None
is_none None h = refl
is_none (Some own) h = cc

pub absent : (old : BTreeMap (ℕ × ℕ) ℕ) (a b c d : ℕ) → is_some (at_pair old a b) ≡ false → ((a == c) && (b == d)) ≡ true → at_pair old c d ≡ None
absent old a b c d none same =
    let first : a ≡ c = grind (arith, nat_tests) in
    let second : b ≡ d = grind (arith, nat_tests) in
    subst (λ (x : ℕ). at_pair old x d ≡ None) first (subst (λ (y : ℕ). at_pair old a y ≡ None) second (is_none (at_pair old a b) none))

-- a word that is kept where there was none
pub kept_first : (old new : BTreeMap (ℕ × ℕ) ℕ) (a b c d word : ℕ)
    → at_pair new c d ≡ cond (is_eq (pair_cmp (a, b) (c, d))) (Some word) (at_pair old c d)
    → is_some (at_pair old a b) ≡ false
    → at_pair new c d ≡ option_or (at_pair old c d) (word_if ((a == c) && (b == d)) word)
kept_first old new a b c d word now none =
    now ∙ ap (λ t. cond t (Some word) (at_pair old c d)) (same_pair a b c d)
    ∙ by_test ((a == c) && (b == d)) (at_pair old c d) word (absent old a b c d none)

or_test : (t b : Bool) → cond t true b ≡ (b || t)
or_test true true = refl
or_test true false = refl
or_test false true = refl
or_test false false = refl

pub added : (a b c d : ℕ) (old now : Bool) → now ≡ cond (is_eq (pair_cmp (a, b) (c, d))) true old → now ≡ (old || ((a == c) && (b == d)))
added a b c d old now is = is ∙ ap (λ t. cond t true old) (same_pair a b c d) ∙ or_test ((a == c) && (b == d)) old
