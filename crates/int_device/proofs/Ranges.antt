-- The numbers below a bound, and folds over them.
use Rattle.std.proofs.Common.{◌≡◌, ℕ, ◌+◌, Bool, true, false, cond, List, ◌++◌, ◌∷◌, [], map, refl, ap, sym, ◌∙◌, zero-add}
use Rattle.std.specs.Prelude.{filter}
use Rattle.std.specs.List.{fold, range_with_len}
use Rattle.std.proofs.lemmas.List.FromFn.{map-range_with_len_more}
use Rattle.std.proofs.lemmas.List.Elements.{filter-append}
use Rattle.std.proofs.lemmas.List.Sums.{fold-append}

map-same : (xs : List ℕ) → map (λ x. x) xs ≡ xs
map-same [] = refl
map-same (x ∷ xs) = ap (λ (ys : List ℕ). x ∷ ys) (map-same xs)

-- one number more
pub range_from_more : (a n : ℕ) → range_with_len a (n + 1) ≡ range_with_len a n ++ (a + n) ∷ []
range_from_more a n =
    sym (map-same (range_with_len a (n + 1))) ∙ map-range_with_len_more (λ x. x) a n (a + n) refl
    ∙ ap (λ (xs : List ℕ). xs ++ (a + n) ∷ []) (map-same (range_with_len a n))

pub range_more : (n : ℕ) → range_with_len 0 (n + 1) ≡ range_with_len 0 n ++ n ∷ []
range_more n = range_from_more 0 n ∙ ap (λ (m : ℕ). range_with_len 0 n ++ m ∷ []) (zero-add n)

pub fold_more : {B : Type 0} (f : B → ℕ → B) (b : B) (n : ℕ) → fold f b (range_with_len 0 (n + 1)) ≡ f (fold f b (range_with_len 0 n)) n
fold_more f b n = ap (fold f b) (range_more n) ∙ fold-append f b (range_with_len 0 n) (n ∷ [])

-- of the numbers that pass a test
pub filtered_more : (test : ℕ → Bool) (a n : ℕ) → filter test (range_with_len a (n + 1)) ≡ filter test (range_with_len a n) ++ cond (test (a + n)) ((a + n) ∷ []) []
filtered_more test a n = ap (filter test) (range_from_more a n) ∙ filter-append test (range_with_len a n) ((a + n) ∷ [])

fold_passed : {B : Type 0} (f : B → ℕ → B) (b : B) (test : ℕ → Bool) (n : ℕ) (passes : Bool) → test n ≡ passes →
    fold f b (filter test (range_with_len 0 (n + 1))) ≡ cond passes (f (fold f b (filter test (range_with_len 0 n))) n) (fold f b (filter test (range_with_len 0 n)))
fold_passed f b test n passes is =
    ap (fold f b) (filtered_more test 0 n)
    ∙ ap (λ (m : ℕ). fold f b (filter test (range_with_len 0 n) ++ cond (test m) (m ∷ []) [])) (zero-add n)
    ∙ ap (λ (p : Bool). fold f b (filter test (range_with_len 0 n) ++ cond p (n ∷ []) [])) is
    ∙ fold-append f b (filter test (range_with_len 0 n)) (cond passes (n ∷ []) [])
    ∙ by_test passes
  where
    by_test : (p : Bool) → fold f (fold f b (filter test (range_with_len 0 n))) (cond p (n ∷ []) []) ≡ cond p (f (fold f b (filter test (range_with_len 0 n))) n) (fold f b (filter test (range_with_len 0 n)))
    by_test true = refl
    by_test false = refl

pub fold_taken : {B : Type 0} (f : B → ℕ → B) (b : B) (test : ℕ → Bool) (n : ℕ) → test n ≡ true →
    fold f b (filter test (range_with_len 0 (n + 1))) ≡ f (fold f b (filter test (range_with_len 0 n))) n
fold_taken f b test n is = fold_passed f b test n true is

pub fold_left_out : {B : Type 0} (f : B → ℕ → B) (b : B) (test : ℕ → Bool) (n : ℕ) → test n ≡ false →
    fold f b (filter test (range_with_len 0 (n + 1))) ≡ fold f b (filter test (range_with_len 0 n))
fold_left_out f b test n is = fold_passed f b test n false is
