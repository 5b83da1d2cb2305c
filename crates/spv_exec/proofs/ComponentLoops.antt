-- Loops that write words of a frame one by one.
use Rattle.std.proofs.Common.{◌≡◌, ℕ, zero, suc, ◌+◌, ◌<◌, ◌≤◌, inl, inr, ◌⊎◌, ◌==◌, not, ◌||◌, ◌&&◌, Bool, true, false, List, [], ◌∷◌, length, map, get_or, set, take, refl, ap, sym, ◌∙◌, arith}
use Rattle.std.specs.List.{list_any, list_all}
use Rattle.std.proofs.lemmas.List.{length-map, take_all, length-take-le, get_or-map, take_more}
use Rattle.std.proofs.lemmas.List.Folds.{list_any-append, list_all-append}
use Rattle.frame_model.specs.Shown.{words_at}
use Rattle.frame_model.specs.Written.{written}
use Rattle.frame_model.specs.Componentwise.{on_both, chosen_word, chosen_words, is_true_word}
use Rattle.frame_model.proofs.WrittenWords.{length_words_at, words_at_index, written_before, written_behind, written_none, written_next}

-- a word that lies in front of what is written, or not before the place of the next word
pub kept : (xs new : List ℕ) (at k count from : ℕ) → at + length new ≤ length xs → length new ≡ count → k < count → (from + count ≤ at) ⊎ (at ≤ from) → get_or (written xs at (take k new)) (from + k) 0 ≡ get_or xs (from + k) 0
kept xs new at k count from room long less (inl early) = written_before xs (take k new) at (from + k) (omega (arith, room)) (omega (arith, early, less))
kept xs new at k count from room long less (inr late) =
    let t : length (take k new) ≡ k = length-take-le k new (omega (arith, long, less)) in
    written_behind xs (take k new) at (from + k) (omega (arith, room)) (omega (arith, t, late))

-- the next word is written
pub next_word : (xs frame new : List ℕ) (at k word : ℕ) → frame ≡ written xs at (take k new) → at + length new ≤ length xs → k < length new → word ≡ get_or new k 0 → set frame (at + k) word ≡ written xs at (take (k + 1) new)
next_word xs frame new at k word is room less same =
    ap (λ (l : List ℕ). set l (at + k) word) is ∙ (ap (λ (w : ℕ). set (written xs at (take k new)) (at + k) w) same ∙ written_next xs at new k room less)

-- all are written
pub all_written : (xs frame new : List ℕ) (at k : ℕ) → frame ≡ written xs at (take k new) → length new ≤ k → frame ≡ written xs at new
all_written xs frame new at k is long = is ∙ ap (λ (l : List ℕ). written xs at l) (take_all k new long)

-- one word is written
pub one_written : (xs : List ℕ) (at word : ℕ) → at < length xs → set xs at word ≡ written xs at (word ∷ [])
one_written xs at word room =
    let e : at + 0 ≡ at = omega arith in
    ap (λ (l : List ℕ). set l at word) (sym (written_none xs at)) ∙ (ap (λ (k : ℕ). set (written xs at []) k word) (sym e) ∙ written_next xs at (word ∷ []) 0 (omega (arith, room)) (omega arith))

-- ---- one word of another

pub length_mapped : (f : ℕ → ℕ) (xs : List ℕ) (from count : ℕ) → from + count ≤ length xs → length (map f (words_at xs from count)) ≡ count
length_mapped f xs from count within = length-map (words_at xs from count) f ∙ length_words_at xs from count within

pub mapped_word : (f : ℕ → ℕ) (xs : List ℕ) (from count k : ℕ) → from + count ≤ length xs → k < count → get_or (map f (words_at xs from count)) k 0 ≡ f (get_or xs (from + k) 0)
mapped_word f xs from count k within less =
    let long = length_words_at xs from count within in
    get_or-map f (words_at xs from count) k 0 0 (omega (arith, long, less)) ∙ ap f (words_at_index xs from count k less)

-- ---- of two

pub length_both : (f : ℕ → ℕ → ℕ) (xs ys : List ℕ) → length xs ≡ length ys → length (on_both f xs ys) ≡ length xs
length_both f [] ys long = refl
length_both f (x ∷ xs) [] long = absurd (omega (arith, long))
length_both f (x ∷ xs) (y ∷ ys) long = ap (λ (n : ℕ). suc n) (length_both f xs ys (omega (arith, long)))

both_index : (f : ℕ → ℕ → ℕ) (xs ys : List ℕ) (k : ℕ) → k < length xs → k < length ys → get_or (on_both f xs ys) k 0 ≡ f (get_or xs k 0) (get_or ys k 0)
both_index f [] ys k less also = absurd (omega (arith, less))
both_index f (x ∷ xs) [] k less also = absurd (omega (arith, also))
both_index f (x ∷ xs) (y ∷ ys) zero less also = refl
both_index f (x ∷ xs) (y ∷ ys) (suc k) less also = both_index f xs ys k (omega (arith, less)) (omega (arith, also))

pub length_on_both : (f : ℕ → ℕ → ℕ) (xs : List ℕ) (left right count : ℕ) → left + count ≤ length xs → right + count ≤ length xs → length (on_both f (words_at xs left count) (words_at xs right count)) ≡ count
length_on_both f xs left right count within also =
    let a = length_words_at xs left count within in let b = length_words_at xs right count also in
    length_both f (words_at xs left count) (words_at xs right count) (a ∙ sym b) ∙ a

pub on_both_word : (f : ℕ → ℕ → ℕ) (xs : List ℕ) (left right count k : ℕ) → left + count ≤ length xs → right + count ≤ length xs → k < count
    → get_or (on_both f (words_at xs left count) (words_at xs right count)) k 0 ≡ f (get_or xs (left + k) 0) (get_or xs (right + k) 0)
on_both_word f xs left right count k within also less =
    let a = length_words_at xs left count within in let b = length_words_at xs right count also in
    both_index f (words_at xs left count) (words_at xs right count) k (omega (arith, a, less)) (omega (arith, b, less))
    ∙ (ap (λ (w : ℕ). f w (get_or (words_at xs right count) k 0)) (words_at_index xs left count k less) ∙ ap (f (get_or xs (left + k) 0)) (words_at_index xs right count k less))

-- ---- of three

length_three : (cs xs ys : List ℕ) → length cs ≡ length xs → length cs ≡ length ys → length (chosen_words cs xs ys) ≡ length cs
length_three [] xs ys long also = refl
length_three (c ∷ cs) [] ys long also = absurd (omega (arith, long))
length_three (c ∷ cs) (x ∷ xs) [] long also = absurd (omega (arith, also))
length_three (c ∷ cs) (x ∷ xs) (y ∷ ys) long also = ap (λ (n : ℕ). suc n) (length_three cs xs ys (omega (arith, long)) (omega (arith, also)))

three_index : (cs xs ys : List ℕ) (k : ℕ) → k < length cs → length cs ≡ length xs → length cs ≡ length ys → get_or (chosen_words cs xs ys) k 0 ≡ chosen_word (get_or cs k 0) (get_or xs k 0) (get_or ys k 0)
three_index [] xs ys k less long also = absurd (omega (arith, less))
three_index (c ∷ cs) [] ys k less long also = absurd (omega (arith, long))
three_index (c ∷ cs) (x ∷ xs) [] k less long also = absurd (omega (arith, also))
three_index (c ∷ cs) (x ∷ xs) (y ∷ ys) zero less long also = refl
three_index (c ∷ cs) (x ∷ xs) (y ∷ ys) (suc k) less long also = three_index cs xs ys k (omega (arith, less)) (omega (arith, long)) (omega (arith, also))

pub length_chosen : (xs : List ℕ) (conditions first second count : ℕ) → conditions + count ≤ length xs → first + count ≤ length xs → second + count ≤ length xs
    → length (chosen_words (words_at xs conditions count) (words_at xs first count) (words_at xs second count)) ≡ count
length_chosen xs conditions first second count of_conditions of_first of_second =
    let a = length_words_at xs conditions count of_conditions in let b = length_words_at xs first count of_first in let c = length_words_at xs second count of_second in
    length_three (words_at xs conditions count) (words_at xs first count) (words_at xs second count) (a ∙ sym b) (a ∙ sym c) ∙ a

pub chosen_at : (xs : List ℕ) (conditions first second count k : ℕ) → conditions + count ≤ length xs → first + count ≤ length xs → second + count ≤ length xs → k < count
    → get_or (chosen_words (words_at xs conditions count) (words_at xs first count) (words_at xs second count)) k 0 ≡ chosen_word (get_or xs (conditions + k) 0) (get_or xs (first + k) 0) (get_or xs (second + k) 0)
chosen_at xs conditions first second count k of_conditions of_first of_second less =
    let a = length_words_at xs conditions count of_conditions in let b = length_words_at xs first count of_first in let c = length_words_at xs second count of_second in
    three_index (words_at xs conditions count) (words_at xs first count) (words_at xs second count) k (omega (arith, a, less)) (a ∙ sym b) (a ∙ sym c)
    ∙ (ap (λ (w : ℕ). chosen_word w (get_or (words_at xs first count) k 0) (get_or (words_at xs second count) k 0)) (words_at_index xs conditions count k less)
    ∙ (ap (λ (w : ℕ). chosen_word (get_or xs (conditions + k) 0) w (get_or (words_at xs second count) k 0)) (words_at_index xs first count k less)
    ∙ ap (chosen_word (get_or xs (conditions + k) 0) (get_or xs (first + k) 0)) (words_at_index xs second count k less)))

-- ---- some word, or each

pub any_more : (xs : List ℕ) (from count k : ℕ) → from + count ≤ length xs → k < count
    → list_any is_true_word (take (k + 1) (words_at xs from count)) ≡ (list_any is_true_word (take k (words_at xs from count)) || not (get_or xs (from + k) 0 == 0))
any_more xs from count k within less =
    let ws = words_at xs from count in
    let long = length_words_at xs from count within in
    ap (list_any is_true_word) (take_more ws k 0 (omega (arith, long, less))) ∙ (list_any-append is_true_word (take k ws) (get_or ws k 0 ∷ [])
    ∙ ap (λ (b : Bool). list_any is_true_word (take k ws) || b) (or_last (is_true_word (get_or ws k 0)) ∙ ap is_true_word (words_at_index xs from count k less)))
  where
    or_last : (b : Bool) → (b || false) ≡ b
    or_last true = refl
    or_last false = refl

pub all_more : (xs : List ℕ) (from count k : ℕ) → from + count ≤ length xs → k < count
    → list_all is_true_word (take (k + 1) (words_at xs from count)) ≡ (list_all is_true_word (take k (words_at xs from count)) && not (get_or xs (from + k) 0 == 0))
all_more xs from count k within less =
    let ws = words_at xs from count in
    let long = length_words_at xs from count within in
    ap (list_all is_true_word) (take_more ws k 0 (omega (arith, long, less))) ∙ (list_all-append is_true_word (take k ws) (get_or ws k 0 ∷ [])
    ∙ ap (λ (b : Bool). list_all is_true_word (take k ws) && b) (and_last (is_true_word (get_or ws k 0)) ∙ ap is_true_word (words_at_index xs from count k less)))
  where
    and_last : (b : Bool) → (b && true) ≡ b
    and_last true = refl
    and_last false = refl
