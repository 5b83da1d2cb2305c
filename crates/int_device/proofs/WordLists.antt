-- Words that are put into others one by one.
use Rattle.std.proofs.Common.{◌≡◌, ℕ, zero, suc, ◌+◌, ◌<◌, ◌≤◌, List, [], ◌∷◌, ◌++◌, length, take, drop, refl, ap, sym, ◌∙◌, arith}
use Rattle.std.specs.Prelude.{slice_index, slice_set}
use Rattle.std.proofs.lemmas.List.{take_more, get_or-take, get_or-drop, get_or-set_other}
use Rattle.draw_model.specs.TargetWords.{words_set}

set_past : (xs : List ℕ) (n v : ℕ) → length xs ≤ n → slice_set xs n v ≡ xs
set_past [] n v h = refl
set_past (x ∷ xs) zero v h = absurd (omega (arith, h))
set_past (x ∷ xs) (suc n) v h = ap (λ (ys : List ℕ). x ∷ ys) (set_past xs n v (omega (arith, h)))

words_set_append : (ws us xs : List ℕ) (place : ℕ) → words_set place (ws ++ us) xs ≡ words_set (place + length ws) us (words_set place ws xs)
words_set_append [] us xs place = ap (λ (n : ℕ). words_set n us xs) (omega arith)
words_set_append (w ∷ ws) us xs place =
    words_set_append ws us (slice_set xs place w) (place + 1)
    ∙ ap (λ (n : ℕ). words_set n us (words_set (place + 1) ws (slice_set xs place w))) (omega arith)

length_take_within : (i : ℕ) (ws : List ℕ) → i ≤ length ws → length (take i ws) ≡ i
length_take_within zero ws h = refl
length_take_within (suc i) [] h = absurd (omega (arith, h))
length_take_within (suc i) (w ∷ ws) h = let k = length_take_within i ws (omega (arith, h)) in omega (arith, k)

pub words_set_more : (place : ℕ) (ws xs : List ℕ) (i : ℕ) → i < length ws →
    words_set place (take (i + 1) ws) xs ≡ slice_set (words_set place (take i ws) xs) (place + i) (slice_index ws i)
words_set_more place ws xs i h =
    ap (λ (us : List ℕ). words_set place us xs) (take_more ws i 0 h)
    ∙ words_set_append (take i ws) (slice_index ws i ∷ []) xs place
    ∙ ap (λ (n : ℕ). slice_set (words_set place (take i ws) xs) (place + n) (slice_index ws i)) (length_take_within i ws (omega (arith, h)))

-- past the end nothing is put in
pub words_set_past : (place : ℕ) (ws xs now : List ℕ) (i : ℕ) → i < length ws → now ≡ words_set place (take i ws) xs → length now ≤ place + i →
    now ≡ words_set place (take (i + 1) ws) xs
words_set_past place ws xs now i h is past =
    sym (set_past now (place + i) (slice_index ws i) past)
    ∙ ap (λ (ys : List ℕ). slice_set ys (place + i) (slice_index ws i)) is
    ∙ sym (words_set_more place ws xs i h)

pub component_within : (words : List ℕ) (place size i : ℕ) → i < size → slice_index words (place + i) ≡ slice_index (take size (drop place words)) i
component_within words place size i h = sym (get_or-take size (drop place words) i 0 h ∙ get_or-drop place words i 0)

pub component_past : (size i : ℕ) (words : List ℕ) → size ≤ i → 0 ≡ slice_index (take size words) i
component_past zero i words h = refl
component_past (suc size) i [] h = refl
component_past (suc size) zero (w ∷ words) h = absurd (omega (arith, h))
component_past (suc size) (suc i) (w ∷ words) h = component_past size i words (omega (arith, h))

-- what is put in in front of a place leaves the word there
pub words_set_front : (ws xs : List ℕ) (place at : ℕ) → place + length ws ≤ at → slice_index (words_set place ws xs) at ≡ slice_index xs at
words_set_front [] xs place at h = refl
words_set_front (w ∷ ws) xs place at h =
    words_set_front ws (slice_set xs place w) (place + 1) at (omega (arith, h)) ∙ get_or-set_other xs place at w 0 (λ same. omega (arith, h, same))

pub length_take_at_most : (i : ℕ) (ws : List ℕ) → length (take i ws) ≤ i
length_take_at_most zero ws = omega arith
length_take_at_most (suc i) [] = omega arith
length_take_at_most (suc i) (w ∷ ws) = let k = length_take_at_most i ws in omega (arith, k)
