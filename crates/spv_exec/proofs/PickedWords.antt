-- Words that are written one by one, and those that literals pick of two vectors.
use Rattle.std.proofs.Common.{◌≡◌, ℕ, ◌+◌, ◌-◌, ◌<◌, ◌≤◌, ◌^◌, ◌==◌, ◌||◌, Bool, true, false, nat_lt, if◌then◌else◌, List, [], ◌∷◌, ◌++◌, length, map, take, drop, set, replicate, slice_index, refl, ap, sym, ◌∙◌, arith}
use Rattle.std.specs.List.{list_all}
use Rattle.std.proofs.lemmas.Bool.{ltb-true}
use Rattle.std.proofs.lemmas.Bool.Decides.{nat_tests}
use Rattle.std.proofs.lemmas.List.{map_more, replicate_more, length-map, length-replicate, length-take-le, get_or_append_left, get_or-append_right, get_or-take, get_or-drop}
use Rattle.basics.proofs.Bools.{first_of_both, second_of_both}
use Rattle.check_model.specs.CompositeOperands.{no_component}
use Rattle.frame_model.specs.Shown.{words_at}
use Rattle.frame_model.specs.Written.{written}
use Rattle.frame_model.proofs.VectorWords.{picked}
use Rattle.frame_model.proofs.WrittenWords.{written_push, length_words_at}
use Rattle.spv_exec.specs.declared.composites.Vectors.{Vectors}
use Rattle.spv_exec.specs.Composites.{picked_of}

-- ---- loops

-- one zero more
pub cleared_more : (before to : List ℕ) (k : ℕ) → to ≡ written before 0 (replicate k 0) → k < length before → set to k 0 ≡ written before 0 (replicate (k + 1) 0)
cleared_more before to k is less =
    let zero_word : ℕ = 0 in let long : length (replicate k zero_word) ≡ k = length-replicate k zero_word in
    ap (λ (l : List ℕ). set l k 0) is ∙ (written_push before 0 (replicate k 0) 0 k (omega (arith, long)) less ∙ ap (written before 0) (replicate_more k 0))

-- one word more
pub picked_more : (f : ℕ → ℕ) (literals before to : List ℕ) (k word : ℕ) → to ≡ written before 0 (map f (take k literals)) → k < length literals → length literals ≤ length before → word ≡ f (slice_index literals k)
    → set to k word ≡ written before 0 (map f (take (k + 1) literals))
picked_more f literals before to k word is less room same =
    let new : List ℕ = map f (take k literals) in
    let long : length new ≡ k = length-map (take k literals) f ∙ length-take-le k literals (omega (arith, less)) in
    ap (λ (l : List ℕ). set l k word) is ∙ (written_push before 0 new word k (omega (arith, long)) (omega (arith, less, room))
    ∙ (ap (λ (w : ℕ). written before 0 (new ++ w ∷ [])) same ∙ ap (written before 0) (sym (map_more f literals k 0 less))))

-- ---- two vectors

-- a word of a part of a list, and of its front
word_in : (words : List ℕ) (place count k : ℕ) → k < count → slice_index (words_at words place count) k ≡ slice_index words (place + k)
word_in words place count k less = get_or-take count (drop place words) k 0 less ∙ get_or-drop place words k 0

picked_word : (frame : List ℕ) (at : ℕ) (of : Vectors) (count literal : ℕ) → at ≤ length frame → of.first + of.count ≤ at → of.second + count ≤ at → (nat_lt literal (of.count + count) || (literal == no_component)) ≡ true
    → picked_of (take at frame) of literal ≡ picked (words_at frame of.first of.count ++ words_at frame of.second count) literal
picked_word frame at of count literal room first second fit = by_test (literal == 2 ^ 32 - 1) (nat_lt literal of.count) refl refl (or_first (nat_lt literal (of.count + count)) fit)
  where
    a : List ℕ
    a = words_at frame of.first of.count

    b : List ℕ
    b = words_at frame of.second count

    or_first : (x : Bool) → (x || (literal == no_component)) ≡ true → literal == 2 ^ 32 - 1 ≡ false → x ≡ true
    or_first true is isnt = refl
    or_first false is isnt = cc

    long : length a ≡ of.count
    long = length_words_at frame of.first of.count (omega (arith, room, first))

    in_first : literal < of.count → slice_index (take at frame) (of.first + literal) ≡ slice_index (a ++ b) literal
    in_first less =
        get_or-take at frame (of.first + literal) 0 (omega (arith, less, first))
        ∙ (sym (word_in frame of.first of.count literal less) ∙ sym (get_or_append_left a b 0 literal (let l = long in omega (arith, less, l))))

    in_second : of.count ≤ literal → literal < of.count + count → slice_index (take at frame) (of.second + (literal - of.count)) ≡ slice_index (a ++ b) literal
    in_second past less =
        get_or-take at frame (of.second + (literal - of.count)) 0 (omega (arith, past, less, second))
        ∙ (sym (word_in frame of.second count (literal - of.count) (omega (arith, past, less))) ∙ sym (get_or-append_right a b of.count literal 0 long past))

    by_test : (none early : Bool) → (literal == 2 ^ 32 - 1) ≡ none → nat_lt literal of.count ≡ early → (literal == 2 ^ 32 - 1 ≡ false → nat_lt literal (of.count + count) ≡ true)
        → (if none then 0 else if early then slice_index (take at frame) (of.first + literal) else slice_index (take at frame) (of.second + (literal - of.count))) ≡ (if none then 0 else slice_index (a ++ b) literal)
    by_test true early is so fits = refl
    by_test false true is so fits = in_first (ltb-true literal of.count so)
    by_test false false is so fits = in_second (not_less literal of.count so) (ltb-true literal (of.count + count) (fits is))
      where
        not_less : (x y : ℕ) → nat_lt x y ≡ false → y ≤ x
        not_less x y is = grind (arith, nat_tests)

-- the words that literals pick of what stands in front of a place
pub picked_front : (frame : List ℕ) (at : ℕ) (of : Vectors) (count : ℕ) (literals : List ℕ) → at ≤ length frame → of.first + of.count ≤ at → of.second + count ≤ at
    → list_all (λ literal. nat_lt literal (of.count + count) || (literal == no_component)) literals ≡ true
    → map (picked_of (take at frame) of) literals ≡ map (picked (words_at frame of.first of.count ++ words_at frame of.second count)) literals
picked_front frame at of count [] room first second fit = refl
picked_front frame at of count (literal ∷ literals) room first second fit =
    let fits : ℕ → Bool = λ literal. nat_lt literal (of.count + count) || (literal == no_component) in
    let here = picked_word frame at of count literal room first second (first_of_both (fits literal) (list_all fits literals) fit) in
    let rest = picked_front frame at of count literals room first second (second_of_both (fits literal) (list_all fits literals) fit) in
    ap (λ (w : ℕ). w ∷ map (picked_of (take at frame) of) literals) here ∙ ap (λ (l : List ℕ). picked (words_at frame of.first of.count ++ words_at frame of.second count) literal ∷ l) rest
