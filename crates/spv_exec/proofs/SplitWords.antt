-- Words that are copied from in front of a place to what stands there.
use Rattle.std.proofs.Common.{◌≡◌, ℕ, ◌+◌, ◌-◌, ◌≤◌, List, ◌++◌, length, take, drop, ap, sym, ◌∙◌, arith, length-drop}
use Rattle.std.proofs.lemmas.List.{take-take, drop-take, length-take-le}
use Rattle.frame_model.specs.Shown.{words_at}
use Rattle.frame_model.specs.Written.{written}
use Rattle.frame_model.proofs.WrittenWords.{length_words_at, length_written, written_front, written_into}

-- words in front of a place
pub front_words : (frame : List ℕ) (at from count : ℕ) → from + count ≤ at → words_at (take at frame) from count ≡ words_at frame from count
front_words frame at from count before =
    let e : from + (at - from) ≡ at = omega (arith, before) in
    ap (λ (n : ℕ). take count (drop from (take n frame))) (sym e) ∙ (ap (take count) (drop-take from (at - from) frame) ∙ take-take count (at - from) (drop from frame) (omega (arith, before)))

-- a list in two parts, the second of which begins at a place
pub record IsSplit (frame front back : List ℕ) (at : ℕ) : Type 0 where
  pub front_is : front ≡ take at frame
  pub back_is : back ≡ drop at frame
  pub within : at ≤ length frame

-- what is written at the front of the second part is written at the place
pub split_written : (frame front back to : List ℕ) (at : ℕ) (words : List ℕ) → IsSplit frame front back at → to ≡ written back 0 words → front ++ to ≡ written frame at words
split_written frame front back to at words s is =
    ap (λ (l : List ℕ). front ++ l) (is ∙ ap (λ (l : List ℕ). written l 0 words) s.back_is) ∙ (ap (λ (l : List ℕ). l ++ written (drop at frame) 0 words) s.front_is ∙ written_front frame at words)

pub split_lengths : (frame front back : List ℕ) (at : ℕ) → IsSplit frame front back at → (length front ≡ at) × (length back + at ≡ length frame)
split_lengths frame front back at s =
    let f = ap length s.front_is ∙ length-take-le at frame s.within in let b = ap length s.back_is ∙ length-drop at frame in let w = s.within in
    (f, omega (arith, b, w))

-- words are copied
pub copied_front : (frame front back to : List ℕ) (at from count : ℕ) (words : List ℕ) → IsSplit frame front back at → at + count ≤ length frame → from + count ≤ at
    → (from + count ≤ length front → 0 + count ≤ length back → to ≡ written back 0 (words_at front from count)) → words ≡ words_at frame from count → front ++ to ≡ written frame at words
copied_front frame front back to at from count words s room before copied are =
    let l = split_lengths frame front back at s in let f = l.0 in let b = l.1 in
    let is = copied (omega (arith, before, f)) (omega (arith, room, b)) in
    let here : words_at front from count ≡ words = ap (λ (l : List ℕ). words_at l from count) s.front_is ∙ (front_words frame at from count before ∙ sym are) in
    split_written frame front back to at words s (is ∙ ap (written back 0) here)

-- words are copied, and others over a part of them
pub copied_over : (frame front back first to : List ℕ) (at from count other more start : ℕ) (words : List ℕ) → IsSplit frame front back at → at + count ≤ length frame → from + count ≤ at → other + more ≤ at → start + more ≤ count
    → (from + count ≤ length front → 0 + count ≤ length back → first ≡ written back 0 (words_at front from count)) → (other + more ≤ length front → start + more ≤ length first → to ≡ written first start (words_at front other more))
    → words ≡ written (words_at frame from count) start (words_at frame other more) → front ++ to ≡ written frame at words
copied_over frame front back first to at from count other more start words s room before also fits copied over are =
    let l = split_lengths frame front back at s in let f = l.0 in let b = l.1 in
    let whole : List ℕ = words_at frame from count in let object : List ℕ = words_at frame other more in
    let whole_long : length whole ≡ count = length_words_at frame from count (omega (arith, room, before)) in
    let object_long : length object ≡ more = length_words_at frame other more (omega (arith, room, also)) in
    let whole_is : words_at front from count ≡ whole = ap (λ (l : List ℕ). words_at l from count) s.front_is ∙ front_words frame at from count before in
    let object_is : words_at front other more ≡ object = ap (λ (l : List ℕ). words_at l other more) s.front_is ∙ front_words frame at other more also in
    let first_is : first ≡ written back 0 whole = copied (omega (arith, before, f)) (omega (arith, room, b)) ∙ ap (written back 0) whole_is in
    let first_long : length first ≡ length back = ap length first_is ∙ length_written back whole 0 (omega (arith, whole_long, room, b)) in
    let to_is : to ≡ written first start object = over (omega (arith, also, f)) (omega (arith, fits, first_long, room, b)) ∙ ap (written first start) object_is in
    let into = written_into back whole object start (omega (arith, whole_long, room, b)) (omega (arith, fits, whole_long, object_long)) in
    split_written frame front back to at words s (to_is ∙ (ap (λ (l : List ℕ). written l start object) first_is ∙ (into ∙ ap (written back 0) (sym are))))
