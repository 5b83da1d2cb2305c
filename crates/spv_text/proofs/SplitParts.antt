-- The first part of a text that is cut at a separator.
use Rattle.std.proofs.Common.{◌≡◌, ℕ, ◌+◌, ◌≤◌, Bool, true, false, cond, List, [], ◌∷◌, length, take, drop, Option, is_some, not, ◌==◌, refl, ap, ◌∙◌, arith, None, Some}
use Rattle.std.specs.List.{slice_split, position, position_or_len}
use Rattle.std.proofs.lemmas.List.Splits.{slice_split_first, slice_split_none, length-slice_split}
use Rattle.std.specs.Borrow.{Bor}
use Rattle.spv_text.specs.Parts.{is_done, parts_left}
use Rattle.std.proofs.lemmas.List.Sums.{count_by-le-length, fails_before_first}
use Rattle.std.proofs.lemmas.Bool.Decides.{nat_tests}
use borrow.Author.Tests.{ltb-true}

found_at : (b : Bool) (m i : ℕ) → cond b (Some m) None ≡ Some i → (b ≡ true) × (m ≡ i)
found_at true m i h = (refl, cc)
found_at false m i h = cc

not_found : (b : Bool) (m : ℕ) → cond b (Some m) None ≡ None → b ≡ false
not_found true m h = cc
not_found false m h = refl

pub split_at_place : (p : ℕ → Bool) (xs : List ℕ) (i : ℕ) → position p xs ≡ Some i → slice_split p xs ≡ take i xs ∷ slice_split p (drop (i + 1) xs)
split_at_place p xs i h =
    let f = found_at _ (position_or_len p xs) i h in
    slice_split_first p xs 0 (ltb-true _ _ f.0) ∙ ap (λ (n : ℕ). take n xs ∷ slice_split p (drop (n + 1) xs)) f.1

pub split_nowhere : (p : ℕ → Bool) (xs : List ℕ) → position p xs ≡ None → slice_split p xs ≡ xs ∷ []
split_nowhere p xs h =
    let past : length xs ≤ position_or_len p xs = grind (arith, nat_tests, not_found _ (position_or_len p xs) h) in
    slice_split_none p xs (λ k d below. fails_before_first p xs k d (omega arith))

some_left : (parts : List (List ℕ)) → 1 ≤ length parts → false ≡ is_done parts
some_left [] h = absurd (omega (arith, h))
some_left (part ∷ parts) h = refl

not_some : (b : Bool) → true ≡ not b → b ≡ false
not_some true h = cc
not_some false h = refl

not_none : (b : Bool) → false ≡ not b → b ≡ true
not_none true h = refl
not_none false h = cc

pub done_is : (b : Bool) (rest : Option (Bor (List ℕ))) (separator : ℕ) → is_some rest ≡ not b → b ≡ is_done (parts_left rest separator)
done_is b None separator h = not_none b h
done_is b (Some bytes) separator h =
    not_some b h ∙ some_left (slice_split (λ c. c == separator) bytes.now) (omega (arith, length-slice_split (λ c. c == separator) bytes.now))

-- there is at most one part more than bytes
pub parts_few : (p : ℕ → Bool) (xs : List ℕ) → length (slice_split p xs) ≤ length xs + 1
parts_few p xs = omega (arith, length-slice_split p xs, count_by-le-length p xs)
