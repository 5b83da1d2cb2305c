-- An array that is filled place by place.
use Rattle.std.proofs.Common.{◌≡◌, ℕ, suc, ◌-◌, ◌<◌, ◌≤◌, List, [], ◌∷◌, ◌++◌, Option, None, Some, length, replicate, get_or, refl, ap, ◌∙◌, arith}
use Rattle.std.specs.Prelude.{map, slice_get}
use Rattle.std.specs.Option.{option_and_then, option_map}
use Rattle.std.proofs.lemmas.Option.{slice_get-map}
use Rattle.state_model.specs.Lawful.{present_at}
use Rattle.trace_model.specs.LibraryLines.{filled_up}

abbrev gone : (X : Type 0) → Option X
gone X = None

both : {A : Type 0} (a b : A) (xs ys : List A) → a ≡ b → xs ≡ ys → a ∷ xs ≡ b ∷ ys
both a b xs ys p q = cc

place_by_place : {X : Type 0} (places xs : List (Option X)) → length places ≤ length xs
    → ((k : ℕ) → k < length xs → get_or xs k None ≡ present_at places k) → xs ≡ places ++ replicate (length xs - length places) None
place_by_place {X} [] [] few each = refl
place_by_place {X} (p ∷ places) [] few each = absurd (omega (arith, few))
place_by_place {X} [] (x ∷ xs) few each =
    both x None xs (replicate (length xs - 0) None) (each 0 (omega arith)) (place_by_place [] xs (omega arith) (λ k within. each (suc k) (omega arith)))
    ∙ ap (λ (n : ℕ). replicate n (gone X)) (arithmetic (length xs))
  where
    arithmetic : (n : ℕ) → suc (n - 0) ≡ suc n - 0
    arithmetic n = omega arith
place_by_place {X} (p ∷ places) (x ∷ xs) few each =
    both x p xs (places ++ replicate (length xs - length places) None) (each 0 (omega arith))
    (place_by_place places xs (omega (arith, few)) (λ k within. each (suc k) (omega arith)))
    ∙ ap (λ (n : ℕ). p ∷ (places ++ replicate n (gone X))) (arithmetic (length xs) (length places))
  where
    arithmetic : (n m : ℕ) → n - m ≡ suc n - suc m
    arithmetic n m = omega arith

pub filled-is : {X : Type 0} (places xs : List (Option X)) (count : ℕ) → length places ≤ count → length xs ≡ count
    → ((k : ℕ) (d : Option X) → k < count → get_or xs k d ≡ present_at places k) → xs ≡ filled_up count places
filled-is {X} places xs count few long each =
    place_by_place places xs (omega (arith, few, long)) (λ k within. each k None (omega (arith, within, long)))
    ∙ ap (λ (n : ℕ). places ++ replicate (n - length places) (gone X)) long

pub filled-full : {X : Type 0} (places : List (Option X)) (count : ℕ) → length places ≡ count → filled_up count places ≡ places
filled-full {X} places count long =
    let none : count - length places ≡ 0 = omega (arith, long) in
    ap (λ (n : ℕ). places ++ replicate n (gone X)) none ∙ no_more places
  where
    no_more : (xs : List (Option X)) → xs ++ [] ≡ xs
    no_more [] = refl
    no_more (x ∷ xs) = ap (λ ys. x ∷ ys) (no_more xs)

-- places that are all there
pub present-some : {X : Type 0} (xs : List X) (k : ℕ) → present_at (map Some xs) k ≡ slice_get xs k
present-some {X} xs k = ap (option_and_then (λ (o : Option X). o)) (slice_get-map (λ (x : X). Some x) xs k) ∙ by_item (slice_get xs k)
  where
    by_item : (o : Option X) → option_and_then (λ (o : Option X). o) (option_map Some o) ≡ o
    by_item None = refl
    by_item (Some x) = refl

pub ruleset full = (filled-full)
