-- The instruction at a place is the first of those that stand from there on.
use Rattle.std.proofs.Common.{◌≡◌, ℕ, zero, suc, ◌+◌, ◌-◌, List, [], ◌∷◌, length, drop, None, Some, refl, ap, sym, ◌∙◌, arith}
use Rattle.std.specs.Prelude.{slice_get}
use Rattle.std.proofs.lemmas.List.{length-drop, drop-drop}

pub front_is : {X : Type 0} (xs : List X) (place : ℕ) → slice_get xs place ≡ slice_get (drop place xs) 0
front_is xs zero = refl
front_is [] (suc place) = refl
front_is (x ∷ xs) (suc place) = front_is xs place

pub record Front {X : Type 0} (xs : List X) (place : ℕ) (x : X) (rest : List X) : Type 0 where
  pub index : slice_get xs place ≡ Some x
  pub long : length xs ≡ place + 1 + length rest
  pub behind : drop (place + 1) xs ≡ rest

longer : (all place more : ℕ) → all - place ≡ suc more → all ≡ place + 1 + more
longer all place more is = omega arith

pub front : {X : Type 0} (xs : List X) (place : ℕ) (x : X) (rest : List X) → drop place xs ≡ x ∷ rest → Front xs place x rest
front xs place x rest is = record {
  index = front_is xs place ∙ ap (λ (l : List _). slice_get l 0) is;
  long = longer (length xs) place (length rest) (sym (length-drop place xs) ∙ ap length is);
  behind = sym (drop-drop 1 place xs) ∙ ap (drop 1) is;
}

pub nothing_at : {X : Type 0} (xs : List X) (place : ℕ) → drop place xs ≡ [] → slice_get xs place ≡ None
nothing_at xs place is = front_is xs place ∙ ap (λ (l : List _). slice_get l 0) is
