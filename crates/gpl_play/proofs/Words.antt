-- Lists of one word.
use Rattle.std.proofs.Common.{◌≡◌, ℕ, ◌<◌, ◌≤◌, List, [], ◌∷◌, length, map, get_or, ap, sym, arith}

-- a list of one element, each of them seen as a text
pub one : {X : Type 0} (f : X → List ℕ) (xs : List X) (x : X) → 1 ≤ length xs → length xs < 2 → x ≡ get_or xs 0 x → map f xs ≡ f x ∷ []
one f [] x low high is = absurd (omega arith)
one f (y ∷ []) x low high is = ap (λ z. f z ∷ []) (sym is)
one f (y ∷ z ∷ zs) x low high is = absurd (omega arith)
