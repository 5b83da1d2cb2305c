-- A list of views, read by `get_elem?`.
use Rattle.std.proofs.Common.{◌≡◌, ℕ, zero, suc, ◌<◌, List, [], ◌∷◌, length, get_or, set, refl, sym, arith}
use mathlib.Core.Option.{some, some-injective, some-ne-none}
use lib.ListN.{get_elem?}

module _ {A : Type 0} where
  -- what was written over an element stands there
  pub set_at : (l : List A) (i : ℕ) (a b : A) → get_elem? l i ≡ some b → get_elem? (set l i a) i ≡ some a
  set_at [] i a b e = absurd (some-ne-none b (sym e))
  set_at (x ∷ xs) zero a b e = refl
  set_at (x ∷ xs) (suc i) a b e = set_at xs i a b e

  -- an element stands within the list, where `get_or` finds it too
  pub within : (l : List A) (i : ℕ) (b : A) → get_elem? l i ≡ some b → i < length l
  within [] i b e = absurd (some-ne-none b (sym e))
  within (x ∷ xs) zero b e = omega arith
  within (x ∷ xs) (suc i) b e = omega (arith, within xs i b e)

  pub get_or_at : (l : List A) (i : ℕ) (b : A) → get_elem? l i ≡ some b → get_or l i b ≡ b
  get_or_at [] i b e = absurd (some-ne-none b (sym e))
  get_or_at (x ∷ xs) zero b e = some-injective x b e
  get_or_at (x ∷ xs) (suc i) b e = get_or_at xs i b e
