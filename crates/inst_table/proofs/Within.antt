-- A list of different things, all of which stand in another list, weighs no more than that list.
use Rattle.std.proofs.Common.{◌≡◌, ℕ, zero, suc, ◌+◌, ◌<◌, ◌≤◌, ◌≢◌, List, [], ◌∷◌, length, All, Contains, get_or, sym, refl, ap, ◌∙◌, arith}
use mathlib.Core.Logic.{dite}
use native.Mathlib.Decide.{dec_le, ℕ_discrete}
use Rattle.std.proofs.lemmas.List.Elements.{All-head, All-tail}
use Rattle.std.proofs.lemmas.List.{get_or_default}
use Rattle.inst_table.specs.Lawful.{AreDistinct}
use Rattle.inst_table.specs.Units.{total}

module _ {X : Type 0} where
  without : ℕ → List X → List X
  without k [] = []
  without zero (y ∷ ys) = ys
  without (suc k) (y ∷ ys) = y ∷ without k ys

  total-without : (w : X → ℕ) (k : ℕ) (ys : List X) (d : X) → k < length ys → total w ys ≡ w (get_or ys k d) + total w (without k ys)
  unfolding without
  total-without w k [] d h = absurd (omega arith)
  total-without w zero (y ∷ ys) d h = refl
  total-without w (suc k) (y ∷ ys) d h = let e = total-without w k ys d (omega arith) in omega arith

  at_without_low : (k j : ℕ) (ys : List X) (d : X) → j < k → get_or (without k ys) j d ≡ get_or ys j d
  unfolding without
  at_without_low k j [] d h = refl
  at_without_low zero j (y ∷ ys) d h = absurd (omega arith)
  at_without_low (suc k) zero (y ∷ ys) d h = refl
  at_without_low (suc k) (suc j) (y ∷ ys) d h = at_without_low k j ys d (omega arith)

  at_without_high : (k j : ℕ) (ys : List X) (d : X) → k ≤ j → get_or (without k ys) j d ≡ get_or ys (suc j) d
  unfolding without
  at_without_high k j [] d h = refl
  at_without_high zero j (y ∷ ys) d h = refl
  at_without_high (suc k) zero (y ∷ ys) d h = absurd (omega arith)
  at_without_high (suc k) (suc j) (y ∷ ys) d h = at_without_high k j ys d (omega arith)

  length-without : (k : ℕ) (ys : List X) → k < length ys → length ys ≡ suc (length (without k ys))
  unfolding without
  length-without k [] h = absurd (omega arith)
  length-without zero (y ∷ ys) h = refl
  length-without (suc k) (y ∷ ys) h = let e = length-without k ys (omega arith) in omega arith

  within_cases : (ys : List X) (k : ℕ) (y d : X) → k < length ys → Contains ys y → get_or ys k d ≢ y → Contains (without k ys) y
  within_cases ys k y d h c ne =
      let j : ℕ = c.0 in let near : j < length ys = c.1 in let e : get_or ys j y ≡ y = c.2 in
      let long = length-without k ys h in
      dite (dec_le (suc j) k) (λ low. (j, omega arith, at_without_low k j ys y low ∙ e))
      (λ high. dite (ℕ_discrete j k) (λ same. absurd (ne (get_or_default ys k d y h ∙ ap (λ (x : ℕ). get_or ys x y) (sym same) ∙ e)))
      (λ other. pick j k near e long (omega arith)))
    where
      pick : (j k : ℕ) → j < length ys → get_or ys j y ≡ y → length ys ≡ suc (length (without k ys)) → k < j → Contains (without k ys) y
      pick zero k near e long high = absurd (omega arith)
      pick (suc j) k near e long high = (j, omega arith, at_without_high k j ys y (omega arith) ∙ e)

  pub within : (w : X → ℕ) (xs ys : List X) (d : X) → AreDistinct xs d → All (Contains ys) xs → total w xs ≤ total w ys
  within w [] ys d distinct all = omega arith
  within w (x ∷ xs) ys d distinct all =
      let c : Contains ys x = All-head (Contains ys) x xs all in
      let k : ℕ = c.0 in
      let rest : total w xs ≤ total w (without k ys) = within w xs (without k ys) d (λ i j low high. distinct (suc i) (suc j) (omega arith) (omega arith))
      (λ i e h. within_cases ys k (get_or xs i e) x c.1 (All-tail (Contains ys) x xs all i e h)
      (λ same. distinct 0 (suc i) (omega arith) (omega arith) (sym c.2 ∙ same ∙ get_or_default xs i e d h))) in
      let whole : total w ys ≡ w (get_or ys k x) + total w (without k ys) = total-without w k ys x c.1 in
      let first : w (get_or ys k x) ≡ w x = ap w c.2 in
      omega arith

  total-ones : (xs : List X) → total (λ x. 1) xs ≡ length xs
  total-ones [] = refl
  total-ones (x ∷ xs) = let e = total-ones xs in omega arith

  -- it is no longer
  pub shorter : (xs ys : List X) (d : X) → AreDistinct xs d → All (Contains ys) xs → length xs ≤ length ys
  shorter xs ys d distinct all = let a = within (λ x. 1) xs ys d distinct all in let b = total-ones xs in let c = total-ones ys in omega arith
