-- The remainder that has the divisor's sign, by the one that is never negative.
use Rattle.std.proofs.Common.{◌≡◌, ℕ, zero, suc, ◌+◌, ◌-◌, ◌%◌, ◌<◌, ◌≤◌, ◌⊎◌, inl, inr, refl, arith, ap, ◌∙◌, ℤ, pos, negsuc, ◌+ℤ◌, neg_ℤ, ◌<ℤ◌, ◌≤ℤ◌, ◌≢◌}
use Rattle.std.proofs.lemmas.Int.{ints}
use Rattle.std.proofs.Math.Nat.{suc-mod, mod_self, mod-lt, mod-eq_of_lt, zero-mod, eq-or-lt_of_le}
use Rattle.std.specs.Int.{int_rem_euclid}
use Rattle.scalar_model.specs.Scalars.{modulo}

-- how far a number is above one multiple of n + 1, and how far below another: nothing, or together n + 1
abbrev Distances : (above below n : ℕ) → Type 0
Distances above below n = ((above ≡ 0) × (below ≡ 0)) ⊎ ((above + below ≡ suc n) × (above < suc n) × (below < suc n))

distances_from : (n r next : ℕ) → r < suc n → next ≡ suc r % suc n → Distances next (suc n - 1 - r) n
distances_from n r next h e = let most : r ≤ n = omega arith in elim (eq-or-lt_of_le most) [
  | inr less ↦ let small : next ≡ suc r = e ∙ mod-eq_of_lt (omega arith) in inr (omega arith, omega arith, omega arith)
  | inl last ↦ inl (e ∙ ap (λ k. suc k % suc n) last ∙ mod_self (suc n), omega arith)
]

distances : (x n : ℕ) → Distances (suc x % suc n) (suc n - 1 - x % suc n) n
distances x n = distances_from n (x % suc n) (suc x % suc n) (mod-lt x (omega arith)) (suc-mod x (suc n))

turned : (p q n : ℕ) → Distances p q n → Distances q p n
turned p q n (inl z) = inl (z.1, z.0)
turned p q n (inr e) = inr (omega (arith, e.0), e.2, e.1)

at_zero : (p q n : ℕ) → Distances p q n → pos p ≡ pos 0 → neg_ℤ (pos q) ≡ pos 0
at_zero p q n (inl z) h = omega (arith, ints, z.1)
at_zero p q n (inr e) h = absurd (omega (arith, ints, e.0, e.2, h))

below : (p q n : ℕ) → Distances p q n → pos p ≢ pos 0 → neg_ℤ (pos q) ≡ pos p +ℤ negsuc n
below p q n (inl z) h = absurd (h (ap pos z.0))
below p q n (inr e) h = omega (arith, ints, e.0, e.1, e.2)

pub modulo_above : (a d : ℤ) → pos 0 <ℤ d → modulo a d ≡ int_rem_euclid a d
modulo_above a (pos n) h = refl
modulo_above a (negsuc n) h = absurd h.lt

pub modulo_at_zero : (a d : ℤ) → int_rem_euclid a d ≡ pos 0 → modulo a d ≡ pos 0
modulo_at_zero a (pos n) h = h
modulo_at_zero (pos zero) (negsuc n) h = at_zero _ _ n (inl (zero-mod (suc n), zero-mod (suc n))) h
modulo_at_zero (pos (suc x)) (negsuc n) h = at_zero _ _ n (distances x n) h
modulo_at_zero (negsuc x) (negsuc n) h = at_zero _ _ n (turned _ _ n (distances x n)) h

pub modulo_below : (a d : ℤ) → d ≤ℤ pos 0 → d ≢ pos 0 → int_rem_euclid a d ≢ pos 0 → modulo a d ≡ int_rem_euclid a d +ℤ d
modulo_below a (pos n) h k e = absurd (k (omega (arith, ints)))
modulo_below (pos zero) (negsuc n) h k e = below _ _ n (inl (zero-mod (suc n), zero-mod (suc n))) e
modulo_below (pos (suc x)) (negsuc n) h k e = below _ _ n (distances x n) e
modulo_below (negsuc x) (negsuc n) h k e = below _ _ n (turned _ _ n (distances x n)) e
