-- Lists with one more element, and with one element replaced.
use Rattle.std.proofs.Common.{◌≡◌, ℕ, zero, suc, ◌+◌, ◌<◌, ◌≢◌, List, [], ◌∷◌, ◌++◌, length, get_or, set, sym, refl, ap, ◌∙◌, subst, arith}
use mathlib.Core.Logic.{dite}
use native.Mathlib.Decide.{ℕ_discrete}
use Rattle.inst_table.specs.Lawful.{AreDistinct}

pub other : (ws : List ℕ) (i j new : ℕ) → j ≢ i → get_or {A = ℕ} (set ws i new) j 0 ≡ get_or ws j 0
other [] i j new ne = refl
other (w ∷ ws) zero zero new ne = absurd (ne refl)
other (w ∷ ws) zero (suc j) new ne = refl
other (w ∷ ws) (suc i) zero new ne = refl
other (w ∷ ws) (suc i) (suc j) new ne = other ws i j new (λ e. ne (ap suc e))

pub here : (ws : List ℕ) (i new : ℕ) → i < length ws → get_or {A = ℕ} (set ws i new) i 0 ≡ new
here [] i new h = absurd (omega arith)
here (w ∷ ws) zero new h = refl
here (w ∷ ws) (suc i) new h = here ws i new (omega arith)

module _ {X : Type 0} where
  pub at_left : (xs ys : List X) (i : ℕ) (d : X) → i < length xs → get_or (xs ++ ys) i d ≡ get_or xs i d
  at_left [] ys i d h = absurd (omega arith)
  at_left (x ∷ xs) ys zero d h = refl
  at_left (x ∷ xs) ys (suc i) d h = at_left xs ys i d (omega arith)

  pub at_right : (xs ys : List X) (i : ℕ) (d : X) → get_or (xs ++ ys) (length xs + i) d ≡ get_or ys i d
  at_right [] ys i d = let e : 0 + i ≡ i = omega arith in ap (λ (k : ℕ). get_or ys k d) e
  at_right (x ∷ xs) ys i d = let e : suc (length xs) + i ≡ suc (length xs + i) = omega arith in ap (λ (k : ℕ). get_or (x ∷ xs ++ ys) k d) e ∙ at_right xs ys i d

  pub at_push : (xs : List X) (x d : X) → get_or (xs ++ x ∷ []) (length xs) d ≡ x
  at_push [] x d = refl
  at_push (y ∷ xs) x d = at_push xs x d

  pub length-push : (xs : List X) (x : X) → length (xs ++ x ∷ []) ≡ length xs + 1
  length-push [] x = refl
  length-push (y ∷ xs) x = let e = length-push xs x in omega arith

  -- what holds of each place, and of one more
  pub each-push : (P : X → ℕ → Type 0) (xs : List X) (x d : X) → ((i : ℕ) → i < length xs → P (get_or xs i d) i) → P x (length xs) → (i : ℕ) → i < length xs + 1 → P (get_or (xs ++ x ∷ []) i d) i
  each-push P xs x d old new i h = dite (ℕ_discrete i (length xs))
      (λ e. subst (λ (k : ℕ). P (get_or (xs ++ x ∷ []) k d) k) (sym e) (subst (λ (y : X). P y (length xs)) (sym (at_push xs x d)) new))
      (λ ne. let near : i < length xs = omega arith in subst (λ (y : X). P y i) (sym (at_left xs (x ∷ []) i d near)) (old i near))

  pub AreDistinct-push : (xs : List X) (x d : X) → ((i : ℕ) → i < length xs → get_or xs i d ≢ x) → AreDistinct xs d → AreDistinct (xs ++ x ∷ []) d
  AreDistinct-push xs x d new old i j low high e =
      let long = length-push xs x in
      let near : i < length xs = omega arith in
      let first : get_or (xs ++ x ∷ []) i d ≡ get_or xs i d = at_left xs (x ∷ []) i d near in
      dite (ℕ_discrete j (length xs))
      (λ last. new i near (sym first ∙ e ∙ ap (λ (k : ℕ). get_or (xs ++ x ∷ []) k d) last ∙ at_push xs x d))
      (λ ne. let under : j < length xs = omega arith in old i j low under (sym first ∙ e ∙ at_left xs (x ∷ []) j d under))
