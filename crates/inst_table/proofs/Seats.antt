-- At most one seat of a kind, as seats are changed and added.
use Rattle.std.proofs.Common.{◌≡◌, ℕ, zero, suc, ◌≢◌, ◌⊎◌, List, [], ◌∷◌, ◌++◌, length, set, sym, refl, ap, ◌∙◌, subst, inl, inr, ⊎_elim}
use mathlib.Core.Option.{some, some-injective, some-ne-none}
use lib.ListN.{get_elem?}
use Rattle.atomic_table.proofs.Lists.{at_set}

module _ {A : Type 0} where
  pub at_end : (l : List A) (a b : A) (j : ℕ) → get_elem? (l ++ a ∷ []) j ≡ some b → (get_elem? l j ≡ some b) ⊎ ((j ≡ length l) × (a ≡ b))
  at_end [] a b zero e = inr (refl, some-injective a b e)
  at_end [] a b (suc j) e = absurd (some-ne-none b (sym e))
  at_end (x ∷ xs) a b zero e = inl e
  at_end (x ∷ xs) a b (suc j) e = ⊎_elim (λ t. inl t) (λ t. inr (ap suc t.0, t.1)) (at_end xs a b j e)

  abbrev pub IsAlone : (A → Type 0) → List A → Type 0
  IsAlone P xs = (i j : ℕ) (v w : A) → get_elem? xs i ≡ some v → get_elem? xs j ≡ some w → P v → P w → i ≡ j

  -- the seat i goes from u to a, which is of the kind only where u is
  pub IsAlone-set : (P : A → Type 0) (xs : List A) (i : ℕ) (u a : A) → get_elem? xs i ≡ some u → (P a → P u) → IsAlone P xs → IsAlone P (set xs i a)
  IsAlone-set P xs i u a at back one j k v w ev ew pv pw = ⊎_elim
      (λ t. ⊎_elim (λ r. t.0 ∙ sym r.0) (λ r. t.0 ∙ one i k u w at r.1 (back (subst P (sym t.1) pv)) pw) (at_set xs i k a w ew))
      (λ t. ⊎_elim (λ r. one j i v u t.1 at pv (back (subst P (sym r.1) pw)) ∙ sym r.0) (λ r. one j k v w t.1 r.1 pv pw) (at_set xs i k a w ew))
      (at_set xs i j a v ev)

  -- a new seat that isn't of the kind
  pub IsAlone-push : (P : A → Type 0) (xs : List A) (a : A) → (P a → ⊥) → IsAlone P xs → IsAlone P (xs ++ a ∷ [])
  IsAlone-push P xs a not one j k v w ev ew pv pw = ⊎_elim
      (λ t. ⊎_elim (λ r. one j k v w t r pv pw) (λ r. absurd (not (subst P (sym r.1) pw))) (at_end xs a w k ew))
      (λ t. absurd (not (subst P (sym t.1) pv)))
      (at_end xs a v j ev)

  -- a new seat takes over from the seat i
  pub IsAlone-over : (P : A → Type 0) (xs : List A) (i : ℕ) (u l r : A) → get_elem? xs i ≡ some u → (P l → ⊥) → (P r → P u) → IsAlone P xs → IsAlone P (set xs i l ++ r ∷ [])
  IsAlone-over P xs i u l r at not back one j k v w ev ew pv pw =
      let other : (m : ℕ) (x : A) → get_elem? (set xs i l) m ≡ some x → P x → (m ≢ i) × (get_elem? xs m ≡ some x) =
      λ m x e p. ⊎_elim (λ t. absurd (not (subst P (sym t.1) p))) (λ t. t) (at_set xs i m l x e) in
      ⊎_elim
      (λ t. let o = other j v t pv in ⊎_elim (λ q. one j k v w o.1 (other k w q pw).1 pv pw)
      (λ q. absurd (o.0 (one j i v u o.1 at pv (back (subst P (sym q.1) pw))))) (at_end (set xs i l) r w k ew))
      (λ t. ⊎_elim (λ q. let o = other k w q pw in absurd (o.0 (one k i w u o.1 at pw (back (subst P (sym t.1) pv)))))
      (λ q. t.0 ∙ sym q.0) (at_end (set xs i l) r w k ew))
      (at_end (set xs i l) r v j ev)
