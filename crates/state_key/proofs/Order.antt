-- Entries in order, and what is there at a place.
use Rattle.std.proofs.Common.{◌≡◌, ℕ, ◌+◌, ◌-◌, ◌<◌, ◌≤◌, List, [], ◌∷◌, Option, Some, None, IsSome, length, get_or, zero, suc, inl, inr, ◌⊎◌, arith}
use Rattle.std.proofs.lemmas.Bool.{cases_lt}
use Rattle.state_model.specs.Lawful.{present_at}
use Rattle.state_model.specs.Canonical.{Precedes}
use Rattle.state_model.specs.declared.parts.Entry.{Entry}
use Rattle.state_key.specs.Tidy.{PrecedesNext}

pub Precedes-trans : (a b c : Option Entry) → Precedes a b → Precedes b c → Precedes a c
Precedes-trans a b None h k = tt
Precedes-trans None None (Some g) h k = k
Precedes-trans None (Some f) (Some g) h k = h
Precedes-trans (Some e) None (Some g) h k = absurd k
Precedes-trans (Some e) (Some f) (Some g) h k = omega arith

-- the first i are in order
abbrev pub OrderedBelow : List (Option Entry) → ℕ → Type 0
OrderedBelow xs i = (j k : ℕ) (d : Option Entry) → j < k → k < i → Precedes (get_or xs j d) (get_or xs k d)

pub OrderedBelow-more : (xs : List (Option Entry)) (i : ℕ) → 0 < i → OrderedBelow xs i → PrecedesNext xs i → OrderedBelow xs (i + 1)
OrderedBelow-more xs i some below next j k d before within = elim (cases_lt k i) [
  | inl p ↦ below j k d before p
  | inr q ↦ let last : k ≡ i = omega arith in rw last (up_to_last (cases_lt j (i - 1)))
]
  where
    up_to_last : (j < i - 1) ⊎ (i - 1 ≤ j) → Precedes (get_or xs j d) (get_or xs i d)
    up_to_last (inl p) = Precedes-trans (get_or xs j d) (get_or xs (i - 1) d) (get_or xs i d) (below j (i - 1) d p (omega arith)) (next d)
    up_to_last (inr q) = let same : j ≡ i - 1 = omega arith in rw same (next d)

pub within_from_present : {X : Type 0} (xs : List (Option X)) (n : ℕ) → IsSome (present_at xs n) → n < length xs
within_from_present [] n h = cc
within_from_present (x ∷ xs) zero h = omega arith
within_from_present (x ∷ xs) (suc n) h = let rest = within_from_present xs n h in omega arith
