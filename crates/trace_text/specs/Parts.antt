-- Several parts of a text that are taken at once.
use Rattle.std.specs.Prelude.{◌≡◌, ℕ, Bool, true, false, List, [], ◌∷◌, Option, None, Some}
use Rattle.std.specs.Borrow.{Bor}

abbrev pub has_two : List (List ℕ) → Bool
has_two (a ∷ b ∷ parts) = true
has_two parts = false

abbrev pub has_three : List (List ℕ) → Bool
has_three (a ∷ b ∷ c ∷ parts) = true
has_three parts = false

abbrev pub has_four : List (List ℕ) → Bool
has_four (a ∷ b ∷ c ∷ d ∷ parts) = true
has_four parts = false

abbrev pub has_five : List (List ℕ) → Bool
has_five (a ∷ b ∷ c ∷ d ∷ e ∷ parts) = true
has_five parts = false

abbrev pub has_six : List (List ℕ) → Bool
has_six (a ∷ b ∷ c ∷ d ∷ e ∷ f ∷ parts) = true
has_six parts = false

abbrev pub has_seven : List (List ℕ) → Bool
has_seven (a ∷ b ∷ c ∷ d ∷ e ∷ f ∷ g ∷ parts) = true
has_seven parts = false

-- the first two parts were taken, if so many were left
abbrev pub TakesTwo : Option (Bor (List ℕ) × Bor (List ℕ)) → List (List ℕ) → List (List ℕ) → Type 0
TakesTwo None before after = has_two before ≡ false
TakesTwo (Some taken) before after = before ≡ taken.0.now ∷ taken.1.now ∷ after

-- the first three parts were taken, if so many were left
abbrev pub TakesThree : Option (Bor (List ℕ) × Bor (List ℕ) × Bor (List ℕ)) → List (List ℕ) → List (List ℕ) → Type 0
TakesThree None before after = has_three before ≡ false
TakesThree (Some taken) before after = before ≡ taken.0.now ∷ taken.1.now ∷ taken.2.now ∷ after

-- the first four parts were taken, if so many were left
abbrev pub TakesFour : Option (Bor (List ℕ) × Bor (List ℕ) × Bor (List ℕ) × Bor (List ℕ)) → List (List ℕ) → List (List ℕ) → Type 0
TakesFour None before after = has_four before ≡ false
TakesFour (Some taken) before after = before ≡ taken.0.now ∷ taken.1.now ∷ taken.2.now ∷ taken.3.now ∷ after

-- the first five parts were taken, if so many were left
abbrev pub TakesFive : Option (Bor (List ℕ) × Bor (List ℕ) × Bor (List ℕ) × Bor (List ℕ) × Bor (List ℕ)) → List (List ℕ) → List (List ℕ) → Type 0
TakesFive None before after = has_five before ≡ false
TakesFive (Some taken) before after = before ≡ taken.0.now ∷ taken.1.now ∷ taken.2.now ∷ taken.3.now ∷ taken.4.now ∷ after

-- the first six parts were taken, if so many were left
abbrev pub TakesSix : Option (Bor (List ℕ) × Bor (List ℕ) × Bor (List ℕ) × Bor (List ℕ) × Bor (List ℕ) × Bor (List ℕ)) → List (List ℕ) → List (List ℕ) → Type 0
TakesSix None before after = has_six before ≡ false
TakesSix (Some taken) before after = before ≡ taken.0.now ∷ taken.1.now ∷ taken.2.now ∷ taken.3.now ∷ taken.4.now ∷ taken.5.now ∷ after

-- the first seven parts were taken, if so many were left
abbrev pub TakesSeven : Option (Bor (List ℕ) × Bor (List ℕ) × Bor (List ℕ) × Bor (List ℕ) × Bor (List ℕ) × Bor (List ℕ) × Bor (List ℕ)) → List (List ℕ) → List (List ℕ) → Type 0
TakesSeven None before after = has_seven before ≡ false
TakesSeven (Some taken) before after = before ≡ taken.0.now ∷ taken.1.now ∷ taken.2.now ∷ taken.3.now ∷ taken.4.now ∷ taken.5.now ∷ taken.6.now ∷ after

-- nothing is left
abbrev pub is_empty : List (List ℕ) → Bool
is_empty [] = true
is_empty (part ∷ parts) = false

-- whether nothing is left
abbrev pub IsDone : Bool → List (List ℕ) → Type 0
IsDone true before = before ≡ []
IsDone false before = is_empty before ≡ false
