-- The parts of a text, and taking them one by one.
use Rattle.std.specs.Prelude.{◌≡◌, ℕ, ◌==◌, List, [], ◌∷◌, Option, None, Some}
use Rattle.std.specs.List.{slice_split}
use Rattle.std.specs.Borrow.{Bor}

-- the parts of a text, cut at each separator
abbrev pub parts_of : ℕ → List ℕ → List (List ℕ)
parts_of separator bytes = slice_split (λ b. b == separator) bytes

-- the parts of a text that are left
abbrev pub parts_left : Option (Bor (List ℕ)) → ℕ → List (List ℕ)
parts_left None separator = []
parts_left (Some rest) separator = parts_of separator rest.now

-- the first part was taken, if one was left
abbrev pub TakesFirst : Option (Bor (List ℕ)) → List (List ℕ) → List (List ℕ) → Type 0
TakesFirst None before after = (before ≡ []) × (after ≡ [])
TakesFirst (Some part) before after = before ≡ part.now ∷ after
