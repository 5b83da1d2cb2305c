-- The parts of a text that is cut at each separator.
use Rattle.std.specs.Prelude.{◌≡◌, ℕ, Bool, true, false, ◌==◌, List, [], ◌∷◌, Option, None, Some}
use Rattle.std.specs.List.{slice_split}
use Rattle.std.specs.Borrow.{Bor}
use Rattle.listing_model.specs.Assembly.{lines_in}

-- the parts of a text, cut at each separator
abbrev pub parts_of : ℕ → List ℕ → List (List ℕ)
parts_of separator bytes = slice_split (λ b. b == separator) bytes

-- the parts of a text that are left
abbrev pub parts_left : Option (Bor (List ℕ)) → ℕ → List (List ℕ)
parts_left None separator = []
parts_left (Some rest) separator = parts_of separator rest.now

-- nothing is left
abbrev pub is_done : List (List ℕ) → Bool
is_done [] = true
is_done (part ∷ parts) = false

-- the first part was taken, if one was left
abbrev pub TakesFirst : Option (Bor (List ℕ)) → List (List ℕ) → List (List ℕ) → Type 0
TakesFirst None before after = (before ≡ []) × (after ≡ [])
TakesFirst (Some part) before after = before ≡ part.now ∷ after

-- the first line was taken, if one was left
abbrev pub FirstLine : Option (Bor (List ℕ) × Bool) → List (List ℕ) → List (List ℕ) → Type 0
FirstLine None before after = lines_in before ≡ []
FirstLine (Some line) before after = lines_in before ≡ record { text = line.0.now; ended = line.1 } ∷ lines_in after
