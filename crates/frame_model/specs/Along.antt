-- Pointers along indices, as words of a frame.
use Rattle.std.specs.Prelude.{◌≡◌, ℕ, ◌+◌, List, [], ◌∷◌, slice_index, Option, None, Some}
use Rattle.valid_model.specs.Definitions.{definition}
use Rattle.stage_model.specs.Value.{Layout, OneTruth, OneWord, Several, part_along}
use Rattle.stage_model.specs.Program.{Program}
use Rattle.frame_model.specs.Frame.{OUTSIDE, frame_place}

-- the word of a pointer to a part of what begins at a place in the memory
abbrev pub word_along : ℕ → Option (ℕ × Layout) → ℕ
word_along at None = OUTSIDE
word_along at (Some (place, layout)) = at + place

-- the frame shows this index for an id
pub record ShowsIndex (program : Program) (frame : List ℕ) (id index : ℕ) : Type 0 where
  pub place : ℕ
  pub defined : definition program.insts id ≡ Some place
  pub is : slice_index frame (frame_place program place) ≡ index

-- and these for ids one by one
abbrev pub ShowsIndices : Program → List ℕ → (ids indices : List ℕ) → Type 0
ShowsIndices program frame [] [] = Unit {0}
ShowsIndices program frame (id ∷ ids) (index ∷ indices) = ShowsIndex program frame id index × ShowsIndices program frame ids indices
ShowsIndices program frame ids indices = ⊥

-- no index is one of a scalar, as far as the indices lead to parts
abbrev pub TakesIndices : Layout → List ℕ → Type 0
TakesIndices layout [] = Unit {0}
TakesIndices OneTruth (index ∷ indices) = ⊥
TakesIndices OneWord (index ∷ indices) = ⊥
TakesIndices (Several parts) (index ∷ indices) = (place : ℕ) (part : Layout) → part_along (Several parts) (index ∷ []) ≡ Some (place, part) → TakesIndices part indices
