-- Columns or rows that hold all that a primitive covers.
use Rattle.std.specs.Prelude.{◌≡◌, ℕ, ◌+◌, ◌*◌, ◌<◌, ◌≤◌, ◌⊎◌, false, ℤ, pos, List}
use Rattle.std.specs.Int.Signed.{◌≤ℤ◌, ◌<ℤ◌}
use Rattle.limits.specs.declared.TheConstants.{SUBPIXELS}
use Rattle.state_model.specs.declared.parts.Topology.{Topology}
use Rattle.draw_model.specs.Coverage.{is_covered}

-- so many numbers from one on, of those of a start and an extent; those before lie below, and those after above
pub record IsSpan (low high : ℤ) (start extent from count : ℕ) : Type 0 where
  pub first : start ≤ from
  pub last : from + count ≤ start + extent
  pub before : (x : ℕ) → start ≤ x → x < from → pos (SUBPIXELS * (x + 1)) ≤ℤ low
  pub after : (x : ℕ) → from + count ≤ x → x < start + extent → high <ℤ pos (SUBPIXELS * x)

-- the numbers of the start and the extent that are none of these
abbrev pub IsLeftOut : (start extent from count x : ℕ) → Type 0
IsLeftOut start extent from count x = (start ≤ x) × (x < start + extent) × ((x < from) ⊎ (from + count ≤ x))

-- of these columns of the start and the extent, all others are uncovered
pub record HoldColumns (corners : List (List ℕ)) (start extent from count : ℕ) : Type 0 where
  pub first : start ≤ from
  pub last : from + count ≤ start + extent
  pub others : (t : Topology) (x y : ℕ) → IsLeftOut start extent from count x → is_covered t corners x y ≡ false

-- the same of rows
pub record HoldRows (corners : List (List ℕ)) (start extent from count : ℕ) : Type 0 where
  pub first : start ≤ from
  pub last : from + count ≤ start + extent
  pub others : (t : Topology) (x y : ℕ) → IsLeftOut start extent from count y → is_covered t corners x y ≡ false

-- the first pixel that isn't all before a place, or the first of all
pub record IsFirst (low : ℤ) (first : ℕ) : Type 0 where
  pub before : (x : ℕ) → x < first → pos (SUBPIXELS * (x + 1)) ≤ℤ low

-- all pixels from here on are behind a place
pub record IsEnd (high : ℤ) (end : ℕ) : Type 0 where
  pub after : (x : ℕ) → end ≤ x → high <ℤ pos (SUBPIXELS * x)
