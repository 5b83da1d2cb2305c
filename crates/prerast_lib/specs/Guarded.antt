-- Bounds on positions in the guard band, and on what is computed of them.
use Rattle.std.specs.Prelude.{◌≤◌, ◌*◌, ℕ, ℤ, pos, neg_ℤ, ◌≤ℤ◌, int_lt, unsigned_abs, Bool, true, ◌&&◌, if◌then◌else◌, List, Option, Some, None}
use Rattle.limits.specs.declared.TheConstants.{GUARD_BAND}
use Rattle.state_model.specs.declared.parts.Topology.{Topology}
use Rattle.state_model.specs.declared.parts.Topology.TheVariants.{Points, Triangles}
use Rattle.draw_model.specs.declared.position.Position.{Position}
use Rattle.draw_model.specs.Coverage.{is_guarded, corner, edge_value}

pub record IsWithinBand (z : ℤ) : Type 0 where
  pub low : neg_ℤ (pos GUARD_BAND) ≤ℤ z
  pub high : z ≤ℤ pos GUARD_BAND

pub record IsGuarded (p : Position) : Type 0 where
  pub x : IsWithinBand p.x
  pub y : IsWithinBand p.y

-- from one place within the band to another
abbrev pub IsDistance : ℤ → Type 0
IsDistance z = unsigned_abs z ≤ 2 * GUARD_BAND

-- of two distances
abbrev pub IsProduct : ℤ → Type 0
IsProduct z = unsigned_abs z ≤ 2 * GUARD_BAND * (2 * GUARD_BAND)

-- a triangle's facing, where its corners are within the guard band
abbrev pub triangle_facing : Bool → Position → Position → Position → Option Bool
triangle_facing ccw a b c =
    if is_guarded a && is_guarded b && is_guarded c
    then Some (if ccw then int_lt (edge_value a b c) (pos 0) else int_lt (pos 0) (edge_value a b c))
    else None

-- whether a primitive is front-facing, where the corners that count are within the guard band
abbrev pub facing_of : Topology → Bool → List (List ℕ) → Option Bool
facing_of Points ccw corners = if is_guarded (corner corners 0) then Some true else None
facing_of Triangles ccw corners = triangle_facing ccw (corner corners 0) (corner corners 1) (corner corners 2)
