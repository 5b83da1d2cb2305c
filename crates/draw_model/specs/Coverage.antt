-- Which pixels a primitive covers, for one pixel alone and over all whole numbers. Positions are in 1/256 pixel.
use Rattle.std.specs.Prelude.{ℕ, ◌*◌, ◌+◌, ℤ, pos, ◌-ℤ◌, ◌*ℤ◌, neg_ℤ, int_lt, int_le, Bool, ◌&&◌, ◌||◌, if◌then◌else◌, List, slice_index_or, slice_index, []}
use Rattle.limits.specs.declared.TheConstants.{SUBPIXELS, GUARD_BAND}
use Rattle.draw_model.specs.declared.position.Position.{Position}
use Rattle.basics.specs.Word.{signed_word}
use Rattle.state_model.specs.declared.parts.Topology.{Topology}
use Rattle.state_model.specs.declared.parts.Topology.TheVariants.{Points, Triangles}

-- a corner's position, of its words x, y, z and w
abbrev pub corner_position : List ℕ → Position
corner_position words = record { x = signed_word (slice_index words 0); y = signed_word (slice_index words 1) }

abbrev pub corner : List (List ℕ) → ℕ → Position
corner corners n = corner_position (slice_index_or corners n [])

abbrev pub int_eq : ℤ → ℤ → Bool
int_eq a b = int_le a b && int_le b a

abbrev pub is_guarded_number : ℤ → Bool
is_guarded_number z = int_le (neg_ℤ (pos GUARD_BAND)) z && int_le z (pos GUARD_BAND)

-- within the guard band, both ends inside
unfoldable pub is_guarded : Position → Bool
is_guarded p = is_guarded_number p.x && is_guarded_number p.y

-- in which pixel it lies: 256 n to 256 n + 255
abbrev pub lies_in : ℤ → ℕ → Bool
lies_in z pixel = int_le (pos (SUBPIXELS * pixel)) z && int_lt z (pos (SUBPIXELS * (pixel + 1)))

abbrev pub point_covers : Position → ℕ → ℕ → Bool
point_covers p x y = lies_in p.x x && lies_in p.y y

abbrev pub pixel_centre : ℕ → ℕ → Position
pixel_centre x y = record { x = pos (SUBPIXELS * x + 128); y = pos (SUBPIXELS * y + 128) }

-- twice the signed area of the triangle p, q, at: on which side of the edge from p to q it lies
unfoldable pub edge_value : Position → Position → Position → ℤ
edge_value p q at = (q.x -ℤ p.x) *ℤ (at.y -ℤ p.y) -ℤ (q.y -ℤ p.y) *ℤ (at.x -ℤ p.x)

-- The top-left rule, for the edge from p to q of a triangle whose corners stand in the order of a positive area: a pixel's
-- centre on the edge belongs to the triangle where the edge is a left one, with the triangle to its right, or a top one,
-- horizontal and with the triangle below it. As y grows downwards, left edges run upwards and top edges to the right. Of
-- two triangles on the two sides of an edge exactly one has the centres on it.
unfoldable pub is_top_or_left : Position → Position → Bool
is_top_or_left p q = int_lt q.y p.y || (int_eq q.y p.y && int_lt p.x q.x)

-- on the triangle's side of the edge from p to q, or on the edge by the top-left rule
unfoldable pub is_inside : Position → Position → Position → Bool
is_inside at p q = int_lt (pos 0) (edge_value p q at) || (int_eq (edge_value p q at) (pos 0) && is_top_or_left p q)

unfoldable pub is_inside_all : Position → Position → Position → Position → Bool
is_inside_all at a b c = is_inside at a b && is_inside at b c && is_inside at c a

-- in either winding, by the sign of twice the signed area, and nothing where it is 0
unfoldable pub triangle_covers : Position → Position → Position → Position → Bool
triangle_covers a b c at =
    let area = edge_value a b c in
    if int_lt (pos 0) area then is_inside_all at a b c else (int_lt area (pos 0) && is_inside_all at a c b)

-- whether a primitive with these corners covers the pixel
unfoldable pub is_covered : Topology → List (List ℕ) → ℕ → ℕ → Bool
is_covered Points corners x y = is_guarded (corner corners 0) && point_covers (corner corners 0) x y
is_covered Triangles corners x y =
    is_guarded (corner corners 0) && is_guarded (corner corners 1) && is_guarded (corner corners 2)
    && triangle_covers (corner corners 0) (corner corners 1) (corner corners 2) (pixel_centre x y)
