-- Worked values of the definitions, computed.
use Rattle.std.proofs.Common.{◌≡◌, ℕ, List, [], ◌∷◌, true, false, Bool, Some, map, refl}
use Rattle.draw_model.specs.declared.command.TheConstants.{DRAW_VERTICES}
use Rattle.draw_model.specs.Coverage.{is_covered, is_guarded, edge_value, is_top_or_left, is_inside, is_inside_all, triangle_covers}
use Rattle.draw_model.specs.Pixel.{passes_depth, stored_pixel, logic_result}
use Rattle.state_model.specs.declared.parts.Topology.TheVariants.{Points, Triangles}

abbrev at : ℕ → ℕ → List ℕ
at x y = x ∷ y ∷ 0 ∷ 0 ∷ []

abbrev covers_pixels : List (List ℕ) → List Bool
covers_pixels corners =
    is_covered Triangles corners 0 0 ∷ is_covered Triangles corners 1 0 ∷ is_covered Triangles corners 0 1 ∷ is_covered Triangles corners 1 1 ∷ []

-- two triangles with an edge in common, on which the centres of the pixels (1, 0) and (0, 1) lie
shared_edge_low : covers_pixels (at 0 0 ∷ at 512 0 ∷ at 0 512 ∷ []) ≡ true ∷ false ∷ false ∷ false ∷ []
unfolding is_covered is_guarded edge_value is_top_or_left is_inside is_inside_all triangle_covers
shared_edge_low = refl

shared_edge_high : covers_pixels (at 512 0 ∷ at 512 512 ∷ at 0 512 ∷ []) ≡ false ∷ true ∷ true ∷ true ∷ []
unfolding is_covered is_guarded edge_value is_top_or_left is_inside is_inside_all triangle_covers
shared_edge_high = refl

-- the same in the other winding
shared_edge_turned : covers_pixels (at 512 0 ∷ at 0 512 ∷ at 512 512 ∷ []) ≡ false ∷ true ∷ true ∷ true ∷ []
unfolding is_covered is_guarded edge_value is_top_or_left is_inside is_inside_all triangle_covers
shared_edge_turned = refl

-- a corner on the end of the guard band counts, one beyond it drops the triangle
guard_band_end : is_covered Triangles (at 0 0 ∷ at 1048576 0 ∷ at 0 1048576 ∷ []) 0 0 ≡ true
unfolding is_covered is_guarded edge_value is_top_or_left is_inside is_inside_all triangle_covers
guard_band_end = refl

beyond_guard_band : is_covered Triangles (at 0 0 ∷ at 1048577 0 ∷ at 0 1048576 ∷ []) 0 0 ≡ false
unfolding is_covered is_guarded edge_value is_top_or_left is_inside is_inside_all triangle_covers
beyond_guard_band = refl

flat_triangle : is_covered Triangles (at 0 128 ∷ at 512 128 ∷ at 256 128 ∷ []) 0 0 ≡ false
unfolding is_covered is_guarded edge_value is_top_or_left is_inside is_inside_all triangle_covers
flat_triangle = refl

-- a point just left of the target, and one in its second pixel
point_left : is_covered Points (at 0xffff_ffff 0 ∷ []) 0 0 ≡ false
unfolding is_covered is_guarded edge_value is_top_or_left is_inside is_inside_all triangle_covers
point_left = refl

point_second : is_covered Points (at 511 256 ∷ []) 1 1 ≡ true
unfolding is_covered is_guarded edge_value is_top_or_left is_inside is_inside_all triangle_covers
point_second = refl

-- of the greatest and the least depth, and of the least and the greatest
greatest_with_least :
    map (λ compare. passes_depth compare 0x7fff_ffff 0x8000_0000) (0 ∷ 1 ∷ 2 ∷ 3 ∷ 4 ∷ 5 ∷ 6 ∷ 7 ∷ [])
    ≡ false ∷ false ∷ false ∷ false ∷ true ∷ true ∷ true ∷ true ∷ []
greatest_with_least = refl

least_with_greatest :
    map (λ compare. passes_depth compare 0x8000_0000 0x7fff_ffff) (0 ∷ 1 ∷ 2 ∷ 3 ∷ 4 ∷ 5 ∷ 6 ∷ 7 ∷ [])
    ≡ false ∷ true ∷ false ∷ true ∷ false ∷ true ∷ false ∷ true ∷ []
least_with_greatest = refl

with_itself :
    map (λ compare. passes_depth compare 5 5) (0 ∷ 1 ∷ 2 ∷ 3 ∷ 4 ∷ 5 ∷ 6 ∷ 7 ∷ [])
    ≡ false ∷ false ∷ true ∷ true ∷ false ∷ false ∷ true ∷ true ∷ []
with_itself = refl

masked_copy : stored_pixel (Some 3) 5 (1 ∷ 2 ∷ 3 ∷ 4 ∷ []) (9 ∷ 9 ∷ 9 ∷ 9 ∷ []) ≡ 1 ∷ 9 ∷ 3 ∷ 9 ∷ []
unfolding stored_pixel
masked_copy = refl

-- of 1100 and 1010, in the order of the operations' numbers
logic_results_of_one_pair :
    map (λ op. logic_result op 12 10) (0 ∷ 1 ∷ 2 ∷ 3 ∷ 4 ∷ 5 ∷ 6 ∷ 7 ∷ 8 ∷ 9 ∷ 10 ∷ 11 ∷ 12 ∷ 13 ∷ 14 ∷ 15 ∷ [])
    ≡ 0 ∷ 8 ∷ 4 ∷ 12 ∷ 2 ∷ 10 ∷ 6 ∷ 14 ∷ 0xffff_fff1 ∷ 0xffff_fff9 ∷ 0xffff_fff5 ∷ 0xffff_fffd ∷ 0xffff_fff3 ∷ 0xffff_fffb
    ∷ 0xffff_fff7 ∷ 0xffff_ffff ∷ []
logic_results_of_one_pair = refl

draw_vertices : DRAW_VERTICES ≡ 65536
draw_vertices = refl
