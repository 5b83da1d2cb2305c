-- What lies outside of a primitive's bounding box is uncovered.
use Rattle.std.proofs.Common.{◌≡◌, ℕ, ◌+◌, ◌*◌, ◌<◌, ◌≤◌, ◌⊎◌, inl, inr, Bool, true, false, List, refl, sym, ◌∙◌, arith}
use Rattle.std.specs.Prelude.{ℤ, pos, int_lt, int_le, ◌&&◌}
use Rattle.std.specs.Int.Signed.{◌≤ℤ◌, ◌<ℤ◌}
use Rattle.std.proofs.lemmas.Int.{ints}
use Rattle.basics.proofs.Bools.{first_of_both, second_of_both}
use Rattle.limits.specs.declared.TheConstants.{SUBPIXELS}
use Rattle.state_model.specs.declared.parts.Topology.{Topology}
use Rattle.state_model.specs.declared.parts.Topology.TheVariants.{Points, Triangles}
use Rattle.draw_model.specs.Coverage.{is_covered, is_guarded, corner, lies_in, point_covers, pixel_centre}
use Rattle.draw_model.proofs.BoundingBox.{covered_in_box}
use Rattle.prerast_lib.specs.Spans.{IsSpan, IsLeftOut, HoldColumns, HoldRows}

-- the pixels of a number are all before, or all behind, three places
abbrev AreBefore : (n : ℕ) (a b c : ℤ) → Type 0
AreBefore n a b c = (pos (SUBPIXELS * (n + 1)) ≤ℤ a) × (pos (SUBPIXELS * (n + 1)) ≤ℤ b) × (pos (SUBPIXELS * (n + 1)) ≤ℤ c)

abbrev AreBehind : (n : ℕ) (a b c : ℤ) → Type 0
AreBehind n a b c = (a <ℤ pos (SUBPIXELS * n)) × (b <ℤ pos (SUBPIXELS * n)) × (c <ℤ pos (SUBPIXELS * n))

abbrev AreBeside : (n : ℕ) (a b c : ℤ) → Type 0
AreBeside n a b c = AreBefore n a b c ⊎ AreBehind n a b c

-- a left-out number is beside
beside : (low high a b c : ℤ) (start extent from count n : ℕ) → IsSpan low high start extent from count → low ≤ℤ a → low ≤ℤ b → low ≤ℤ c → a ≤ℤ high → b ≤ℤ high → c ≤ℤ high →
    (start ≤ n) → (n < start + extent) → ((n < from) ⊎ (from + count ≤ n)) → AreBeside n a b c
beside low high a b c start extent from count n span h i j k l m first last (inl early) =
    let below = span.before n first early in
    inl (omega (arith, ints), omega (arith, ints), omega (arith, ints))
beside low high a b c start extent from count n span h i j k l m first last (inr late) =
    let above = span.after n late last in
    inr (omega (arith, ints), omega (arith, ints), omega (arith, ints))

centre_before : (n : ℕ) (a : ℤ) → pos (SUBPIXELS * (n + 1)) ≤ℤ a → pos (SUBPIXELS * n + 128) <ℤ a
centre_before n a h = omega (arith, ints)

centre_behind : (n : ℕ) (a : ℤ) → a <ℤ pos (SUBPIXELS * n) → a <ℤ pos (SUBPIXELS * n + 128)
centre_behind n a h = omega (arith, ints)

not_in : (n : ℕ) (a b c : ℤ) → lies_in a n ≡ true → AreBeside n a b c → ⊥
not_in n a b c h (inl k) = let before = k.0 in let i = second_of_both (int_le (pos (SUBPIXELS * n)) a) (int_lt a (pos (SUBPIXELS * (n + 1)))) h in omega (arith, ints)
not_in n a b c h (inr k) = let behind = k.0 in let i = first_of_both (int_le (pos (SUBPIXELS * n)) a) (int_lt a (pos (SUBPIXELS * (n + 1)))) h in omega (arith, ints)

-- ---- columns

not_in_column : (t : Topology) (corners : List (List ℕ)) (x y : ℕ) → AreBeside x (corner corners 0).x (corner corners 1).x (corner corners 2).x → is_covered t corners x y ≡ true → ⊥
unfolding is_covered
not_in_column Points corners x y beside h =
    let inside = second_of_both (is_guarded (corner corners 0)) (point_covers (corner corners 0) x y) h in
    not_in x (corner corners 0).x (corner corners 1).x (corner corners 2).x (first_of_both (lies_in (corner corners 0).x x) (lies_in (corner corners 0).y y) inside) beside
not_in_column Triangles corners x y (inl k) h =
    (covered_in_box corners x y h).left (centre_before x (corner corners 0).x k.0) (centre_before x (corner corners 1).x k.1) (centre_before x (corner corners 2).x k.2)
not_in_column Triangles corners x y (inr k) h =
    (covered_in_box corners x y h).right (centre_behind x (corner corners 0).x k.0) (centre_behind x (corner corners 1).x k.1) (centre_behind x (corner corners 2).x k.2)

refuted : (b : Bool) → (b ≡ true → ⊥) → b ≡ false
refuted true h = absurd (h refl)
refuted false h = refl

pub hold_columns : (corners : List (List ℕ)) (low high : ℤ) (start extent from count : ℕ) → IsSpan low high start extent from count →
    low ≤ℤ (corner corners 0).x → low ≤ℤ (corner corners 1).x → low ≤ℤ (corner corners 2).x →
    (corner corners 0).x ≤ℤ high → (corner corners 1).x ≤ℤ high → (corner corners 2).x ≤ℤ high → HoldColumns corners start extent from count
hold_columns corners low high start extent from count span h i j k l m = record {
  first = span.first;
  last = span.last;
  others = λ t x y out. refuted (is_covered t corners x y) (not_in_column t corners x y
      (beside low high (corner corners 0).x (corner corners 1).x (corner corners 2).x start extent from count x span h i j k l m out.0 out.1 out.2));
}

-- ---- rows

not_in_row : (t : Topology) (corners : List (List ℕ)) (x y : ℕ) → AreBeside y (corner corners 0).y (corner corners 1).y (corner corners 2).y → is_covered t corners x y ≡ true → ⊥
unfolding is_covered
not_in_row Points corners x y beside h =
    let inside = second_of_both (is_guarded (corner corners 0)) (point_covers (corner corners 0) x y) h in
    not_in y (corner corners 0).y (corner corners 1).y (corner corners 2).y (second_of_both (lies_in (corner corners 0).x x) (lies_in (corner corners 0).y y) inside) beside
not_in_row Triangles corners x y (inl k) h =
    (covered_in_box corners x y h).above (centre_before y (corner corners 0).y k.0) (centre_before y (corner corners 1).y k.1) (centre_before y (corner corners 2).y k.2)
not_in_row Triangles corners x y (inr k) h =
    (covered_in_box corners x y h).below (centre_behind y (corner corners 0).y k.0) (centre_behind y (corner corners 1).y k.1) (centre_behind y (corner corners 2).y k.2)

pub hold_rows : (corners : List (List ℕ)) (low high : ℤ) (start extent from count : ℕ) → IsSpan low high start extent from count →
    low ≤ℤ (corner corners 0).y → low ≤ℤ (corner corners 1).y → low ≤ℤ (corner corners 2).y →
    (corner corners 0).y ≤ℤ high → (corner corners 1).y ≤ℤ high → (corner corners 2).y ≤ℤ high → HoldRows corners start extent from count
hold_rows corners low high start extent from count span h i j k l m = record {
  first = span.first;
  last = span.last;
  others = λ t x y out. refuted (is_covered t corners x y) (not_in_row t corners x y
      (beside low high (corner corners 0).y (corner corners 1).y (corner corners 2).y start extent from count y span h i j k l m out.0 out.1 out.2));
}
