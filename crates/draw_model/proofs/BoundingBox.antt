-- Outside of its corners' bounding box a primitive covers nothing.
use Rattle.std.proofs.Common.{List, cond, ◌≡◌, ℕ, ◌+◌, ◌*◌, ◌≤◌, zero, suc, Bool, true, false, refl, ap, ◌∙◌, subst, arith}
use Rattle.std.specs.Prelude.{ℤ, pos, negsuc, ◌+ℤ◌, ◌-ℤ◌, ◌*ℤ◌, int_lt, int_le, ◌&&◌, ◌||◌}
use Rattle.std.specs.Int.Signed.{◌≤ℤ◌, ◌<ℤ◌}
use Rattle.std.proofs.Math.IntN.{*ℤ_comm, *ℤ-zero}
use Rattle.std.proofs.lemmas.Int.{ints}
use Rattle.state_model.specs.declared.parts.Topology.TheVariants.{Triangles}
use Rattle.basics.proofs.Bools.{first_of_both, second_of_both}
use Rattle.draw_model.specs.declared.position.Position.{Position}
use Rattle.draw_model.specs.Coverage.{is_covered, is_guarded, corner, pixel_centre, edge_value, int_eq, is_top_or_left, is_inside, is_inside_all, triangle_covers}
use borrow.Author.Differences.{up, down}

sub_times : (a b c : ℤ) → (a -ℤ b) *ℤ c ≡ a *ℤ c -ℤ b *ℤ c
sub_times a b c =
    let e : up (a -ℤ b) + down a + up b ≡ down (a -ℤ b) + up a + down b = omega (arith, ints) in
    let f = ap (λ (n : ℕ). n * up c) e in
    let g = ap (λ (n : ℕ). n * down c) e in
    omega (arith, ints, f, g)

swapped : (x y z : ℤ) → (x *ℤ y) *ℤ z ≡ (z *ℤ y) *ℤ x
swapped x y z =
    let e : up (x *ℤ y) + (up x * down y + down x * up y) ≡ down (x *ℤ y) + (up x * up y + down x * down y) = omega (arith, ints) in
    let f : up (z *ℤ y) + (up z * down y + down z * up y) ≡ down (z *ℤ y) + (up z * up y + down z * down y) = omega (arith, ints) in
    omega (arith, ints, ap (λ (n : ℕ). n * up z) e, ap (λ (n : ℕ). n * down z) e, ap (λ (n : ℕ). n * up x) f, ap (λ (n : ℕ). n * down x) f)

grows : (e d : ℤ) → pos 0 ≤ℤ e → pos 1 ≤ℤ d → e ≤ℤ (e *ℤ d)
grows (pos m) (pos zero) h k = absurd (omega (arith, ints))
grows (pos m) (pos (suc n)) h k = let f : m ≤ m * suc n = omega arith in omega (arith, ints, f)
grows (pos m) (negsuc n) h k = absurd (omega (arith, ints))
grows (negsuc m) d h k = absurd (omega (arith, ints))

-- the side of an edge from (u, p) to (v, q), seen from 0
abbrev side : (u p v q : ℤ) → ℤ
side u p v q = u *ℤ q -ℤ v *ℤ p

-- three sides weigh their opposite corners to nothing
weights_x : (u p v q s t : ℤ) → (side v q s t *ℤ u +ℤ side s t u p *ℤ v) +ℤ side u p v q *ℤ s ≡ pos 0
weights_x u p v q s t =
    let a = sub_times (v *ℤ t) (s *ℤ q) u in
    let b = sub_times (s *ℤ p) (u *ℤ t) v in
    let c = sub_times (u *ℤ q) (v *ℤ p) s in
    let d = swapped v t u in
    let e = swapped s q u in
    let f = swapped s p v in
    let zero_sum : (((v *ℤ t) *ℤ u -ℤ (s *ℤ q) *ℤ u) +ℤ ((s *ℤ p) *ℤ v -ℤ (u *ℤ t) *ℤ v)) +ℤ ((u *ℤ q) *ℤ s -ℤ (v *ℤ p) *ℤ s) ≡ pos 0 =
    cancels ((v *ℤ t) *ℤ u) ((s *ℤ q) *ℤ u) ((s *ℤ p) *ℤ v) ((u *ℤ t) *ℤ v) ((u *ℤ q) *ℤ s) ((v *ℤ p) *ℤ s) d e f in
    rw (a, b, c) zero_sum
  where
    cancels : (g h i j k l : ℤ) → g ≡ j → h ≡ k → i ≡ l → ((g -ℤ h) +ℤ (i -ℤ j)) +ℤ (k -ℤ l) ≡ pos 0
    cancels g h i j k l d e f = omega (arith, ints, d, e, f)

weights_y : (u p v q s t : ℤ) → (side v q s t *ℤ p +ℤ side s t u p *ℤ q) +ℤ side u p v q *ℤ t ≡ pos 0
weights_y u p v q s t =
    let a = sub_times (v *ℤ t) (s *ℤ q) p in
    let b = sub_times (s *ℤ p) (u *ℤ t) q in
    let c = sub_times (u *ℤ q) (v *ℤ p) t in
    let zero_sum : (((v *ℤ t) *ℤ p -ℤ (s *ℤ q) *ℤ p) +ℤ ((s *ℤ p) *ℤ q -ℤ (u *ℤ t) *ℤ q)) +ℤ ((u *ℤ q) *ℤ t -ℤ (v *ℤ p) *ℤ t) ≡ pos 0 =
    cancels ((v *ℤ t) *ℤ p) ((s *ℤ q) *ℤ p) ((s *ℤ p) *ℤ q) ((u *ℤ t) *ℤ q) ((u *ℤ q) *ℤ t) ((v *ℤ p) *ℤ t)
    (same_factors v t p) (same_factors s q p) (same_factors u t q) in
    rw (a, b, c) zero_sum
  where
    -- (x y) z is (x z) y
    same_factors : (x y z : ℤ) → (x *ℤ y) *ℤ z ≡ (x *ℤ z) *ℤ y
    same_factors x y z = ap (λ (n : ℤ). n *ℤ z) (*ℤ_comm x y) ∙ swapped y x z ∙ ap (λ (n : ℤ). n *ℤ y) (*ℤ_comm z x)

    cancels : (g h i j k l : ℤ) → g ≡ l → h ≡ i → j ≡ k → ((g -ℤ h) +ℤ (i -ℤ j)) +ℤ (k -ℤ l) ≡ pos 0
    cancels g h i j k l d e f = omega (arith, ints, d, e, f)

-- three sides that aren't negative, and weigh positive numbers to nothing, are 0
pub no_area : (e f g a b c : ℤ) → pos 0 ≤ℤ e → pos 0 ≤ℤ f → pos 0 ≤ℤ g → pos 1 ≤ℤ a → pos 1 ≤ℤ b → pos 1 ≤ℤ c →
    (e *ℤ a +ℤ f *ℤ b) +ℤ g *ℤ c ≡ pos 0 → ((e +ℤ f) +ℤ g) ≤ℤ pos 0
no_area e f g a b c h i j k l m sum =
    all_grow e f g (e *ℤ a) (f *ℤ b) (g *ℤ c) (grows e a h k) (grows f b i l) (grows g c j m) sum
  where
    all_grow : (e f g x y z : ℤ) → e ≤ℤ x → f ≤ℤ y → g ≤ℤ z → (x +ℤ y) +ℤ z ≡ pos 0 → ((e +ℤ f) +ℤ g) ≤ℤ pos 0
    all_grow e f g x y z h i j sum = omega (arith, ints)

-- ---- the corners as seen from a pixel's centre

times_sub : (a b c : ℤ) → c *ℤ (a -ℤ b) ≡ c *ℤ a -ℤ c *ℤ b
times_sub a b c = *ℤ_comm c (a -ℤ b) ∙ sub_times a b c ∙ ap (λ (n : ℤ). n -ℤ b *ℤ c) (*ℤ_comm a c) ∙ ap (λ (n : ℤ). c *ℤ a -ℤ n) (*ℤ_comm b c)

-- the product of two differences
differences : (v u t p : ℤ) → (v -ℤ u) *ℤ (t -ℤ p) ≡ (v *ℤ t -ℤ v *ℤ p) -ℤ (u *ℤ t -ℤ u *ℤ p)
differences v u t p =
    sub_times v u (t -ℤ p) ∙ ap (λ (n : ℤ). n -ℤ u *ℤ (t -ℤ p)) (times_sub t p v) ∙ ap (λ (n : ℤ). (v *ℤ t -ℤ v *ℤ p) -ℤ n) (times_sub t p u)

edge_is : (u p v q : ℤ) → (v -ℤ u) *ℤ (pos 0 -ℤ p) -ℤ (q -ℤ p) *ℤ (pos 0 -ℤ u) ≡ side u p v q
edge_is u p v q =
    collected ((v -ℤ u) *ℤ (pos 0 -ℤ p)) ((q -ℤ p) *ℤ (pos 0 -ℤ u)) (v *ℤ pos 0) (v *ℤ p) (u *ℤ pos 0) (u *ℤ p) (q *ℤ pos 0) (q *ℤ u) (p *ℤ pos 0) (p *ℤ u) (u *ℤ q)
    (differences v u (pos 0) p) (differences q p (pos 0) u) (*ℤ-zero v) (*ℤ-zero u) (*ℤ-zero q) (*ℤ-zero p) (*ℤ_comm q u) (*ℤ_comm p u)
  where
    collected : (x y v0 vp u0 up q0 qu p0 pu uq : ℤ) → x ≡ (v0 -ℤ vp) -ℤ (u0 -ℤ up) → y ≡ (q0 -ℤ qu) -ℤ (p0 -ℤ pu) →
        v0 ≡ pos 0 → u0 ≡ pos 0 → q0 ≡ pos 0 → p0 ≡ pos 0 → qu ≡ uq → pu ≡ up → x -ℤ y ≡ uq -ℤ vp
    collected x y v0 vp u0 up q0 qu p0 pu uq h k a b c d e f = omega (arith, ints)

area_is : (u p v q s t : ℤ) → (v -ℤ u) *ℤ (t -ℤ p) -ℤ (q -ℤ p) *ℤ (s -ℤ u) ≡ (side v q s t +ℤ side s t u p) +ℤ side u p v q
area_is u p v q s t =
    collected ((v -ℤ u) *ℤ (t -ℤ p)) ((q -ℤ p) *ℤ (s -ℤ u)) (v *ℤ t) (v *ℤ p) (u *ℤ t) (u *ℤ p) (q *ℤ s) (q *ℤ u) (p *ℤ s) (p *ℤ u) (s *ℤ q) (u *ℤ q) (s *ℤ p)
    (differences v u t p) (differences q p s u) (*ℤ_comm q s) (*ℤ_comm q u) (*ℤ_comm p s) (*ℤ_comm p u)
  where
    collected : (x y vt vp ut up qs qu ps pu sq uq sp : ℤ) → x ≡ (vt -ℤ vp) -ℤ (ut -ℤ up) → y ≡ (qs -ℤ qu) -ℤ (ps -ℤ pu) →
        qs ≡ sq → qu ≡ uq → ps ≡ sp → pu ≡ up → x -ℤ y ≡ ((vt -ℤ sq) +ℤ (sp -ℤ ut)) +ℤ (uq -ℤ vp)
    collected x y vt vp ut up qs qu ps pu sq uq sp h k a b c d = omega (arith, ints)

-- the side of the edge between two corners, seen from a place
abbrev seen : Position → Position → Position → ℤ
seen at p q = side (p.x -ℤ at.x) (p.y -ℤ at.y) (q.x -ℤ at.x) (q.y -ℤ at.y)

shifted : (a b c : ℤ) → b -ℤ a ≡ (b -ℤ c) -ℤ (a -ℤ c)
shifted a b c = omega (arith, ints)

opposite : (a c : ℤ) → c -ℤ a ≡ pos 0 -ℤ (a -ℤ c)
opposite a c = omega (arith, ints)

edge_seen : (at p q : Position) → edge_value p q at ≡ seen at p q
unfolding edge_value
edge_seen at p q =
    ap (λ (n : ℤ). n *ℤ (at.y -ℤ p.y) -ℤ (q.y -ℤ p.y) *ℤ (at.x -ℤ p.x)) (shifted p.x q.x at.x)
    ∙ ap (λ (n : ℤ). ((q.x -ℤ at.x) -ℤ (p.x -ℤ at.x)) *ℤ n -ℤ (q.y -ℤ p.y) *ℤ (at.x -ℤ p.x)) (opposite p.y at.y)
    ∙ ap (λ (n : ℤ). ((q.x -ℤ at.x) -ℤ (p.x -ℤ at.x)) *ℤ (pos 0 -ℤ (p.y -ℤ at.y)) -ℤ n *ℤ (at.x -ℤ p.x)) (shifted p.y q.y at.y)
    ∙ ap (λ (n : ℤ). ((q.x -ℤ at.x) -ℤ (p.x -ℤ at.x)) *ℤ (pos 0 -ℤ (p.y -ℤ at.y)) -ℤ ((q.y -ℤ at.y) -ℤ (p.y -ℤ at.y)) *ℤ n) (opposite p.x at.x)
    ∙ edge_is (p.x -ℤ at.x) (p.y -ℤ at.y) (q.x -ℤ at.x) (q.y -ℤ at.y)

area_seen : (at a b c : Position) → edge_value a b c ≡ (seen at b c +ℤ seen at c a) +ℤ seen at a b
unfolding edge_value
area_seen at a b c =
    ap (λ (n : ℤ). n *ℤ (c.y -ℤ a.y) -ℤ (b.y -ℤ a.y) *ℤ (c.x -ℤ a.x)) (shifted a.x b.x at.x)
    ∙ ap (λ (n : ℤ). ((b.x -ℤ at.x) -ℤ (a.x -ℤ at.x)) *ℤ n -ℤ (b.y -ℤ a.y) *ℤ (c.x -ℤ a.x)) (shifted a.y c.y at.y)
    ∙ ap (λ (n : ℤ). ((b.x -ℤ at.x) -ℤ (a.x -ℤ at.x)) *ℤ ((c.y -ℤ at.y) -ℤ (a.y -ℤ at.y)) -ℤ n *ℤ (c.x -ℤ a.x)) (shifted a.y b.y at.y)
    ∙ ap (λ (n : ℤ). ((b.x -ℤ at.x) -ℤ (a.x -ℤ at.x)) *ℤ ((c.y -ℤ at.y) -ℤ (a.y -ℤ at.y)) -ℤ ((b.y -ℤ at.y) -ℤ (a.y -ℤ at.y)) *ℤ n) (shifted a.x c.x at.x)
    ∙ area_is (a.x -ℤ at.x) (a.y -ℤ at.y) (b.x -ℤ at.x) (b.y -ℤ at.y) (c.x -ℤ at.x) (c.y -ℤ at.y)

-- the other winding has the opposite area
turned : (a b c : Position) → edge_value a c b ≡ pos 0 -ℤ edge_value a b c
unfolding edge_value
turned a b c =
    opposed ((c.x -ℤ a.x) *ℤ (b.y -ℤ a.y)) ((c.y -ℤ a.y) *ℤ (b.x -ℤ a.x)) ((b.x -ℤ a.x) *ℤ (c.y -ℤ a.y)) ((b.y -ℤ a.y) *ℤ (c.x -ℤ a.x))
    (*ℤ_comm (c.x -ℤ a.x) (b.y -ℤ a.y)) (*ℤ_comm (c.y -ℤ a.y) (b.x -ℤ a.x))
  where
    opposed : (w x y z : ℤ) → w ≡ z → x ≡ y → w -ℤ x ≡ pos 0 -ℤ (y -ℤ z)
    opposed w x y z h k = omega (arith, ints)

-- ---- inside

not_outside : (v : ℤ) (top above : Bool) → int_lt (pos 0) v ≡ above → (above || (int_eq v (pos 0) && top)) ≡ true → pos 0 ≤ℤ v
not_outside v top true h k = omega (arith, ints)
not_outside v top false h k =
    let e = first_of_both (int_eq v (pos 0)) top k in
    let f = second_of_both (int_le v (pos 0)) (int_le (pos 0) v) e in
    omega (arith, ints)

inside_side : (at p q : Position) → is_inside at p q ≡ true → pos 0 ≤ℤ seen at p q
unfolding is_inside
inside_side at p q h =
    subst (λ (v : ℤ). pos 0 ≤ℤ v) (edge_seen at p q) (not_outside (edge_value p q at) (is_top_or_left p q) (int_lt (pos 0) (edge_value p q at)) refl h)

-- ---- no place outside is inside

-- the place is neither left nor right of all three corners, nor above or below them all
pub record IsInBox (at a b c : Position) : Type 0 where
  pub left : at.x <ℤ a.x → at.x <ℤ b.x → at.x <ℤ c.x → ⊥
  pub right : a.x <ℤ at.x → b.x <ℤ at.x → c.x <ℤ at.x → ⊥
  pub above : at.y <ℤ a.y → at.y <ℤ b.y → at.y <ℤ c.y → ⊥
  pub below : a.y <ℤ at.y → b.y <ℤ at.y → c.y <ℤ at.y → ⊥

negated : (e f g u v s : ℤ) → (e *ℤ u +ℤ f *ℤ v) +ℤ g *ℤ s ≡ pos 0 → (e *ℤ (pos 0 -ℤ u) +ℤ f *ℤ (pos 0 -ℤ v)) +ℤ g *ℤ (pos 0 -ℤ s) ≡ pos 0
negated e f g u v s h =
    collected (e *ℤ (pos 0 -ℤ u)) (f *ℤ (pos 0 -ℤ v)) (g *ℤ (pos 0 -ℤ s)) (e *ℤ u) (f *ℤ v) (g *ℤ s) (one_negated e u) (one_negated f v) (one_negated g s) h
  where
    one_negated : (e u : ℤ) → e *ℤ (pos 0 -ℤ u) ≡ pos 0 -ℤ e *ℤ u
    one_negated e u = times_sub (pos 0) u e ∙ ap (λ (n : ℤ). n -ℤ e *ℤ u) (*ℤ-zero e)

    collected : (x y z i j k : ℤ) → x ≡ pos 0 -ℤ i → y ≡ pos 0 -ℤ j → z ≡ pos 0 -ℤ k → (i +ℤ j) +ℤ k ≡ pos 0 → (x +ℤ y) +ℤ z ≡ pos 0
    collected x y z i j k a b c h = omega (arith, ints)

contradiction : (v : ℤ) → pos 0 <ℤ v → v ≤ℤ pos 0 → ⊥
contradiction v h k = omega (arith, ints)

beyond : (m n : ℤ) → m <ℤ n → pos 1 ≤ℤ (n -ℤ m)
beyond m n h = omega (arith, ints)

before : (m n : ℤ) → m <ℤ n → pos 1 ≤ℤ (pos 0 -ℤ (m -ℤ n))
before m n h = omega (arith, ints)

boxed : (at a b c : Position) → pos 0 <ℤ edge_value a b c → is_inside_all at a b c ≡ true → IsInBox at a b c
unfolding is_inside_all
boxed at a b c some h =
    let first = first_of_both (is_inside at a b && is_inside at b c) (is_inside at c a) h in
    let i = inside_side at a b (first_of_both (is_inside at a b) (is_inside at b c) first) in
    let j = inside_side at b c (second_of_both (is_inside at a b) (is_inside at b c) first) in
    let k = inside_side at c a (second_of_both (is_inside at a b && is_inside at b c) (is_inside at c a) h) in
    let area : pos 0 <ℤ ((seen at b c +ℤ seen at c a) +ℤ seen at a b) = subst (λ (v : ℤ). pos 0 <ℤ v) (area_seen at a b c) some in
    let x = weights_x (a.x -ℤ at.x) (a.y -ℤ at.y) (b.x -ℤ at.x) (b.y -ℤ at.y) (c.x -ℤ at.x) (c.y -ℤ at.y) in
    let y = weights_y (a.x -ℤ at.x) (a.y -ℤ at.y) (b.x -ℤ at.x) (b.y -ℤ at.y) (c.x -ℤ at.x) (c.y -ℤ at.y) in
    record {
      left = λ l m n. contradiction ((seen at b c +ℤ seen at c a) +ℤ seen at a b) area
          (no_area (seen at b c) (seen at c a) (seen at a b) (a.x -ℤ at.x) (b.x -ℤ at.x) (c.x -ℤ at.x) j k i (beyond at.x a.x l) (beyond at.x b.x m) (beyond at.x c.x n) x);
      right = λ l m n. contradiction ((seen at b c +ℤ seen at c a) +ℤ seen at a b) area
          (no_area (seen at b c) (seen at c a) (seen at a b) (pos 0 -ℤ (a.x -ℤ at.x)) (pos 0 -ℤ (b.x -ℤ at.x)) (pos 0 -ℤ (c.x -ℤ at.x)) j k i
          (before a.x at.x l) (before b.x at.x m) (before c.x at.x n) (negated (seen at b c) (seen at c a) (seen at a b) (a.x -ℤ at.x) (b.x -ℤ at.x) (c.x -ℤ at.x) x));
      above = λ l m n. contradiction ((seen at b c +ℤ seen at c a) +ℤ seen at a b) area
          (no_area (seen at b c) (seen at c a) (seen at a b) (a.y -ℤ at.y) (b.y -ℤ at.y) (c.y -ℤ at.y) j k i (beyond at.y a.y l) (beyond at.y b.y m) (beyond at.y c.y n) y);
      below = λ l m n. contradiction ((seen at b c +ℤ seen at c a) +ℤ seen at a b) area
          (no_area (seen at b c) (seen at c a) (seen at a b) (pos 0 -ℤ (a.y -ℤ at.y)) (pos 0 -ℤ (b.y -ℤ at.y)) (pos 0 -ℤ (c.y -ℤ at.y)) j k i
          (before a.y at.y l) (before b.y at.y m) (before c.y at.y n) (negated (seen at b c) (seen at c a) (seen at a b) (a.y -ℤ at.y) (b.y -ℤ at.y) (c.y -ℤ at.y) y));
    }

above_zero : (v : ℤ) → int_lt (pos 0) v ≡ true → pos 0 <ℤ v
above_zero v h = omega (arith, ints)

turned_above : (v w : ℤ) → int_lt v (pos 0) ≡ true → w ≡ pos 0 -ℤ v → pos 0 <ℤ w
turned_above v w h e = omega (arith, ints)

exchanged_box : (at a b c : Position) → IsInBox at a c b → IsInBox at a b c
exchanged_box at a b c h = record {
  left = λ l m n. h.left l n m;
  right = λ l m n. h.right l n m;
  above = λ l m n. h.above l n m;
  below = λ l m n. h.below l n m;
}

-- what a triangle covers lies in its corners' bounding box
pub triangle_in_box : (a b c at : Position) → triangle_covers a b c at ≡ true → IsInBox at a b c
unfolding triangle_covers
triangle_in_box a b c at h = by_winding (int_lt (pos 0) (edge_value a b c)) refl h
  where
    by_winding : (positive : Bool) → int_lt (pos 0) (edge_value a b c) ≡ positive →
        cond positive (is_inside_all at a b c) (int_lt (edge_value a b c) (pos 0) && is_inside_all at a c b) ≡ true → IsInBox at a b c
    by_winding true some h = boxed at a b c (above_zero (edge_value a b c) some) h
    by_winding false not h =
        let negative = first_of_both (int_lt (edge_value a b c) (pos 0)) (is_inside_all at a c b) h in
        let inside = second_of_both (int_lt (edge_value a b c) (pos 0)) (is_inside_all at a c b) h in
        exchanged_box at a b c (boxed at a c b (turned_above (edge_value a b c) (edge_value a c b) negative (turned a b c)) inside)

-- a pixel that a triangle covers has its centre in the corners' bounding box
pub covered_in_box : (corners : List (List ℕ)) (x y : ℕ) → is_covered Triangles corners x y ≡ true →
    IsInBox (pixel_centre x y) (corner corners 0) (corner corners 1) (corner corners 2)
unfolding is_covered
covered_in_box corners x y h =
    triangle_in_box (corner corners 0) (corner corners 1) (corner corners 2) (pixel_centre x y)
    (second_of_both (is_guarded (corner corners 0) && is_guarded (corner corners 1) && is_guarded (corner corners 2))
    (triangle_covers (corner corners 0) (corner corners 1) (corner corners 2) (pixel_centre x y)) h)
