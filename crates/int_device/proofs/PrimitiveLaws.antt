-- The fragments of a primitive are those of its vertices' outcomes.
use Rattle.std.proofs.Common.{◌≡◌, ℕ, ◌+◌, ◌*◌, Bool, true, false, cond, List, [], ◌∷◌, ◌++◌, refl, ap, sym, ◌∙◌, arith}
use Rattle.std.specs.Prelude.{None, Some, not, ◌&&◌, map, filter, sum, slice_index}
use Rattle.std.specs.List.{flat_map, list_all, range_with_len}
use Rattle.state_model.specs.declared.parts.Topology.{Topology}
use Rattle.state_model.specs.declared.parts.Topology.TheVariants.{Points, Triangles}
use Rattle.state_model.specs.declared.parts.PrerastPart.{PrerastPart}
use Rattle.stage_model.specs.Stage.{Outcome, ended_of}
use Rattle.draw_model.specs.declared.command.Dynamic.{Dynamic}
use Rattle.draw_model.specs.Coverage.{corner, is_guarded, is_covered}
use Rattle.draw_model.specs.Invocation.{Fragment, is_drawn}
use Rattle.draw_model.specs.WholeDraw.{vertices_of, corners_of, is_whole, is_front, is_culled, layers_of, first_position, first_slots, rows_of, fragments_of}
use Rattle.int_device.specs.declared.assembled.Assembled.{Assembled}
use Rattle.int_device.specs.Draws.{fragments_by}
use Rattle.int_device.specs.Scenes.{Scene, outcome_in, outcomes_in, point_of, triangle_of, assembled_in, fragments_faced, fragments_assembled}

-- ---- nothing

pub none_filtered : (test : ℕ → Bool) (xs : List ℕ) → ((x : ℕ) → test x ≡ false) → filter test xs ≡ []
none_filtered test [] h = refl
none_filtered test (x ∷ xs) h = ap (λ (b : Bool). cond b (x ∷ filter test xs) (filter test xs)) (h x) ∙ none_filtered test xs h

none_flat : {A : Type 0} (f : ℕ → List A) (xs : List ℕ) → ((x : ℕ) → f x ≡ []) → flat_map f xs ≡ []
none_flat f [] h = refl
none_flat {A} f (x ∷ xs) h = ap (λ (ys : List A). ys ++ flat_map f xs) (h x) ∙ none_flat f xs h

-- ---- by the outcomes

abbrev at_pixel : Topology → PrerastPart → List Outcome → (layer y x : ℕ) → Fragment
at_pixel t part outcomes layer y x = record {
  layer = layer;
  x = x;
  y = y;
  depth = slice_index (first_position outcomes) 2;
  front = is_front t part.ccw (corners_of outcomes);
  slots = first_slots outcomes;
}

abbrev drawn : Topology → PrerastPart → Dynamic → List Outcome → List Fragment
drawn t part dynamic outcomes = flat_map (λ layer. flat_map (λ y. map (at_pixel t part outcomes layer y)
    (filter (λ x. is_covered t (corners_of outcomes) x y) (range_with_len (slice_index dynamic.scissor 0) (slice_index dynamic.scissor 2))))
    (rows_of dynamic)) (layers_of part.view_mask)

abbrev by_outcomes : Topology → PrerastPart → Dynamic → List Outcome → List Fragment
by_outcomes t part dynamic outcomes =
    cond (is_whole outcomes && not (is_culled t part.cull (is_front t part.ccw (corners_of outcomes)))) (drawn t part dynamic outcomes) []

none_drawn : (t : Topology) (part : PrerastPart) (dynamic : Dynamic) (outcomes : List Outcome) → ((x y : ℕ) → is_covered t (corners_of outcomes) x y ≡ false) → drawn t part dynamic outcomes ≡ []
none_drawn t part dynamic outcomes h =
    none_flat (λ layer. flat_map (λ y. map (at_pixel t part outcomes layer y)
    (filter (λ x. is_covered t (corners_of outcomes) x y) (range_with_len (slice_index dynamic.scissor 0) (slice_index dynamic.scissor 2)))) (rows_of dynamic))
    (layers_of part.view_mask) (λ layer.
    none_flat (λ y. map (at_pixel t part outcomes layer y) (filter (λ x. is_covered t (corners_of outcomes) x y) (range_with_len (slice_index dynamic.scissor 0) (slice_index dynamic.scissor 2))))
    (rows_of dynamic) (λ y.
    ap (map (at_pixel t part outcomes layer y)) (none_filtered (λ x. is_covered t (corners_of outcomes) x y) (range_with_len (slice_index dynamic.scissor 0) (slice_index dynamic.scissor 2)) (λ x. h x y))))

uncull : (culled : Bool) (fs gs : List Fragment) → fs ≡ gs → cond culled [] fs ≡ cond (not culled) gs []
uncull true fs gs h = refl
uncull false fs gs h = h

both_none : (b : Bool) (fs : List Fragment) → fs ≡ [] → [] ≡ cond b fs []
both_none true fs h = sym h
both_none false fs h = refl

choose : (t : Topology) (part : PrerastPart) (dynamic : Dynamic) (a : Assembled) (front whole own guarded : Bool) (fs : List Fragment) → own ≡ whole →
    fragments_by (record { topology = t; corners = a.corners; front = front; slots = a.slots }) dynamic part.view_mask ≡ fs → (guarded ≡ false → fs ≡ []) →
    cond own (fragments_faced t part dynamic a (cond guarded (Some front) None)) [] ≡ cond (whole && not (is_culled t part.cull front)) fs []
choose t part dynamic a front false own guarded fs same h k = rw same refl
choose t part dynamic a front true own true fs same h k = rw same (uncull (is_culled t part.cull front) (fragments_by (record { topology = t; corners = a.corners; front = front; slots = a.slots }) dynamic part.view_mask) fs h)
choose t part dynamic a front true own false fs same h k = rw same (both_none (not (is_culled t part.cull front)) fs (k refl))

whole_one : (p : Bool) → p ≡ list_all (λ b. b) (p ∷ [])
whole_one true = refl
whole_one false = refl

whole_three : (p q r : Bool) → (p && q && r) ≡ list_all (λ b. b) (p ∷ q ∷ r ∷ [])
whole_three true true true = refl
whole_three true true false = refl
whole_three true false true = refl
whole_three true false false = refl
whole_three false true true = refl
whole_three false true false = refl
whole_three false false true = refl
whole_three false false false = refl

point_law : (part : PrerastPart) (dynamic : Dynamic) (a : Outcome) → fragments_assembled Points part dynamic (point_of (ended_of a)) ≡ by_outcomes Points part dynamic (a ∷ [])
unfolding fragments_assembled fragments_by is_covered
point_law part dynamic a =
    choose Points part dynamic (point_of (ended_of a)) true (is_whole (a ∷ [])) (is_drawn a.kind) (is_guarded (corner (corners_of (a ∷ [])) 0)) (drawn Points part dynamic (a ∷ [])) (whole_one (is_drawn a.kind)) refl
    (λ out. none_drawn Points part dynamic (a ∷ []) (λ x y. rw out refl))

triangle_law : (part : PrerastPart) (dynamic : Dynamic) (a b c : Outcome) →
    fragments_assembled Triangles part dynamic (triangle_of (ended_of a) (ended_of b) (ended_of c)) ≡ by_outcomes Triangles part dynamic (a ∷ b ∷ c ∷ [])
unfolding fragments_assembled fragments_by is_covered
triangle_law part dynamic a b c =
    let corners = corners_of (a ∷ b ∷ c ∷ []) in
    choose Triangles part dynamic (triangle_of (ended_of a) (ended_of b) (ended_of c)) (is_front Triangles part.ccw corners) (is_whole (a ∷ b ∷ c ∷ [])) (is_drawn a.kind && is_drawn b.kind && is_drawn c.kind)
    (is_guarded (corner corners 0) && is_guarded (corner corners 1) && is_guarded (corner corners 2)) (drawn Triangles part dynamic (a ∷ b ∷ c ∷ [])) (whole_three (is_drawn a.kind) (is_drawn b.kind) (is_drawn c.kind)) refl
    (λ out. none_drawn Triangles part dynamic (a ∷ b ∷ c ∷ []) (λ x y. rw out refl))

times_one : (n : ℕ) → n ≡ n * 1
times_one n = omega arith

-- ---- by the scene

abbrev outcomes_at : Scene → Topology → (instance primitive : ℕ) → List Outcome
outcomes_at s t instance primitive = map (outcome_in s instance) (vertices_of t primitive)

assembled_point : (s : Scene) (instance primitive : ℕ) → point_of (ended_of (outcome_in s instance primitive)) ≡ point_of (ended_of (outcome_in s instance (primitive * 1)))
assembled_point s instance primitive = ap (λ (n : ℕ). point_of (ended_of (outcome_in s instance n))) (times_one primitive)

assembled_triangle : (s : Scene) (instance a b c d e f : ℕ) → a ≡ d → b ≡ e → c ≡ f →
    triangle_of (ended_of (outcome_in s instance a)) (ended_of (outcome_in s instance b)) (ended_of (outcome_in s instance c))
    ≡ triangle_of (ended_of (outcome_in s instance d)) (ended_of (outcome_in s instance e)) (ended_of (outcome_in s instance f))
assembled_triangle s instance a b c d e f h k l =
    ap (λ (n : ℕ). triangle_of (ended_of (outcome_in s instance n)) (ended_of (outcome_in s instance b)) (ended_of (outcome_in s instance c))) h
    ∙ ap (λ (n : ℕ). triangle_of (ended_of (outcome_in s instance d)) (ended_of (outcome_in s instance n)) (ended_of (outcome_in s instance c))) k
    ∙ ap (λ (n : ℕ). triangle_of (ended_of (outcome_in s instance d)) (ended_of (outcome_in s instance e)) (ended_of (outcome_in s instance n))) l

law_at : (s : Scene) (t : Topology) (instance primitive : ℕ) →
    fragments_assembled t s.state.prerast s.dynamic (assembled_in s t instance primitive) ≡ by_outcomes t s.state.prerast s.dynamic (outcomes_at s t instance primitive)
unfolding assembled_in
law_at s Points instance primitive =
    ap (fragments_assembled Points s.state.prerast s.dynamic) (assembled_point s instance primitive)
    ∙ point_law s.state.prerast s.dynamic (outcome_in s instance (primitive * 1))
law_at s Triangles instance primitive =
    ap (fragments_assembled Triangles s.state.prerast s.dynamic)
    (assembled_triangle s instance (3 * primitive) (3 * primitive + 1) (3 * primitive + 2) (primitive * 3) (primitive * 3 + 1) (primitive * 3 + 1 + 1) (omega arith) (omega arith) (omega arith))
    ∙ triangle_law s.state.prerast s.dynamic (outcome_in s instance (primitive * 3)) (outcome_in s instance (primitive * 3 + 1)) (outcome_in s instance (primitive * 3 + 1 + 1))

-- the fragments of a primitive of the draw
pub fragments_law : (s : Scene) (instance primitive : ℕ) →
    fragments_assembled s.state.vertex.topology s.state.prerast s.dynamic (assembled_in s s.state.vertex.topology instance primitive)
    ≡ fragments_of s.state s.dynamic (outcomes_in s instance primitive)
unfolding fragments_of
fragments_law s instance primitive = law_at s s.state.vertex.topology instance primitive

work_at : (s : Scene) (t : Topology) (instance primitive : ℕ) →
    (assembled_in s t instance primitive).work ≡ sum (map (λ (outcome : Outcome). outcome.work) (outcomes_at s t instance primitive))
unfolding assembled_in
work_at s Points instance primitive =
    ap (λ (a : Assembled). a.work) (assembled_point s instance primitive) ∙ one (outcome_in s instance (primitive * 1)).work
  where
    one : (n : ℕ) → n ≡ sum (n ∷ [])
    one n = omega arith
work_at s Triangles instance primitive =
    ap (λ (a : Assembled). a.work)
    (assembled_triangle s instance (3 * primitive) (3 * primitive + 1) (3 * primitive + 2) (primitive * 3) (primitive * 3 + 1) (primitive * 3 + 1 + 1) (omega arith) (omega arith) (omega arith))
    ∙ three (outcome_in s instance (primitive * 3)).work (outcome_in s instance (primitive * 3 + 1)).work (outcome_in s instance (primitive * 3 + 1 + 1)).work
  where
    three : (m n k : ℕ) → m + n + k ≡ sum (m ∷ n ∷ k ∷ [])
    three m n k = omega arith

-- its work
pub work_law : (s : Scene) (instance primitive : ℕ) →
    (assembled_in s s.state.vertex.topology instance primitive).work ≡ sum (map (λ (outcome : Outcome). outcome.work) (outcomes_in s instance primitive))
work_law s instance primitive = work_at s s.state.vertex.topology instance primitive
