-- The columns and rows that hold what a primitive covers have all its fragments.
use Rattle.std.proofs.Common.{◌≡◌, ℕ, zero, suc, ◌+◌, ◌-◌, ◌<◌, ◌≤◌, inl, inr, Bool, true, false, cond, List, [], ◌∷◌, ◌++◌, map, refl, ap, sym, ◌∙◌, subst, arith, append-nil}
use Rattle.std.proofs.Math.Path.{fun_ext}
use Rattle.std.specs.Prelude.{filter, slice_index}
use Rattle.std.specs.List.{flat_map, range_with_len}
use Rattle.std.proofs.lemmas.Grind.{flat_map-append}
use Rattle.draw_model.specs.Coverage.{is_covered}
use Rattle.draw_model.specs.declared.framebuffer.Targets.{Targets}
use Rattle.draw_model.specs.Invocation.{Fragment}
use Rattle.draw_model.specs.Pixel.{has_bit}
use Rattle.state_model.specs.declared.TheConstants.{VIEWS}
use Rattle.prerast_lib.specs.Spans.{IsLeftOut, HoldColumns, HoldRows}
use Rattle.int_device.specs.declared.primitive.Primitive.{Primitive}
use Rattle.int_device.specs.Draws.{Shade, Draws, fragment_by, fragments_in_row, fragments_in_layer, fragments_in_layers, some_mask, fragments_by}
use Rattle.int_device.proofs.PrimitiveLaws.{none_filtered}
use Rattle.int_device.proofs.Shades.{draws_by}

range_append : (a m n : ℕ) → range_with_len a (m + n) ≡ range_with_len a m ++ range_with_len (a + m) n
range_append a zero n = ap (range_with_len a) (zero_sum n) ∙ ap (λ (b : ℕ). range_with_len b n) (sum_zero a)
  where
    zero_sum : (n : ℕ) → 0 + n ≡ n
    zero_sum n = omega arith

    sum_zero : (a : ℕ) → a ≡ a + 0
    sum_zero a = omega arith
range_append a (suc m) n =
    ap (range_with_len a) (suc_sum m n) ∙ ap (λ (xs : List ℕ). a ∷ xs) (range_append (a + 1) m n)
    ∙ ap (λ (b : ℕ). a ∷ (range_with_len (a + 1) m ++ range_with_len b n)) (moved a m)
  where
    suc_sum : (m n : ℕ) → suc m + n ≡ suc (m + n)
    suc_sum m n = omega arith

    moved : (a m : ℕ) → a + 1 + m ≡ a + suc m
    moved a m = omega arith

-- a range in three parts
three_parts : (start extent from count : ℕ) → start ≤ from → from + count ≤ start + extent →
    range_with_len start extent ≡ (range_with_len start (from - start) ++ range_with_len from count) ++ range_with_len (from + count) (start + extent - (from + count))
three_parts start extent from count first last =
    let whole : extent ≡ (from - start) + count + (start + extent - (from + count)) = omega arith in
    let middle : start + (from - start) ≡ from = omega arith in
    let end : start + ((from - start) + count) ≡ from + count = omega arith in
    ap (range_with_len start) whole ∙ range_append start ((from - start) + count) (start + extent - (from + count))
    ∙ ap (λ (b : ℕ). range_with_len start ((from - start) + count) ++ range_with_len b (start + extent - (from + count))) end
    ∙ ap (λ (xs : List ℕ). xs ++ range_with_len (from + count) (start + extent - (from + count))) (range_append start (from - start) count)
    ∙ ap (λ (b : ℕ). (range_with_len start (from - start) ++ range_with_len b count) ++ range_with_len (from + count) (start + extent - (from + count))) middle

-- where f gives nothing
empty_flat : {A : Type 0} (f : ℕ → List A) (a n : ℕ) → ((x : ℕ) → a ≤ x → x < a + n → f x ≡ []) → flat_map f (range_with_len a n) ≡ []
empty_flat f a zero h = refl
empty_flat {A} f a (suc n) h =
    ap (λ (xs : List A). xs ++ flat_map f (range_with_len (a + 1) n)) (h a (omega arith) (omega arith))
    ∙ empty_flat f (a + 1) n (λ x low high. h x (omega (arith, low)) (omega (arith, high)))

flat_part : {A : Type 0} (f : ℕ → List A) (start extent from count : ℕ) → start ≤ from → from + count ≤ start + extent → ((x : ℕ) → IsLeftOut start extent from count x → f x ≡ []) →
    flat_map f (range_with_len start extent) ≡ flat_map f (range_with_len from count)
flat_part {A} f start extent from count first last h =
    let before : flat_map f (range_with_len start (from - start)) ≡ [] =
    empty_flat f start (from - start) (λ x low high. h x (low, omega (arith, high), inl (omega (arith, high)))) in
    let after : flat_map f (range_with_len (from + count) (start + extent - (from + count))) ≡ [] =
    empty_flat f (from + count) (start + extent - (from + count)) (λ x low high. h x (omega (arith, low), omega (arith, high), inr low)) in
    ap (flat_map f) (three_parts start extent from count first last)
    ∙ flat_map-append f (range_with_len start (from - start) ++ range_with_len from count) (range_with_len (from + count) (start + extent - (from + count)))
    ∙ ap (λ (xs : List A). flat_map f (range_with_len start (from - start) ++ range_with_len from count) ++ xs) after
    ∙ append-nil (flat_map f (range_with_len start (from - start) ++ range_with_len from count))
    ∙ flat_map-append f (range_with_len start (from - start)) (range_with_len from count)
    ∙ ap (λ (xs : List A). xs ++ flat_map f (range_with_len from count)) before

-- a filter by parts
filter_flat : (test : ℕ → Bool) (xs : List ℕ) → filter test xs ≡ flat_map (λ x. cond (test x) (x ∷ []) []) xs
filter_flat test [] = refl
filter_flat test (x ∷ xs) = by_test (test x) (filter_flat test xs)
  where
    by_test : (b : Bool) → filter test xs ≡ flat_map (λ x. cond (test x) (x ∷ []) []) xs →
        cond b (x ∷ filter test xs) (filter test xs) ≡ cond b (x ∷ []) [] ++ flat_map (λ x. cond (test x) (x ∷ []) []) xs
    by_test true h = ap (λ (ys : List ℕ). x ∷ ys) h
    by_test false h = h

filter_part : (test : ℕ → Bool) (start extent from count : ℕ) → start ≤ from → from + count ≤ start + extent → ((x : ℕ) → IsLeftOut start extent from count x → test x ≡ false) →
    filter test (range_with_len start extent) ≡ filter test (range_with_len from count)
filter_part test start extent from count first last h =
    filter_flat test (range_with_len start extent)
    ∙ flat_part (λ x. cond (test x) (x ∷ []) []) start extent from count first last (λ x out. ap (λ (b : Bool). cond b (x ∷ []) []) (h x out))
    ∙ sym (filter_flat test (range_with_len from count))

layer_part : (p : Primitive) (left width top height from count row rows layer : ℕ) → HoldColumns p.corners left width from count → HoldRows p.corners top height row rows →
    fragments_in_layer p from count row rows layer ≡ fragments_in_layer p left width top height layer
layer_part p left width top height from count row rows layer h k =
    sym (flat_part (fragments_in_row p from count layer) top height row rows k.first k.last (λ y out.
    ap (map (fragment_by p layer y)) (none_filtered (λ x. is_covered p.topology p.corners x y) (range_with_len from count) (λ x. k.others p.topology x y out))))
    ∙ ap (λ (f : ℕ → List Fragment). flat_map f (range_with_len top height)) (fun_ext (λ y.
    ap (map (fragment_by p layer y)) (sym (filter_part (λ x. is_covered p.topology p.corners x y) left width from count h.first h.last (λ x out. h.others p.topology x y out)))))

layers_part : (p : Primitive) (left width top height from count row rows mask : ℕ) → HoldColumns p.corners left width from count → HoldRows p.corners top height row rows →
    fragments_in_layers p from count row rows mask VIEWS ≡ fragments_in_layers p left width top height mask VIEWS
layers_part p left width top height from count row rows mask h k =
    ap (λ (f : ℕ → List Fragment). flat_map f (filter (has_bit mask) (range_with_len 0 VIEWS))) (fun_ext (λ layer. layer_part p left width top height from count row rows layer h k))

-- what is drawn in them is drawn in the scissor
pub draws_boxed : (s of : Shade) (before after : Targets) (work : ℕ) (p : Primitive) (mask some from count row rows : ℕ) → of ≡ s → some ≡ some_mask mask →
    HoldColumns p.corners (slice_index of.dynamic.scissor 0) (slice_index of.dynamic.scissor 2) from count →
    HoldRows p.corners (slice_index of.dynamic.scissor 1) (slice_index of.dynamic.scissor 3) row rows →
    Draws s before after work (fragments_in_layers p from count row rows some VIEWS) → Draws s before after work (fragments_by p s.dynamic mask)
draws_boxed s of before after work p mask some from count row rows same masked h k drawn =
    draws_by s of before after work p mask some same masked
    (subst (Draws s before after work)
    (layers_part p (slice_index of.dynamic.scissor 0) (slice_index of.dynamic.scissor 2) (slice_index of.dynamic.scissor 1) (slice_index of.dynamic.scissor 3) from count row rows some h k) drawn)
