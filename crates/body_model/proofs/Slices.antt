-- The instructions from one place up to another.
use Rattle.std.proofs.Common.{◌≡◌, ℕ, zero, suc, ◌+◌, ◌-◌, ◌<◌, ◌≤◌, List, [], ◌∷◌, ◌++◌, length, take, drop, refl, ap, sym, ◌∙◌, arith}
use Rattle.std.specs.Prelude.{slice_get}
use Rattle.std.proofs.Math.Seq.{take-add}
use Rattle.std.proofs.lemmas.List.{drop-drop, length-drop, length-take-le, take-append-drop}
use Rattle.spirv_model.specs.declared.module.Inst.{Inst}
use Rattle.body_model.specs.Code.{slice}

slice_on : (insts : List Inst) (from middle to : ℕ) → from ≤ middle → middle ≤ to → slice insts from to ≡ slice insts from middle ++ slice insts middle to
slice_on insts from middle to forward more =
    let whole : to - from ≡ (middle - from) + (to - middle) = omega arith in
    let start : from + (middle - from) ≡ middle = omega arith in
    ap (λ (n : ℕ). take n (drop from insts)) whole ∙ take-add (middle - from) (to - middle) (drop from insts)
    ∙ ap (λ (l : List Inst). slice insts from middle ++ take (to - middle) l) (drop-drop (middle - from) from insts ∙ ap (λ (n : ℕ). drop n insts) start)

-- two slices, one behind the other
pub joined : (insts xs ys : List Inst) (from middle to : ℕ) → from ≤ middle → middle ≤ to → xs ≡ slice insts from middle → ys ≡ slice insts middle to → xs ++ ys ≡ slice insts from to
joined insts xs ys from middle to forward more is rest = ap (λ (l : List Inst). l ++ ys) is ∙ ap (λ (l : List Inst). slice insts from middle ++ l) rest ∙ sym (slice_on insts from middle to forward more)

pub nothing : (insts : List Inst) (from to : ℕ) → from ≡ to → slice insts from to ≡ []
nothing insts from to same = let none : to - from ≡ 0 = omega arith in ap (λ (n : ℕ). take n (drop from insts)) none

pub slice_long : (insts : List Inst) (from to : ℕ) → to ≤ length insts → length (slice insts from to) ≡ to - from
slice_long insts from to within = let few : to - from ≤ length insts - from = omega arith in length-take-le (to - from) (drop from insts) (omega (arith, length-drop from insts))

-- a slice, and what stands behind it
pub slice_and_rest : (insts : List Inst) (from to : ℕ) → from ≤ to → slice insts from to ++ drop to insts ≡ drop from insts
slice_and_rest insts from to forward =
    let start : from + (to - from) ≡ to = omega arith in
    ap (λ (l : List Inst). slice insts from to ++ l) (sym (drop-drop (to - from) from insts ∙ ap (λ (n : ℕ). drop n insts) start)) ∙ take-append-drop (to - from) (drop from insts)

pub slice_get-take : {X : Type 0} (n k : ℕ) (xs : List X) → k < n → slice_get (take n xs) k ≡ slice_get xs k
slice_get-take zero k xs less = absurd (omega arith)
slice_get-take (suc n) k [] less = refl
slice_get-take (suc n) zero (x ∷ xs) less = refl
slice_get-take (suc n) (suc k) (x ∷ xs) less = slice_get-take n k xs (omega arith)

pub slice_get-drop : {X : Type 0} (n k : ℕ) (xs : List X) → slice_get (drop n xs) k ≡ slice_get xs (n + k)
slice_get-drop zero k xs = ap (slice_get xs) {x = k} {y = 0 + k} (omega arith)
slice_get-drop (suc n) k [] = refl
slice_get-drop (suc n) k (x ∷ xs) = slice_get-drop n k xs ∙ ap (slice_get (x ∷ xs)) {x = suc (n + k)} {y = suc n + k} (omega arith)

-- the last instruction of a slice
pub slice_last : (insts : List Inst) (from to : ℕ) → from < to → to ≤ length insts → slice_get (slice insts from to) (length (slice insts from to) - 1) ≡ slice_get insts (to - 1)
slice_last insts from to forward within =
    let place : from + ((to - from) - 1) ≡ to - 1 = omega arith in
    ap (λ (n : ℕ). slice_get (slice insts from to) (n - 1)) (slice_long insts from to within)
    ∙ slice_get-take (to - from) ((to - from) - 1) (drop from insts) (omega arith) ∙ slice_get-drop from ((to - from) - 1) insts ∙ ap (slice_get insts) place
