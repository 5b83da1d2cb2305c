-- Each arm of an OpSwitch that stands leaves fewer to stand.
use Rattle.std.proofs.Common.{◌≡◌, ℕ, suc, ◌<◌, ◌≤◌, Bool, true, false, not, ◌==◌, ◌||◌, if◌then◌else◌, List, [], ◌∷◌, length, arith}
use Rattle.std.specs.Prelude.{IsTrue}
use Rattle.body_model.specs.Switches.{is_among, without}

one_more : (b : Bool) (x n : ℕ) (xs ys : List ℕ) → length ys ≤ length xs → length (if b then x ∷ ys else ys) ≤ suc (length xs)
one_more true x n xs ys less = omega arith
one_more false x n xs ys less = omega arith

no_longer : (label : ℕ) (labels : List ℕ) → length (without label labels) ≤ length labels
no_longer label [] = omega arith
no_longer label (first ∷ labels) = one_more (not (first == label)) first 0 labels (without label labels) (no_longer label labels)

by_test : (b more : Bool) (x : ℕ) (xs ys : List ℕ) → length ys ≤ length xs → (more ≡ true → length ys < length xs) → b || more ≡ true → length (if not b then x ∷ ys else ys) < suc (length xs)
by_test true more x xs ys less fewer is = omega arith
by_test false more x xs ys less fewer is = omega (arith, fewer is)

pub shorter : (label : ℕ) (labels : List ℕ) → IsTrue (is_among label labels) → length (without label labels) < length labels
shorter label [] is = cc
shorter label (first ∷ labels) is = by_test (first == label) (is_among label labels) first labels (without label labels) (no_longer label labels) (shorter label labels) is
