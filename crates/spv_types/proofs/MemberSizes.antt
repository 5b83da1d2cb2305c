-- Sizes of structures, member by member.
use Rattle.std.proofs.Common.{◌≡◌, ℕ, ◌+◌, ◌<◌, Bool, true, false, ◌&&◌, if◌then◌else◌, nat_le, List, length, take, get_or, refl, ◌∙◌, ap, arith}
use Rattle.std.specs.Prelude.{Option, None, Some}
use Rattle.std.specs.List.{list_all, sum_by}
use Rattle.std.proofs.lemmas.Grind.{common_steps}
use Rattle.std.proofs.lemmas.List.Folds.{list_all_at, list_all_more}
use Rattle.std.proofs.lemmas.List.Sums.{sum_by_more_le, fold_more}

abbrev sized : (ℕ → Bool) → (ℕ → ℕ) → ℕ → List ℕ → Option ℕ
sized is size limit ids = if list_all is ids && nat_le (sum_by size ids) limit then Some (sum_by size ids) else None

pub sized-not : (is : ℕ → Bool) (size : ℕ → ℕ) (limit : ℕ) (ids : List ℕ) (i : ℕ) → i < length ids → is (get_or ids i 0) ≡ false → sized is size limit ids ≡ None
sized-not is size limit ids i within isnt = rw (list_all_at is ids i 0 within isnt)

by_size : (all : Bool) (size limit : ℕ) → limit < size → (if all && nat_le size limit then Some size else None) ≡ None
by_size true size limit over = grind (arith, common_steps)
by_size false size limit over = refl

pub sized-over : (is : ℕ → Bool) (size : ℕ → ℕ) (limit : ℕ) (ids : List ℕ) (i : ℕ) → i < length ids
    → limit < sum_by size (take i ids) + size (get_or ids i 0) → sized is size limit ids ≡ None
sized-over is size limit ids i within over = by_size (list_all is ids) (sum_by size ids) limit (omega (arith, sum_by_more_le size ids i 0 within))

pub all_more : (is : ℕ → Bool) (ids : List ℕ) (i : ℕ) → i < length ids → list_all is (take i ids) ≡ true → is (get_or ids i 0) ≡ true → list_all is (take (i + 1) ids) ≡ true
all_more is ids i within before here = list_all_more is ids i 0 within ∙ ap (λ b. b && is (get_or ids i 0)) before ∙ here

pub size_more : (size : ℕ → ℕ) (ids : List ℕ) (i : ℕ) → i < length ids → sum_by size (take (i + 1) ids) ≡ sum_by size (take i ids) + size (get_or ids i 0)
size_more size ids i within = fold_more (λ a x. a + size x) 0 ids i 0 within
