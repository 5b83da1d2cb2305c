-- The intervals of a part of a sequence, among those of the sequence.
use Rattle.std.proofs.Common.{◌≡◌, ℕ, ◌<◌, ◌≤◌, ◌⊎◌, inl, inr, Bool, true, false, ◌==◌, ◌||◌, ◌&&◌, List, [], ◌∷◌, ◌++◌, refl, sym, ◌∙◌, arith}
use Rattle.std.specs.List.{list_any}
use Rattle.std.proofs.lemmas.Bool.{eqb-true}
use Rattle.std.proofs.lemmas.List.Folds.{list_any-append}
use Rattle.check_model.specs.Intervals.{Interval, interval, around}
use Rattle.typed_model.proofs.Keeping.{LieIn}
use Rattle.change_model.proofs.LeftScopes.{has_bounds}

-- intervals between two places have their bounds there
pub bounded : (low high first past : ℕ) (is : List Interval) → LieIn low high is → list_any (has_bounds first past) is ≡ true → (low ≤ first) × (past ≤ high)
bounded low high first past [] lie some = absurd (true_false (sym some))
  where
    true_false : true ≡ false → ⊥
    true_false is = cc
bounded low high first past (i ∷ is) lie some = by_test (λ more. bounded low high first past is lie.2 more) (i.from == first) (i.to == past) refl refl some
  where
    by_test : (list_any (has_bounds first past) is ≡ true → (low ≤ first) × (past ≤ high)) → (a b : Bool) → i.from == first ≡ a → i.to == past ≡ b → ((a && b) || list_any (has_bounds first past) is) ≡ true
        → (low ≤ first) × (past ≤ high)
    by_test rest true true starts ends some =
        let s : i.from ≡ first = eqb-true i.from first starts in
        let e : i.to ≡ past = eqb-true i.to past ends in
        let l = lie.0 in
        let h = lie.1 in
        (omega (arith, s, l), omega (arith, e, h))
    by_test rest true false starts ends some = rest some
    by_test rest false b starts ends some = rest some

pub any_left : (test : Interval → Bool) (xs ys : List Interval) → list_any test xs ≡ true → list_any test (xs ++ ys) ≡ true
any_left test xs ys some = list_any-append test xs ys ∙ by_test (list_any test xs) (list_any test ys) some
  where
    by_test : (a b : Bool) → a ≡ true → (a || b) ≡ true
    by_test true b is = refl
    by_test false b is = cc

pub any_right : (test : Interval → Bool) (xs ys : List Interval) → list_any test ys ≡ true → list_any test (xs ++ ys) ≡ true
any_right test xs ys some = list_any-append test xs ys ∙ by_test (list_any test xs) (list_any test ys) some
  where
    by_test : (a b : Bool) → b ≡ true → (a || b) ≡ true
    by_test true b is = refl
    by_test false b is = is

any_either : (test : Interval → Bool) (xs ys : List Interval) → list_any test (xs ++ ys) ≡ true → (list_any test xs ≡ true) ⊎ (list_any test ys ≡ true)
any_either test xs ys some = by_test (list_any test xs) (list_any test ys) refl refl (sym (list_any-append test xs ys) ∙ some)
  where
    by_test : (a b : Bool) → list_any test xs ≡ a → list_any test ys ≡ b → (a || b) ≡ true → (list_any test xs ≡ true) ⊎ (list_any test ys ≡ true)
    by_test true b first second either = inl first
    by_test false true first second either = inr second
    by_test false false first second either = cc

-- the intervals of a part among those of the sequence
pub record PartOf (from to : ℕ) (inside all : List Interval) : Type 0 where
  pub among : (test : Interval → Bool) → list_any test inside ≡ true → list_any test all ≡ true
  pub own : (first past : ℕ) → from < first → first < past → past ≤ to → list_any (has_bounds first past) all ≡ true → list_any (has_bounds first past) inside ≡ true

pub part_all : (from to : ℕ) (inside : List Interval) → PartOf from to inside inside
part_all from to inside = record { among = λ test some. some; own = λ first past low less high some. some }

-- behind others, or before
pub part_behind : (low high from to : ℕ) (inside others all : List Interval) → high ≤ from → LieIn low high others → PartOf from to inside all → PartOf from to inside (others ++ all)
part_behind low high from to inside others all order lie p = record {
  among = λ test some. any_right test others all (p.among test some);
  own = λ first past least less most some. elim (any_either (has_bounds first past) others all some) [
    | inl outside ↦ (let b = bounded low high first past others lie outside in let h = b.1 in absurd (omega (arith, h, order, least, less)))
    | inr there ↦ p.own first past least less most there
  ];
}

pub part_before : (low high from to : ℕ) (inside others all : List Interval) → to ≤ low → LieIn low high others → PartOf from to inside all → PartOf from to inside (all ++ others)
part_before low high from to inside others all order lie p = record {
  among = λ test some. any_left test all others (p.among test some);
  own = λ first past least less most some. elim (any_either (has_bounds first past) all others some) [
    | inl there ↦ p.own first past least less most there
    | inr outside ↦ (let b = bounded low high first past others lie outside in let l = b.0 in absurd (omega (arith, l, order, most, less)))
  ];
}

-- in an interval of its own
pub part_around : (from to : ℕ) (inside : List Interval) → PartOf from to inside (around from to inside)
part_around from to inside = record {
  among = λ test some. later (test (interval from to)) (list_any test inside) some;
  own = λ first past least less most some. by_test first past least (from == first) (to == past) refl some;
}
  where
    later : (a b : Bool) → b ≡ true → (a || b) ≡ true
    later true b is = refl
    later false b is = is

    by_test : (first past : ℕ) → from < first → (a b : Bool) → from == first ≡ a → ((a && b) || list_any (has_bounds first past) inside) ≡ true → list_any (has_bounds first past) inside ≡ true
    by_test first past least true b starts some = let s : from ≡ first = eqb-true from first starts in absurd (omega (arith, s, least))
    by_test first past least false b starts some = some

-- and what lies in that
pub part_within : (from to : ℕ) (inside all : List Interval) → PartOf from to (around from to inside) all → PartOf from to inside all
part_within from to inside all p =
    let a = part_around from to inside in
    record { among = λ test some. p.among test (a.among test some); own = λ first past least less most some. a.own first past least less most (p.own first past least less most some) }
