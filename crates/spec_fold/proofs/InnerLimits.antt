-- What limits say of the intervals of a function.
use Rattle.std.proofs.Common.{◌≡◌, ℕ, ◌<◌, ◌≤◌, inl, inr, Bool, true, false, not, ◌&&◌, ◌||◌, nat_lt, nat_le, List, [], ◌∷◌, length, slice_index, refl, ap, sym, ◌∙◌, arith}
use Rattle.std.specs.List.{list_all, list_any}
use Rattle.std.proofs.lemmas.Bool.{cases_lt, lt-ltb, le-ltb, le-leb, ltb-true, leb-true, and_parts}
use Rattle.spirv_model.specs.declared.module.Inst.{Inst}
use Rattle.body_model.specs.Grammar.{Derives}
use Rattle.check_model.specs.Intervals.{Interval, has_place, intervals_of, is_visible}
use Rattle.spv_check.specs.SequenceLimits.{AreLimits}
use Rattle.spec_fold.proofs.Nests.{Among}

clash : {Q : Type 0} (b : Bool) → b ≡ true → b ≡ false → Q
clash true is isnt = cc
clash false is isnt = cc

-- ---- tests on lists

module _ (test : Interval → Bool) where
  pub any_at : (list : List Interval) (i : Interval) → Among i list → test i ≡ true → list_any test list ≡ true
  any_at [] i among holds = absurd among
  any_at (j ∷ list) i (inl first) holds = ap (λ (b : Bool). b || list_any test list) (sym (ap test first) ∙ holds)
  any_at (j ∷ list) i (inr later) holds = by_first (test j) (any_at list i later holds)
    where
      by_first : (a : Bool) → list_any test list ≡ true → (a || list_any test list) ≡ true
      by_first true some = refl
      by_first false some = some

  -- an interval that the test answers so
  pub record Answered (list : List Interval) (answer : Bool) : Type 0 where
    pub i : Interval
    pub among : Among i list
    pub so : test i ≡ answer

  later_one : (j : Interval) (list : List Interval) (answer : Bool) → Answered list answer → Answered (j ∷ list) answer
  later_one j list answer s = record { i = s.i; among = inr s.among; so = s.so }

  pub some_any : (list : List Interval) → list_any test list ≡ true → Answered list true
  some_any [] some = cc
  some_any (j ∷ list) some = by_first (test j) refl some (λ rest. some_any list rest)
    where
      by_first : (b : Bool) → test j ≡ b → (b || list_any test list) ≡ true → (list_any test list ≡ true → Answered list true) → Answered (j ∷ list) true
      by_first true holds some rest = record { i = j; among = inl refl; so = holds }
      by_first false isnt some rest = later_one j list true (rest some)

  pub all_at : (list : List Interval) (i : Interval) → Among i list → list_all test list ≡ true → test i ≡ true
  all_at [] i among all = absurd among
  all_at (j ∷ list) i (inl first) all = ap test first ∙ (and_parts (test j) (list_all test list) all).0
  all_at (j ∷ list) i (inr later) all = all_at list i later (and_parts (test j) (list_all test list) all).1

  pub some_not : (list : List Interval) → list_all test list ≡ false → Answered list false
  some_not [] none = cc
  some_not (j ∷ list) none = by_first (test j) refl none (λ rest. some_not list rest)
    where
      by_first : (b : Bool) → test j ≡ b → (b && list_all test list) ≡ false → (list_all test list ≡ false → Answered list false) → Answered (j ∷ list) false
      by_first true holds none rest = later_one j list false (rest none)
      by_first false isnt none rest = record { i = j; among = inl refl; so = isnt }

-- ---- limits

hidden : (h k : Bool) → h ≡ true → k ≡ false → (not h || k) ≡ true → ⊥
hidden h k is isnt kept = clash k (second h k is kept) isnt
  where
    second : (a b : Bool) → a ≡ true → (not a || b) ≡ true → b ≡ true
    second true b is kept = kept
    second false b is kept = cc

shown : (h k : Bool) → (not h || k) ≡ false → (h ≡ true) × (k ≡ false)
shown true k none = (refl, none)
shown false k none = cc

first_true : (a b : Bool) → a ≡ true → (a && b) ≡ false → b ≡ false
first_true true b is none = none
first_true false b is none = cc

has_it : (i : Interval) (place : ℕ) → i.from ≤ place → place < i.to → has_place place i ≡ true
has_it i place low high = rw (le-leb i.from place low) (lt-ltb place i.to high)

has_of : (i : Interval) (place : ℕ) → has_place place i ≡ true → (i.from ≤ place) × (place < i.to)
has_of i place is = let p = and_parts (nat_le i.from place) (nat_lt place i.to) is in (leb-true i.from place p.0, ltb-true place i.to p.1)

past_it : (i : Interval) (place : ℕ) → i.to ≤ place → has_place place i ≡ false
past_it i place most = by_first (nat_le i.from place) (le-ltb place i.to most)
  where
    by_first : (a : Bool) → nat_lt place i.to ≡ false → (a && nat_lt place i.to) ≡ false
    by_first true isnt = isnt
    by_first false isnt = refl

-- the interval has the place, and ends by the other
pub record EndsBy (is : List Interval) (place by : ℕ) : Type 0 where
  pub i : Interval
  pub among : Among i is
  pub low : i.from ≤ place
  pub high : place < i.to
  pub ends : i.to ≤ by

module _ (insts : List Inst) (d : Derives insts) (limits : List ℕ) (are : AreLimits insts limits) where
  abbrev limit : ℕ → ℕ
  limit place = slice_index limits place

  abbrev kept : ℕ → ℕ → Interval → Bool
  kept a b i = not (has_place a i) || has_place b i

  -- no limit lies behind the end of an interval that has the place
  pub limit_most : (i : Interval) (place : ℕ) → Among i (intervals_of d) → i.from ≤ place → place < i.to → i.to < length insts → limit place ≤ i.to
  unfolding is_visible
  limit_most i place among low high within = elim (cases_lt i.to (limit place)) [
    | inr most ↦ most
    | inl less ↦
        let both : (nat_lt place i.to && list_all (kept place i.to) (intervals_of d)) ≡ true = are.are_exact d place i.to within ∙ rw (lt-ltb place i.to high) (lt-ltb i.to (limit place) less) in
        absurd (hidden (has_place place i) (has_place i.to i) (has_it i place low high) (past_it i i.to (omega arith))
        (all_at (kept place i.to) (intervals_of d) i among (and_parts (nat_lt place i.to) (list_all (kept place i.to) (intervals_of d)) both).1))
  ]

  -- behind a limit an interval has ended that has the place
  pub limit_ends : (place by : ℕ) → place < by → limit place ≤ by → by < length insts → EndsBy (intervals_of d) place by
  unfolding is_visible
  limit_ends place by less most within =
      let none : (nat_lt place by && list_all (kept place by) (intervals_of d)) ≡ false = are.are_exact d place by within ∙ rw (lt-ltb place by less) (le-ltb by (limit place) most) in
      let s = some_not (kept place by) (intervals_of d) (first_true (nat_lt place by) (list_all (kept place by) (intervals_of d)) (lt-ltb place by less) none) in
      let p = shown (has_place place s.i) (has_place by s.i) s.so in
      let h = has_of s.i place p.0 in
      record { i = s.i; among = s.among; low = h.0; high = h.1; ends = ended s.i h.0 p.1 }
    where
      ended : (i : Interval) → i.from ≤ place → has_place by i ≡ false → i.to ≤ by
      ended i low isnt = elim (cases_lt by i.to) [
        | inl before ↦ clash (has_place by i) (has_it i by (omega (arith, low, less)) before) isnt
        | inr past ↦ past
      ]
