-- Intervals that lie between two places, and what they keep.
use Rattle.std.proofs.Common.{◌≡◌, ℕ, ◌+◌, ◌<◌, ◌≤◌, ◌⊎◌, inl, inr, Bool, true, false, not, ◌&&◌, ◌||◌, nat_le, nat_lt, List, [], ◌∷◌, ◌++◌, refl, ap, sym, ◌∙◌, arith}
use Rattle.std.proofs.lemmas.Bool.{cases_lt, lt-ltb, le-ltb, le-leb, lt-leb}
use Rattle.std.proofs.lemmas.List.Folds.{list_all-append}
use Rattle.basics.proofs.Bools.{first_of_both, second_of_both}
use Rattle.check_model.specs.Intervals.{Interval, interval, around, has_place}
use Rattle.typed_model.specs.Jumps.{keeps, Jump}

both : (a b : Bool) → a ≡ true → b ≡ true → (a && b) ≡ true
both true b is also = also
both false b is also = cc

-- all of them lie between the places
abbrev pub LieIn : ℕ → ℕ → List Interval → Type 0
LieIn from to [] = Unit {0}
LieIn from to (i ∷ intervals) = (from ≤ i.from) × (i.to ≤ to) × LieIn from to intervals

pub wider : (from to low high : ℕ) (intervals : List Interval) → low ≤ from → to ≤ high → LieIn from to intervals → LieIn low high intervals
wider from to low high [] down up lie = tt
wider from to low high (i ∷ intervals) down up lie = (omega (arith, lie.0), omega (arith, lie.1), wider from to low high intervals down up lie.2)

pub lie_both : (from to : ℕ) (is js : List Interval) → LieIn from to is → LieIn from to js → LieIn from to (is ++ js)
lie_both from to [] js lie also = also
lie_both from to (i ∷ is) js lie also = (lie.0, lie.1, lie_both from to is js lie.2 also)

pub lie_around : (from to : ℕ) (intervals : List Interval) → LieIn from to intervals → LieIn from to (around from to intervals)
lie_around from to intervals lie = (omega arith, omega arith, lie)

-- ---- places outside

abbrev pub IsOutside : ℕ → ℕ → ℕ → Type 0
IsOutside from to a = (a < from) ⊎ (to ≤ a)

not_second : (x y : Bool) → y ≡ false → (x && y) ≡ false
not_second true y is = is
not_second false y is = refl

no_place : (from to low high a : ℕ) → from ≤ low → high ≤ to → IsOutside from to a → has_place a (interval low high) ≡ false
no_place from to low high a down up (inl less) = ap (λ (h : Bool). h && nat_lt a high) (lt-leb low a (omega arith))
no_place from to low high a down up (inr past) = not_second (nat_le low a) (nat_lt a high) (le-ltb a high (omega arith))

without : (h k : Bool) → h ≡ false → (not h || k) ≡ true
without false k is = refl
without true k is = cc

same_without : (h k l : Bool) → k ≡ false → (not h || k) ≡ true → (not h || l) ≡ true
same_without true true l isnt is = cc
same_without true false l isnt is = cc
same_without false k l isnt is = refl

-- what isn't among their places is kept
pub kept_outside : (from to : ℕ) (intervals : List Interval) → LieIn from to intervals → (a b : ℕ) → IsOutside from to a → keeps intervals a b ≡ true
kept_outside from to [] lie a b out = refl
kept_outside from to (i ∷ intervals) lie a b out =
    both (not (has_place a i) || has_place b i) (keeps intervals a b) (without (has_place a i) (has_place b i) (no_place from to i.from i.to a lie.0 lie.1 out)) (kept_outside from to intervals lie.2 a b out)

-- what is kept at a place outside is kept at each place
pub same_outside : (from to : ℕ) (intervals : List Interval) → LieIn from to intervals → (a b c : ℕ) → IsOutside from to b → keeps intervals a b ≡ true → keeps intervals a c ≡ true
same_outside from to [] lie a b c out kept = refl
same_outside from to (i ∷ intervals) lie a b c out kept =
    both (not (has_place a i) || has_place c i) (keeps intervals a c)
    (same_without (has_place a i) (has_place b i) (has_place c i) (no_place from to i.from i.to b lie.0 lie.1 out) (first_of_both (not (has_place a i) || has_place b i) (keeps intervals a b) kept))
    (same_outside from to intervals lie.2 a b c out (second_of_both (not (has_place a i) || has_place b i) (keeps intervals a b) kept))

-- ---- places that are covered: nothing there is kept at the end or behind it

abbrev pub Covers : List Interval → ℕ → ℕ → Type 0
Covers intervals from to = (a b : ℕ) → from ≤ a → a < to → to ≤ b → keeps intervals a b ≡ true → ⊥

front_kept : (is js : List Interval) (a b : ℕ) → keeps (is ++ js) a b ≡ true → keeps is a b ≡ true
front_kept is js a b kept = first_of_both (keeps is a b) (keeps js a b) (sym (list_all-append (λ i. not (has_place a i) || has_place b i) is js) ∙ kept)

rest_kept : (is js : List Interval) (a b : ℕ) → keeps (is ++ js) a b ≡ true → keeps js a b ≡ true
rest_kept is js a b kept = second_of_both (keeps is a b) (keeps js a b) (sym (list_all-append (λ i. not (has_place a i) || has_place b i) is js) ∙ kept)

both_kept : (is js : List Interval) (a b : ℕ) → keeps is a b ≡ true → keeps js a b ≡ true → keeps (is ++ js) a b ≡ true
both_kept is js a b kept also = list_all-append (λ i. not (has_place a i) || has_place b i) is js ∙ both (keeps is a b) (keeps js a b) kept also

pub covers_none : (intervals : List Interval) (from to : ℕ) → to ≤ from → Covers intervals from to
covers_none intervals from to none a b low high past kept = absurd (omega arith)

pub covers_front : (is js : List Interval) (from to : ℕ) → Covers is from to → Covers (is ++ js) from to
covers_front is js from to covers a b low high past kept = covers a b low high past (front_kept is js a b kept)

pub covers_behind : (is js : List Interval) (from to : ℕ) → Covers js from to → Covers (is ++ js) from to
covers_behind is js from to covers a b low high past kept = covers a b low high past (rest_kept is js a b kept)

pub covers_more : (intervals : List Interval) (from middle to : ℕ) → middle ≤ to → Covers intervals from middle → Covers intervals middle to → Covers intervals from to
covers_more intervals from middle to up first second a b low high past kept =
    elim (cases_lt a middle) [ inl less ↦ first a b low less (omega arith) kept | inr more ↦ second a b more high past kept ]

pub covers_around : (from to : ℕ) (intervals : List Interval) → Covers (around from to intervals) from to
covers_around from to intervals a b low high past kept =
    never (has_place a (interval from to)) (has_place b (interval from to)) (both (nat_le from a) (nat_lt a to) (le-leb from a low) (lt-ltb a to high)) (no_place from to from to b (omega arith) (omega arith) (inr past))
    (first_of_both (not (has_place a (interval from to)) || has_place b (interval from to)) (keeps intervals a b) kept)
  where
    never : (h k : Bool) → h ≡ true → k ≡ false → (not h || k) ≡ true → ⊥
    never true true is isnt kept = cc
    never true false is isnt kept = cc
    never false k is isnt kept = cc

-- ---- jumps

-- over places that are covered, to a label behind them or at their front
pub over : (intervals : List Interval) (from to terminator label : ℕ) → LieIn from to intervals → Covers intervals from label → from ≤ terminator + 1 → Jump intervals terminator label
over intervals from to terminator label lie covers low = record {
  before = λ a less kept. let early = first a less kept in omega (arith, early);
  kept = λ a less kept. kept_outside from to intervals lie a terminator (inl (first a less kept));
} where
  first : (a : ℕ) → a < label → keeps intervals a label ≡ true → a < from
  first a less kept = elim (cases_lt a from) [ inl early ↦ early | inr late ↦ absurd (covers a label late less (omega arith) kept) ]

-- beside others that have neither place
pub beside : (is js : List Interval) (from to terminator label : ℕ) → LieIn from to js → IsOutside from to label → Jump is terminator label → Jump (is ++ js) terminator label
beside is js from to terminator label lie out jump = record {
  before = λ a less kept. jump.before a less (front_kept is js a label kept);
  kept = λ a less kept. both_kept is js a terminator (jump.kept a less (front_kept is js a label kept)) (same_outside from to js lie a label terminator out (rest_kept is js a label kept));
}

pub behind : (is js : List Interval) (from to terminator label : ℕ) → LieIn from to is → IsOutside from to label → Jump js terminator label → Jump (is ++ js) terminator label
behind is js from to terminator label lie out jump = record {
  before = λ a less kept. jump.before a less (rest_kept is js a label kept);
  kept = λ a less kept. both_kept is js a terminator (same_outside from to is lie a label terminator out (front_kept is js a label kept)) (jump.kept a less (rest_kept is js a label kept));
}

-- within an interval that has the terminator
pub within : (from to : ℕ) (intervals : List Interval) (terminator label : ℕ) → from ≤ terminator → terminator < to → Jump intervals terminator label → Jump (around from to intervals) terminator label
within from to intervals terminator label low high jump = record {
  before = λ a less kept. jump.before a less (second_of_both (not (has_place a (interval from to)) || has_place label (interval from to)) (keeps intervals a label) kept);
  kept = λ a less kept. both (not (has_place a (interval from to)) || has_place terminator (interval from to)) (keeps intervals a terminator)
      (there (has_place a (interval from to)) (has_place terminator (interval from to)) (both (nat_le from terminator) (nat_lt terminator to) (le-leb from terminator low) (lt-ltb terminator to high)))
      (jump.kept a less (second_of_both (not (has_place a (interval from to)) || has_place label (interval from to)) (keeps intervals a label) kept));
} where
  there : (h k : Bool) → k ≡ true → (not h || k) ≡ true
  there true true is = refl
  there true false is = cc
  there false k is = refl
