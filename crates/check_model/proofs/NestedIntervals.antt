-- Intervals are nested: what is defined at a place is visible behind it up to the end of the innermost interval that has the place.
use Rattle.std.proofs.Common.{◌≡◌, ℕ, ◌+◌, ◌-◌, ◌<◌, ◌≤◌, Bool, true, false, not, ◌&&◌, ◌||◌, nat_lt, nat_le, List, [], ◌∷◌, ◌++◌, length, get_or, refl, ap, sym, ◌∙◌, arith, inl, inr}
use Rattle.std.specs.Prelude.{◌⊎◌, replicate}
use Rattle.std.specs.List.{list_all}
use Rattle.std.proofs.lemmas.Bool.{lt-ltb, ltb-true, le-leb, le-ltb, lt-leb, cases_lt}
use Rattle.std.proofs.lemmas.List.{get_or_append_left, get_or-append_right, get_or-replicate, length-replicate, length-append}
use Rattle.std.proofs.lemmas.List.Folds.{list_all-append}
use Rattle.check_model.specs.Intervals.{Interval, interval, around, has_place}

-- each interval that has the first place has the second
abbrev pub keeps : List Interval → ℕ → ℕ → Bool
keeps intervals a b = list_all (λ i. not (has_place a i) || has_place b i) intervals

-- the intervals stand between two places; with one around them that ends at the end, these are the limits of the places
pub record Bounds (intervals : List Interval) (from to end : ℕ) (limits : List ℕ) : Type 0 where
  pub size : from + length limits ≡ to
  pub outside : (a b : ℕ) → (a < from) ⊎ (to ≤ a) → keeps intervals a b ≡ true
  pub inside : (a b : ℕ) → from ≤ a → a < to → a < b → (keeps intervals a b && nat_lt b end) ≡ nat_lt b (get_or limits (a - from) 0)

-- ---- tests

with_true : (x y e w : Bool) → y ≡ true → (x && e) ≡ w → ((x && y) && e) ≡ w
with_true true true e w is so = so
with_true false true e w is so = so
with_true x false e w is so = absurd (cc)

behind_true : (x y e w : Bool) → x ≡ true → (y && e) ≡ w → ((x && y) && e) ≡ w
behind_true true y e w is so = so
behind_true false y e w is so = absurd (cc)

both_true : (x y : Bool) → x ≡ true → y ≡ true → (x && y) ≡ true
both_true true y is so = so
both_true false y is so = is

within_end : (x k e w : Bool) → (x ≡ true → e ≡ true) → (k && x) ≡ w → ((x && k) && e) ≡ w
within_end true true e w so is = so refl ∙ is
within_end true false e w so is = is
within_end false true e w so is = is
within_end false false e w so is = is

-- ---- limits put together

pub no_places : {from to : ℕ} (end : ℕ) → from ≡ to → Bounds [] from to end []
no_places end none = record { size = omega (arith, none); outside = λ a b out. refl; inside = λ a b after before less. absurd (omega (arith, none)) }

pub own_places : (from to end : ℕ) → from ≤ to → Bounds [] from to end (replicate (to - from) end)
own_places from to end forward = record {
  size = omega (arith, length-replicate (to - from) end);
  outside = λ a b out. refl;
  inside = λ a b after before less. let near : a - from < to - from = omega arith in ap (nat_lt b) (sym (get_or-replicate (to - from) (a - from) end 0 near));
}

pub placed : {is js : List Interval} {from middle to end : ℕ} {ls ms : List ℕ} → Bounds is from middle end ls → Bounds js middle to end ms → Bounds (is ++ js) from to end (ls ++ ms)
placed {is = is} {js = js} {from = from} {middle = middle} {to = to} {end = end} {ls = ls} {ms = ms} one two = record {
  size = omega (arith, length-append ls ms, one.size, two.size);
  outside = λ a b out. list_all-append (λ i. not (has_place a i) || has_place b i) is js ∙ both_true (keeps is a b) (keeps js a b) (one.outside a b (out_left a out)) (two.outside a b (out_right a out));
  inside = λ a b after before less. ap (λ (k : Bool). k && nat_lt b end) (list_all-append (λ i. not (has_place a i) || has_place b i) is js) ∙ split a b after before less;
} where
  out_left : (a : ℕ) → (a < from) ⊎ (to ≤ a) → (a < from) ⊎ (middle ≤ a)
  out_left a (inl less) = inl less
  out_left a (inr past) = inr (omega (arith, past, two.size))

  out_right : (a : ℕ) → (a < from) ⊎ (to ≤ a) → (a < middle) ⊎ (to ≤ a)
  out_right a (inl less) = inl (omega (arith, less, one.size))
  out_right a (inr past) = inr past

  near : (a b : ℕ) → from ≤ a → a < middle → a < b → ((keeps is a b && keeps js a b) && nat_lt b end) ≡ nat_lt b (get_or (ls ++ ms) (a - from) 0)
  near a b after before less =
      let few : a - from < length ls = omega (arith, one.size) in
      with_true (keeps is a b) (keeps js a b) (nat_lt b end) (nat_lt b (get_or (ls ++ ms) (a - from) 0)) (two.outside a b (inl before))
      (one.inside a b after before less ∙ ap (nat_lt b) (sym (get_or_append_left ls ms 0 (a - from) few)))

  far : (a b : ℕ) → middle ≤ a → a < to → a < b → ((keeps is a b && keeps js a b) && nat_lt b end) ≡ nat_lt b (get_or (ls ++ ms) (a - from) 0)
  far a b after before less =
      let long : length ls ≡ middle - from = omega (arith, one.size) in
      let behind : middle - from ≤ a - from = omega (arith, one.size) in
      let same : (a - from) - (middle - from) ≡ a - middle = omega (arith, one.size) in
      behind_true (keeps is a b) (keeps js a b) (nat_lt b end) (nat_lt b (get_or (ls ++ ms) (a - from) 0)) (one.outside a b (inr after))
      (two.inside a b after before less ∙ ap (nat_lt b) (sym (get_or-append_right ls ms (middle - from) (a - from) 0 long behind ∙ ap (λ (n : ℕ). get_or ms n 0) same)))

  split : (a b : ℕ) → from ≤ a → a < to → a < b → ((keeps is a b && keeps js a b) && nat_lt b end) ≡ nat_lt b (get_or (ls ++ ms) (a - from) 0)
  split a b after before less = elim (cases_lt a middle) [ inl left ↦ near a b after left less | inr right ↦ far a b right before less ]

-- in an interval of its own, within a sequence with a later end
pub enclosed : {is : List Interval} {from to : ℕ} (end : ℕ) {ls : List ℕ} → Bounds is from to to ls → to ≤ end → Bounds (around from to is) from to end ls
enclosed {is = is} {from = from} {to = to} end {ls = ls} one within = record {
  size = one.size;
  outside = λ a b out. both_true (not (has_place a (interval from to)) || has_place b (interval from to)) (keeps is a b) (not_there a b out) (one.outside a b out);
  inside = λ a b after before less.
      ap (λ (h : Bool). ((not h || has_place b (interval from to)) && keeps is a b) && nat_lt b end) (both_true (nat_le from a) (nat_lt a to) (le-leb from a after) (lt-ltb a to before))
      ∙ ap (λ (h : Bool). ((h && nat_lt b to) && keeps is a b) && nat_lt b end) (le-leb from b (omega arith))
      ∙ within_end (nat_lt b to) (keeps is a b) (nat_lt b end) (nat_lt b (get_or ls (a - from) 0)) (λ h. lt-ltb b end (omega (arith, ltb-true b to h))) (one.inside a b after before less);
} where
  without : (h k : Bool) → h ≡ false → (not h || k) ≡ true
  without false k is = refl
  without true k is = absurd (cc)

  not_both : (x y : Bool) → y ≡ false → (x && y) ≡ false
  not_both true y is = is
  not_both false y is = refl

  absent : (a : ℕ) → (a < from) ⊎ (to ≤ a) → has_place a (interval from to) ≡ false
  absent a (inl less) = ap (λ (h : Bool). h && nat_lt a to) (lt-leb from a less)
  absent a (inr past) = not_both (nat_le from a) (nat_lt a to) (le-ltb a to past)

  not_there : (a b : ℕ) → (a < from) ⊎ (to ≤ a) → (not (has_place a (interval from to)) || has_place b (interval from to)) ≡ true
  not_there a b out = without (has_place a (interval from to)) (has_place b (interval from to)) (absent a out)
