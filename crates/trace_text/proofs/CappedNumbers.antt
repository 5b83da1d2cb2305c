-- Digits read with a cap give the number that they are, or the cap where it is greater.
use Rattle.std.proofs.Common.{◌≡◌, ℕ, ◌+◌, ◌*◌, ◌<◌, ◌==◌, Bool, true, false, cond, not, ◌&&◌, ◌||◌, min, List, [], ◌∷◌, Option, None, Some, length, drop, get_or, refl, ap, sym, ◌∙◌, arith}
use Rattle.std.specs.Prelude.{unwrap_or}
use Rattle.std.specs.Option.{option_map, option_and_then}
use Rattle.basics.proofs.Lists.{drop_first}
use Rattle.trace_model.specs.Text.{◌>>=◌, decimal_digit}
use Rattle.trace_model.specs.Fields.{number_value}
use Rattle.trace_model.proofs.FieldNumbers.{value_onto, field_base, number-is_base}
use Rattle.trace_text.specs.Numbers.{MOST, value_of, is_numeral, capped_onto}

-- ---- one digit more

pub capped_next : (digits : List ℕ) (i value digit : ℕ) → i < length digits → Some digit ≡ decimal_digit (get_or digits i 0)
    → capped_onto (min (10 * value + digit) MOST) (drop (i + 1) digits) ≡ capped_onto value (drop i digits)
capped_next digits i value digit within h =
    ap (option_and_then (λ (d : ℕ). capped_onto (min (10 * value + d) MOST) (drop (i + 1) digits))) h ∙ ap (capped_onto value) (sym (drop_first digits i within))

pub capped_none : (digits : List ℕ) (i value : ℕ) → i < length digits → None ≡ decimal_digit (get_or digits i 0) → capped_onto value (drop i digits) ≡ None
capped_none digits i value within h =
    ap (capped_onto value) (drop_first digits i within)
    ∙ ap (option_and_then (λ (d : ℕ). capped_onto (min (10 * value + d) MOST) (drop (i + 1) digits))) (sym h)

-- ---- all of them

cap : ℕ → ℕ
cap n = min n MOST

one_step : (n digit : ℕ) → min (10 * min n MOST + digit) MOST ≡ min (10 * n + digit) MOST
one_step n digit = omega arith

is_capped : (n : ℕ) (bs : List ℕ) → capped_onto (min n MOST) bs ≡ option_map (λ v. min v MOST) (value_onto n bs)
is_capped n [] = refl
is_capped n (b ∷ bs) = by_digit (decimal_digit b) (λ digit. is_capped (10 * n + digit) bs)
  where
    by_digit : (digit : Option ℕ) → ((digit : ℕ) → capped_onto (min (10 * n + digit) MOST) bs ≡ option_map (λ v. min v MOST) (value_onto (10 * n + digit) bs))
        → (digit >>= λ digit. capped_onto (min (10 * min n MOST + digit) MOST) bs) ≡ option_map (λ v. min v MOST) (digit >>= λ digit. value_onto (10 * n + digit) bs)
    by_digit None more = refl
    by_digit (Some digit) more = ap (λ (m : ℕ). capped_onto m bs) (one_step n digit) ∙ more digit

not_numeral : (field : List ℕ) → is_numeral field ≡ false → field_base field ≡ None
not_numeral [] h = refl
not_numeral (b ∷ bs) h = by_tests (b == 48) (length bs == 0) h
  where
    by_tests : (zero_first alone : Bool) → (not zero_first || alone) ≡ false → cond (zero_first && not alone) None (value_onto 0 (b ∷ bs)) ≡ None
    by_tests true true h = cc
    by_tests true false h = refl
    by_tests false alone h = cc

a_numeral : (field : List ℕ) → is_numeral field ≡ true → field_base field ≡ value_onto 0 field
a_numeral [] h = cc
a_numeral (b ∷ bs) h = by_tests (b == 48) (length bs == 0) h
  where
    by_tests : (zero_first alone : Bool) → (not zero_first || alone) ≡ true → cond (zero_first && not alone) None (value_onto 0 (b ∷ bs)) ≡ value_onto 0 (b ∷ bs)
    by_tests true true h = refl
    by_tests true false h = cc
    by_tests false alone h = refl

-- ---- a field

pub no_number : (field : List ℕ) → is_numeral field ≡ false → number_value field ≡ None
no_number field h = number-is_base field ∙ not_numeral field h

capped-is : (field : List ℕ) → is_numeral field ≡ true → capped_onto 0 field ≡ option_map (λ v. min v MOST) (number_value field)
capped-is field h = is_capped 0 field ∙ ap (option_map (λ v. min v MOST)) (sym (number-is_base field ∙ a_numeral field h))

pub no_digits : (field : List ℕ) → is_numeral field ≡ true → capped_onto 0 field ≡ None → number_value field ≡ None
no_digits field h none = by_value (number_value field) (sym (capped-is field h) ∙ none)
  where
    by_value : (o : Option ℕ) → option_map (λ v. min v MOST) o ≡ None → o ≡ None
    by_value None h = refl
    by_value (Some v) h = cc

-- there is a number, it is the field's value, and this is it with the cap
pub the_number : (field : List ℕ) (low : ℕ) → is_numeral field ≡ true → capped_onto 0 field ≡ Some low
    → (number_value field ≡ Some (value_of field)) × (low ≡ min (value_of field) MOST)
unfolding value_of
the_number field low h some = by_value (number_value field) (sym (capped-is field h) ∙ some)
  where
    by_value : (o : Option ℕ) → option_map (λ v. min v MOST) o ≡ Some low → (o ≡ Some (unwrap_or o 0)) × (low ≡ min (unwrap_or o 0) MOST)
    by_value None h = cc
    by_value (Some v) h = let e : min v MOST ≡ low = cc h in (refl, sym e)
