-- A number that is at most a limit is the number of any size, where that is at most the limit.
use Rattle.std.proofs.Common.{◌≡◌, ℕ, ◌+◌, ◌-◌, ◌*◌, ◌^◌, ◌<◌, ◌≤◌, ◌==◌, Bool, true, false, cond, not, ◌&&◌, List, [], ◌∷◌, Option, None, Some, length, refl, ap, subst, sym, ◌∙◌, arith}
use Rattle.std.specs.Prelude.{nat_le}
use Rattle.std.proofs.Math.Nat.{mul-le-mul_left, mul_left_comm, mul_comm, pow-suc}
use Rattle.std.proofs.lemmas.Bool.Decides.{nat_tests}
use Rattle.trace_model.specs.Text.{◌>>=◌, decimal_digit, decimal_onto, decimal_value}
use Rattle.trace_model.specs.Fields.{number_value}

abbrev if_within : ℕ → ℕ → Option ℕ
if_within limit n = cond (nat_le n limit) (Some n) None

-- the number that digits go on with, without a limit
abbrev pub value_onto : ℕ → List ℕ → Option ℕ
value_onto n [] = Some n
value_onto n (b ∷ bs) = decimal_digit b >>= λ digit. value_onto (10 * n + digit) bs

-- it doesn't get less
grows : (n : ℕ) (bs : List ℕ) (v : ℕ) → value_onto n bs ≡ Some v → n ≤ v
grows n [] v h = let e : n ≡ v = cc h in omega (arith, e)
grows n (b ∷ bs) v h = by_digit (decimal_digit b) h (λ digit is. grows (10 * n + digit) bs v is)
  where
    by_digit : (digit : Option ℕ) → (digit >>= λ digit. value_onto (10 * n + digit) bs) ≡ Some v
        → ((digit : ℕ) → value_onto (10 * n + digit) bs ≡ Some v → 10 * n + digit ≤ v) → n ≤ v
    by_digit None h more = cc
    by_digit (Some digit) h more = let low = more digit h in omega (arith, low)

not_within : (limit n : ℕ) (o : Option ℕ) → limit < n → ((v : ℕ) → o ≡ Some v → n ≤ v) → (o >>= if_within limit) ≡ None
not_within limit n None above low = refl
not_within limit n (Some v) above low = by_test (nat_le v limit) (let least = low v refl in grind (arith, nat_tests, least))
  where
    by_test : (test : Bool) → test ≡ false → cond test (Some v) None ≡ None
    by_test test is = cc

-- the test at each digit is the test at the end
limited : (limit n : ℕ) (bs : List ℕ) → n ≤ limit → decimal_onto limit n bs ≡ (value_onto n bs >>= if_within limit)
limited limit n [] low = by_test (nat_le n limit) (grind (arith, nat_tests))
  where
    by_test : (test : Bool) → test ≡ true → Some n ≡ cond test (Some n) None
    by_test test is = cc
limited limit n (b ∷ bs) low = by_digit (decimal_digit b) (λ digit within. limited limit (10 * n + digit) bs within)
  where
    by_test : (m : ℕ) (test : Bool) → nat_le m limit ≡ test → (m ≤ limit → decimal_onto limit m bs ≡ (value_onto m bs >>= if_within limit))
        → cond test (decimal_onto limit m bs) None ≡ (value_onto m bs >>= if_within limit)
    by_test m true is more = more (grind (arith, nat_tests))
    by_test m false is more = sym (not_within limit m (value_onto m bs) (grind (arith, nat_tests)) (grows m bs))

    by_digit : (digit : Option ℕ) → ((digit : ℕ) → 10 * n + digit ≤ limit → decimal_onto limit (10 * n + digit) bs ≡ (value_onto (10 * n + digit) bs >>= if_within limit))
        → (digit >>= λ digit. cond (nat_le (10 * n + digit) limit) (decimal_onto limit (10 * n + digit) bs) None)
        ≡ ((digit >>= λ digit. value_onto (10 * n + digit) bs) >>= if_within limit)
    by_digit None more = refl
    by_digit (Some digit) more = by_test (10 * n + digit) (nat_le (10 * n + digit) limit) refl (more digit)

-- a digit is below ten
below_ten : (b digit : ℕ) → decimal_digit b ≡ Some digit → digit < 10
below_ten b digit h = by_tests (nat_le 48 b) refl (nat_le b 57) refl h
  where
    by_tests : (least : Bool) → nat_le 48 b ≡ least → (greatest : Bool) → nat_le b 57 ≡ greatest → cond (least && greatest) (Some (b - 48)) None ≡ Some digit → digit < 10
    by_tests true is true is' h = let e : b - 48 ≡ digit = cc h in grind (arith, nat_tests, e)
    by_tests true is false is' h = cc
    by_tests false is greatest is' h = cc

ends : (v x x' y y' : ℕ) → v < x → x ≡ x' → x' ≤ y → y ≡ y' → v < y'
ends v x x' y y' low same less also = omega arith

product : (a c p v : ℕ) → v < c * p → c ≤ 10 * a → v < a * (10 * p)
product a c p v low more =
    ends v (c * p) (p * c) (p * (10 * a)) (a * (10 * p)) low (mul_comm c p) (mul-le-mul_left p more)
    (mul_left_comm p 10 a ∙ ap (λ (n : ℕ). 10 * n) (mul_comm p a) ∙ sym (mul_left_comm a 10 p))

-- so many digits stay below ten to the number of them
bounded : (n : ℕ) (bs : List ℕ) (v : ℕ) → value_onto n bs ≡ Some v → v < (n + 1) * 10 ^ length bs
bounded n [] v h = let e : n ≡ v = cc h in omega (arith, e)
bounded n (b ∷ bs) v h = by_digit (decimal_digit b) refl h (λ digit is. bounded (10 * n + digit) bs v is)
  where
    by_digit : (digit : Option ℕ) → decimal_digit b ≡ digit → (digit >>= λ digit. value_onto (10 * n + digit) bs) ≡ Some v
        → ((digit : ℕ) → value_onto (10 * n + digit) bs ≡ Some v → v < ((10 * n + digit) + 1) * 10 ^ length bs) → v < (n + 1) * 10 ^ length (b ∷ bs)
    by_digit None is h more = cc
    by_digit (Some digit) is h more =
        let few = below_ten b digit is in
        subst (λ (p : ℕ). v < (n + 1) * p) (mul_comm 10 (10 ^ length bs) ∙ sym (pow-suc 10 (length bs)))
        (product (n + 1) (10 * n + digit + 1) (10 ^ length bs) v (more digit h) (omega (arith, few)))

-- ---- a field

abbrev pub field_base : List ℕ → Option ℕ
field_base [] = None
field_base (b ∷ bs) = cond ((b == 48) && not (length bs == 0)) None (value_onto 0 (b ∷ bs))

by_base : (limit : ℕ) (field : List ℕ) → decimal_value limit field ≡ (field_base field >>= if_within limit)
by_base limit [] = refl
by_base limit (b ∷ bs) = by_zero ((b == 48) && not (length bs == 0))
  where
    by_zero : (zero_first : Bool) → cond zero_first None (decimal_onto limit 0 (b ∷ bs)) ≡ (cond zero_first None (value_onto 0 (b ∷ bs)) >>= if_within limit)
    by_zero true = refl
    by_zero false = limited limit 0 (b ∷ bs) (omega arith)

base_within : (field : List ℕ) (v : ℕ) → field_base field ≡ Some v → v ≤ 10 ^ length field
base_within [] v h = cc
base_within (b ∷ bs) v h = by_zero ((b == 48) && not (length bs == 0)) h
  where
    by_zero : (zero_first : Bool) → cond zero_first None (value_onto 0 (b ∷ bs)) ≡ Some v → v ≤ 10 ^ length (b ∷ bs)
    by_zero true h = cc
    by_zero false h = let low = bounded 0 (b ∷ bs) v h in omega (arith, low)

-- a number of any size, by its digits
pub number-is_base : (field : List ℕ) → number_value field ≡ field_base field
number-is_base field = by_base (10 ^ length field) field ∙ by_value (field_base field) (base_within field)
  where
    by_test : (v : ℕ) (test : Bool) → test ≡ true → cond test (Some v) None ≡ Some v
    by_test v test is = cc

    by_value : (o : Option ℕ) → ((v : ℕ) → o ≡ Some v → v ≤ 10 ^ length field) → (o >>= if_within (10 ^ length field)) ≡ o
    by_value None within = refl
    by_value (Some v) within = by_test v (nat_le v (10 ^ length field)) (let low = within v refl in grind (arith, nat_tests, low))

-- the number within a limit is the number, where that is within it
pub decimal-of_number : (limit : ℕ) (field : List ℕ) → decimal_value limit field ≡ (number_value field >>= if_within limit)
decimal-of_number limit field = by_base limit field ∙ ap (λ o. o >>= if_within limit) (sym (number-is_base field))
