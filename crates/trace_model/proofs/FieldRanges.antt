-- What fields say is in its range.
use Rattle.std.proofs.Common.{◌≡◌, ℕ, suc, ◌+◌, ◌-◌, ◌*◌, ◌^◌, ◌<◌, ◌≤◌, ◌==◌, Bool, true, false, cond, ◌&&◌, ◌||◌, List, [], ◌∷◌, Option, None, Some, ◌⊎◌, inl, inr, length, refl, ap, subst, sym, ◌∙◌, arith}
use Rattle.std.specs.Prelude.{⊤, nat_le}
use Rattle.std.proofs.Math.Nat.{mul_assoc, mul_left_comm, mul_comm, pow-suc}
use Rattle.std.proofs.lemmas.Bool.Decides.{nat_tests}
use Rattle.state_model.specs.declared.vulkan.TheConstants.{SAMPLE_COUNT_1, SAMPLE_COUNT_2, SAMPLE_COUNT_4}
use Rattle.trace_model.specs.Text.{◌>>=◌, hex_value, hex_onto, word_value, decimal_value}
use Rattle.trace_model.specs.Fields.{each, number_value, range_value, below, samples_value}
use Rattle.trace_model.proofs.FieldNumbers.{decimal-of_number}

-- what the second step's answer has, where both steps have one
pub after : {A B : Type 0} (o : Option A) (f : A → Option B) (y : B) (P : Type 0) → ((x : A) → o ≡ Some x → f x ≡ Some y → P) → (o >>= f) ≡ Some y → P
after None f y P more h = cc
after (Some x) f y P more h = more x refl h

-- ---- numbers

under_test : (test : Bool) (n v : ℕ) → cond test (Some n) None ≡ Some v → (test ≡ true) × (n ≡ v)
under_test true n v h = (refl, cc)
under_test false n v h = cc

pub decimal-within : (limit : ℕ) (field : List ℕ) (v : ℕ) → decimal_value limit field ≡ Some v → v ≤ limit
decimal-within limit field v h =
    after (number_value field) _ v (v ≤ limit) (λ n is then_is. by_test n (under_test (nat_le n limit) n v then_is)) (sym (decimal-of_number limit field) ∙ h)
  where
    by_test : (n : ℕ) → (nat_le n limit ≡ true) × (n ≡ v) → v ≤ limit
    by_test n is = let test = is.0 in let same = is.1 in grind (arith, nat_tests, test, same)

pub range-within : (least greatest : ℕ) (field : List ℕ) (v : ℕ) → range_value least greatest field ≡ Some v → (least ≤ v) × (v ≤ greatest)
range-within least greatest field v h =
    after (decimal_value greatest field) _ v ((least ≤ v) × (v ≤ greatest))
    (λ n is then_is. by_test n (decimal-within greatest field n is) (under_test (nat_le least n) n v then_is)) h
  where
    by_test : (n : ℕ) → n ≤ greatest → (nat_le least n ≡ true) × (n ≡ v) → (least ≤ v) × (v ≤ greatest)
    by_test n low is = let test = is.0 in let same = is.1 in (grind (arith, nat_tests, test, same), omega (arith, low, same))

pub below-is : (bound : ℕ) (field : List ℕ) (v : ℕ) → 0 < bound → below bound field ≡ Some v → v < bound
below-is bound field v some h = let low = decimal-within (bound - 1) field v h in omega (arith, low)

pub samples-are : (field : List ℕ) (v : ℕ) → samples_value field ≡ Some v → (v ≡ SAMPLE_COUNT_1) ⊎ (v ≡ SAMPLE_COUNT_2) ⊎ (v ≡ SAMPLE_COUNT_4)
samples-are field v h = after (decimal_value SAMPLE_COUNT_4 field) _ v _
    (λ n is then_is. by_tests n (n == 1) refl (n == 2) refl (n == 4) refl then_is) h
  where
    by_tests : (n : ℕ) (one : Bool) → (n == 1) ≡ one → (two : Bool) → (n == 2) ≡ two → (four : Bool) → (n == 4) ≡ four → cond ((one || two) || four) (Some n) None ≡ Some v
        → (v ≡ 1) ⊎ (v ≡ 2) ⊎ (v ≡ 4)
    by_tests n true is two is' four is'' h = let same : n ≡ v = cc h in inl (grind (arith, nat_tests, same))
    by_tests n false is true is' four is'' h = let same : n ≡ v = cc h in inr (inl (grind (arith, nat_tests, same)))
    by_tests n false is false is' true is'' h = let same : n ≡ v = cc h in inr (inr (grind (arith, nat_tests, same)))
    by_tests n false is false is' false is'' h = cc

-- ---- several fields

abbrev pub EachIs : {A : Type 0} → (A → Type 0) → List A → Type 0
EachIs P [] = ⊤
EachIs P (x ∷ xs) = P x × EachIs P xs

pub each-is : {A : Type 0} (read : List ℕ → Option A) (P : A → Type 0) → ((field : List ℕ) (x : A) → read field ≡ Some x → P x)
    → (fields : List (List ℕ)) (xs : List A) → each read fields ≡ Some xs → EachIs P xs × (length xs ≡ length fields)
each-is read P has [] xs h = of_none xs h
  where
    of_none : (xs : List _) → Some [] ≡ Some xs → EachIs P xs × (length xs ≡ 0)
    of_none [] h = (tt, refl)
    of_none (x ∷ xs) h = cc
each-is read P has (field ∷ fields) xs h =
    after (read field) _ xs (EachIs P xs × (length xs ≡ length (field ∷ fields))) (λ x is h.
    after (each read fields) _ xs (EachIs P xs × (length xs ≡ length (field ∷ fields))) (λ ys are h.
    joined x ys xs (has field x is) (each-is read P has fields ys are) h) h) h
  where
    joined : (x : _) (ys xs : List _) → P x → EachIs P ys × (length ys ≡ length fields) → Some (x ∷ ys) ≡ Some xs → EachIs P xs × (length xs ≡ length (field ∷ fields))
    joined x ys [] p ps h = cc
    joined x ys (x' ∷ xs) p ps h =
        let first : x ≡ x' = cc h in
        let rest : ys ≡ xs = cc h in
        ((subst P first p, subst (EachIs P) rest ps.0), subst (λ zs. length (x' ∷ zs) ≡ length (field ∷ fields)) rest (ap (λ (n : ℕ). suc n) ps.1))

-- ---- words

below_sixteen : (b digit : ℕ) → hex_value b ≡ Some digit → digit < 16
below_sixteen b digit h = by_tests (nat_le 48 b) refl (nat_le b 57) refl (nat_le 97 b) refl (nat_le b 102) refl h
  where
    by_letter : (least : Bool) → nat_le 97 b ≡ least → (greatest : Bool) → nat_le b 102 ≡ greatest → cond (least && greatest) (Some (b - 87)) None ≡ Some digit → digit < 16
    by_letter true is true is' h = let e : b - 87 ≡ digit = cc h in grind (arith, nat_tests, e)
    by_letter true is false is' h = cc
    by_letter false is greatest is' h = cc

    by_tests : (least : Bool) → nat_le 48 b ≡ least → (greatest : Bool) → nat_le b 57 ≡ greatest → (least' : Bool) → nat_le 97 b ≡ least' → (greatest' : Bool) → nat_le b 102 ≡ greatest'
        → cond (least && greatest) (Some (b - 48)) (cond (least' && greatest') (Some (b - 87)) None) ≡ Some digit → digit < 16
    by_tests true is true is' least' is'' greatest' is''' h = let e : b - 48 ≡ digit = cc h in grind (arith, nat_tests, e)
    by_tests true is false is' least' is'' greatest' is''' h = by_letter least' is'' greatest' is''' h
    by_tests false is greatest is' least' is'' greatest' is''' h = by_letter least' is'' greatest' is''' h

-- so many digits stay below sixteen to the number of them
hex_bounded : (n bound : ℕ) (bs : List ℕ) (v : ℕ) → n < bound → hex_onto n bs ≡ Some v → v < bound * 16 ^ length bs
hex_bounded n bound [] v low h = let e : n ≡ v = cc h in omega (arith, e)
hex_bounded n bound (b ∷ bs) v low h =
    after (hex_value b) _ v (v < bound * 16 ^ length (b ∷ bs))
    (λ digit is more.
    let few = below_sixteen b digit is in
    shifted (hex_bounded (16 * n + digit) (16 * bound) bs v (omega (arith, few, low)) more)) h
  where
    shifted : v < 16 * bound * 16 ^ length bs → v < bound * 16 ^ length (b ∷ bs)
    shifted h =
        subst (λ (m : ℕ). v < m)
        (mul_assoc 16 bound (16 ^ length bs) ∙ mul_left_comm 16 bound (16 ^ length bs)
        ∙ ap (λ (p : ℕ). bound * p) (mul_comm 16 (16 ^ length bs) ∙ sym (pow-suc 16 (length bs)))) h

pub word-below : (field : List ℕ) (v : ℕ) → word_value field ≡ Some v → v < 2 ^ 32
word-below field v h = by_length (length field == 8) refl h
  where
    of_eight : length field ≡ 8 → v < 1 * 16 ^ length field → v < 2 ^ 32
    of_eight same low = subst (λ (n : ℕ). v < 1 * 16 ^ n) same low

    by_length : (eight : Bool) → (length field == 8) ≡ eight → cond eight (hex_onto 0 field) None ≡ Some v → v < 2 ^ 32
    by_length true is h = of_eight (grind (arith, nat_tests)) (hex_bounded 0 1 field v (omega arith) h)
    by_length false is h = cc
