-- Numbers and texts as digits: what is printed speaks of what it was printed of, and has no space and no line feed.
use Rattle.std.proofs.Common.{◌≡◌, ℕ, ◌+◌, ◌*◌, ◌/◌, ◌%◌, ◌<◌, ◌≤◌, ◌^◌, Bool, true, false, ◌&&◌, cond, nat_lt, ◌==◌, List, [], ◌∷◌, ◌++◌, length, refl, ap, ◌∙◌, arith}
use Rattle.std.specs.List.{flat_map, list_all}
use Rattle.std.specs.Fmt.{decimal}
use Rattle.std.specs.Char.{digit_value}
use Rattle.std.specs.Int.{IsInRange}
use Rattle.std.specs.Str.Parse.{AllDigits, digits_value_after}
use Rattle.std.proofs.lemmas.Bool.Decides.{nat_tests}
use Rattle.std.proofs.lemmas.Fmt.{decimal_is_IsNumeral, length-decimal-le}
use Rattle.std.proofs.lemmas.List.Folds.{list_all-append}
use Rattle.std.proofs.lemmas.Str.{digit_value_digit}
use Rattle.std.proofs.lemmas.Str.Parse.{digit_from_value}
use Rattle.listing_model.specs.Listing.{byte_digits, hex_digit, id_text}
use Rattle.listing_model.specs.Spelling.{field_words, hex_value, number_onto}

-- each byte is greater than this
abbrev pub above : ℕ → List ℕ → Bool
above k bytes = list_all (λ b. nat_lt k b) bytes

grows : (n : ℕ) (ds : List ℕ) → n ≤ digits_value_after 10 n ds
grows n [] = omega arith
grows n (d ∷ ds) = omega (arith, grows (n * 10 + digit_value d) ds)

next_digit : (n d : ℕ) → IsInRange 48 57 d → n * 10 + digit_value d < 2 ^ 32 → (10 * n + d % 16) % 2 ^ 32 ≡ n * 10 + digit_value d
next_digit n d r small = omega (arith, digit_value_digit d r, r.0, r.1)

number_is : (n : ℕ) (ds : List ℕ) → AllDigits 10 ds → digits_value_after 10 n ds < 2 ^ 32 → number_onto n ds ≡ digits_value_after 10 n ds
number_is n [] all small = refl
number_is n (d ∷ ds) all small =
    ap (λ (m : ℕ). number_onto m ds) (next_digit n d (digit_from_value d all.0) (omega (arith, grows (n * 10 + digit_value d) ds, small)))
    ∙ number_is (n * 10 + digit_value d) ds all.1 small

-- a number's digits give it back
pub number_of_decimal : (n : ℕ) → n < 2 ^ 32 → number_onto 0 (decimal n) ≡ n
number_of_decimal n h =
    let d = decimal_is_IsNumeral n (omega (arith, h)) in
    number_is 0 (decimal n) d.0.1 (omega (arith, h, d.1)) ∙ d.1

digits_above : (ds : List ℕ) → AllDigits 10 ds → above 32 ds ≡ true
digits_above [] all = refl
digits_above (d ∷ ds) all =
    let r = digit_from_value d all.0 in
    let b : nat_lt 32 d ≡ true = grind (arith, nat_tests, r.0) in
    ap (λ (x : Bool). x && above 32 ds) b ∙ digits_above ds all.1

pub decimal_above : (n : ℕ) → n < 2 ^ 32 → above 32 (decimal n) ≡ true
decimal_above n h = let d = decimal_is_IsNumeral n (omega (arith, h)) in digits_above (decimal n) d.0.1

pub decimal_short : (n : ℕ) → n < 2 ^ 32 → length (decimal n) ≤ 10
decimal_short n h = length-decimal-le 10 n (omega arith) (omega (arith, h)) (omega (arith, h))

pub id_above : (n : ℕ) → n < 2 ^ 32 → above 32 (id_text n) ≡ true
id_above n h = decimal_above n h

pub id_words : (n : ℕ) → n < 2 ^ 32 → field_words (id_text n) ≡ n ∷ []
id_words n h = ap (λ (m : ℕ). m ∷ []) (number_of_decimal n h)

-- a field that begins with a digit is a literal
digits_words : (ds : List ℕ) → 0 < length ds → AllDigits 10 ds → field_words ds ≡ number_onto 0 ds ∷ []
digits_words [] some all = absurd (omega (arith, some))
digits_words (d ∷ ds) some all =
    let r = digit_from_value d all.0 in
    let x : (d == 120) ≡ false = grind (arith, nat_tests, r.1) in
    let p : (d == 37) ≡ false = grind (arith, nat_tests, r.0) in
    rw (x, p) refl

pub literal_words : (n : ℕ) → n < 2 ^ 32 → field_words (decimal n) ≡ n ∷ []
literal_words n h =
    let d = decimal_is_IsNumeral n (omega (arith, h)) in
    digits_words (decimal n) d.0.0 d.0.1 ∙ ap (λ (m : ℕ). m ∷ []) (number_of_decimal n h)

-- ---- hexadecimal digits

digit_by : (v : ℕ) (b : Bool) → nat_lt v 10 ≡ b → v < 16 → hex_value (cond b (48 + v) (87 + v)) ≡ v
digit_by v true h small =
    let below : v < 10 = grind (arith, nat_tests, h) in
    let t : nat_lt (48 + v) 58 ≡ true = grind (arith, nat_tests, below) in
    rw t (omega (arith, below))
digit_by v false h small =
    let past : 10 ≤ v = grind (arith, nat_tests, h) in
    let t : nat_lt (87 + v) 58 ≡ false = grind (arith, nat_tests) in
    rw t (omega (arith, past, small))

pub digit_back : (v : ℕ) → v < 16 → hex_value (hex_digit v) ≡ v
digit_back v h = digit_by v (nat_lt v 10) refl h

hex_by : (b : Bool) (v : ℕ) → nat_lt 32 (cond b (48 + v) (87 + v)) ≡ true
hex_by true v = grind (arith, nat_tests)
hex_by false v = grind (arith, nat_tests)

pub hex_above : (v : ℕ) → nat_lt 32 (hex_digit v) ≡ true
hex_above v = hex_by (nat_lt v 10) v

pub byte_back : (b : ℕ) → b < 256 → (16 * hex_value (hex_digit (b / 16)) + hex_value (hex_digit (b % 16))) % 256 ≡ b
byte_back b h = omega (arith, digit_back (b / 16) (omega (arith, h)), digit_back (b % 16) (omega arith))

pub bytes_above : (bytes : List ℕ) → above 32 (flat_map byte_digits bytes) ≡ true
bytes_above [] = refl
bytes_above (b ∷ bytes) =
    ap (λ (x : Bool). x && (nat_lt 32 (hex_digit (b % 16)) && above 32 (flat_map byte_digits bytes))) (hex_above (b / 16))
    ∙ ap (λ (x : Bool). x && above 32 (flat_map byte_digits bytes)) (hex_above (b % 16)) ∙ bytes_above bytes

-- both parts are
pub both_above : (k : ℕ) (xs ys : List ℕ) → above k xs ≡ true → above k ys ≡ true → above k (xs ++ ys) ≡ true
both_above k xs ys x y = list_all-append (λ b. nat_lt k b) xs ys ∙ ap (λ (b : Bool). b && above k ys) x ∙ y
