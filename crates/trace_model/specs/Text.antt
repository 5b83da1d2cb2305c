-- Numbers, words and parts of a text.
use Rattle.std.specs.Prelude.{ℕ, ◌+◌, ◌-◌, ◌*◌, ◌/◌, ◌%◌, ◌^◌, not, ◌&&◌, ◌==◌, nat_lt, nat_le, bytes_eq, if◌then◌else◌, List, [], ◌∷◌, length, Option, None, Some}
use Rattle.std.specs.List.{slice_split}
use Rattle.std.specs.Option.{option_and_then, option_map}

-- what follows where a step has an answer
infixl 10 ◌>>=◌
abbrev pub ◌>>=◌ : {A B : Type 0} → Option A → (A → Option B) → Option B
o >>= f = option_and_then f o

-- the lines of a text, each ended by a line feed: after the last one stands an empty part
abbrev pub lines_of : List ℕ → List (List ℕ)
lines_of bytes = slice_split (λ b. b == 10) bytes

-- the fields of a line, separated by one space
abbrev pub fields_of : List ℕ → List (List ℕ)
fields_of line = slice_split (λ b. b == 32) line

-- the value of a lower-case hexadecimal digit
abbrev pub hex_value : ℕ → Option ℕ
hex_value b =
    if nat_le 48 b && nat_le b 57 then Some (b - 48)
    else if nat_le 97 b && nat_le b 102 then Some (b - 87)
    else None

-- the number that hexadecimal digits go on with
abbrev pub hex_onto : ℕ → List ℕ → Option ℕ
hex_onto n [] = Some n
hex_onto n (b ∷ bs) = option_and_then (λ digit. hex_onto (16 * n + digit) bs) (hex_value b)

-- a word: eight lower-case hexadecimal digits
abbrev pub word_value : List ℕ → Option ℕ
word_value bs = if length bs == 8 then hex_onto 0 bs else None

-- the value of a decimal digit
abbrev pub decimal_digit : ℕ → Option ℕ
decimal_digit b = if nat_le 48 b && nat_le b 57 then Some (b - 48) else None

-- the number that decimal digits go on with, if it stays within the limit
abbrev pub decimal_onto : ℕ → ℕ → List ℕ → Option ℕ
decimal_onto limit n [] = Some n
decimal_onto limit n (b ∷ bs) =
    option_and_then (λ digit. if nat_le (10 * n + digit) limit then decimal_onto limit (10 * n + digit) bs else None) (decimal_digit b)

-- a decimal number up to the limit, without a sign or a leading zero
abbrev pub decimal_value : ℕ → List ℕ → Option ℕ
decimal_value limit [] = None
decimal_value limit (b ∷ bs) = if (b == 48) && not (length bs == 0) then None else decimal_onto limit 0 (b ∷ bs)

-- the character of a hexadecimal digit
abbrev pub hex_digit : ℕ → ℕ
hex_digit value = if nat_lt value 10 then 48 + value else 87 + value

-- a word in eight lower-case hexadecimal digits
abbrev pub word_text : ℕ → List ℕ
word_text word =
    hex_digit (word / 16 ^ 7 % 16) ∷ hex_digit (word / 16 ^ 6 % 16) ∷ hex_digit (word / 16 ^ 5 % 16) ∷ hex_digit (word / 16 ^ 4 % 16)
    ∷ hex_digit (word / 16 ^ 3 % 16) ∷ hex_digit (word / 16 ^ 2 % 16) ∷ hex_digit (word / 16 % 16) ∷ hex_digit (word % 16) ∷ []
