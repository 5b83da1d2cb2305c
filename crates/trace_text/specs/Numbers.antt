-- Decimal numbers of any size as they are kept.
use Rattle.std.specs.Prelude.{ℕ, ◌+◌, ◌*◌, Bool, false, not, ◌||◌, ◌==◌, min, List, [], ◌∷◌, length, Option, Some, unwrap_or}
use Rattle.trace_model.specs.Text.{◌>>=◌, decimal_digit}
use Rattle.trace_model.specs.Fields.{number_value}

-- the greatest number that is told apart from all others
abbrev pub MOST : ℕ
MOST = 65535

-- the number of a field that is one
unfoldable pub value_of : List ℕ → ℕ
value_of field = unwrap_or (number_value field) 0

-- there is a digit, and no zero stands before others
abbrev pub is_numeral : List ℕ → Bool
is_numeral [] = false
is_numeral (b ∷ bs) = not (b == 48) || (length bs == 0)

-- the number that digits go on with, capped at each digit
abbrev pub capped_onto : ℕ → List ℕ → Option ℕ
capped_onto n [] = Some n
capped_onto n (b ∷ bs) = decimal_digit b >>= λ digit. capped_onto (min (10 * n + digit) MOST) bs
