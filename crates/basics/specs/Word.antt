-- 32-bit words as numbers.
use Rattle.std.specs.Prelude.{ℕ, ◌-◌, ◌%◌, ◌^◌, ℤ, Bool, true, false, not}
use Rattle.std.specs.Int.{w32, cast_signed, cast_unsigned}

-- the two's complement reading of a word, and the word of such a reading
abbrev pub signed_word : ℕ → ℤ
signed_word word = cast_signed w32 word

abbrev pub word_of : ℤ → ℕ
word_of z = cast_unsigned w32 z

-- the low 32 bits of a number
abbrev pub low_bits : ℕ → ℕ
low_bits n = n % 2 ^ 32

-- each bit the other way
abbrev pub inverted : ℕ → ℕ
inverted word = 2 ^ 32 - 1 - word

-- two truth values are the same
abbrev pub are_equal : Bool → Bool → Bool
are_equal true b = b
are_equal false b = not b
