-- The scalar operations: what each gives for 32-bit words and truth values (SPIR-V specification, section 3.49 "Instructions").
use Rattle.std.specs.Prelude.{ℕ, suc, ◌+◌, ◌-◌, ◌*◌, ◌/◌, ◌%◌, ◌^◌, ℤ, pos, negsuc, neg_ℤ, int_lt, int_le, int_div, int_rem, Bool, not, ◌&&◌, ◌||◌, ◌==◌, nat_lt, nat_le, if◌then◌else◌, bit_and, bit_or, bit_xor, List, [], ◌∷◌, Option, None, Some}
use Rattle.std.specs.Int.{int_rem_euclid, int_shr}
use Rattle.std.specs.Option.{option_map, option_or, option_and_then}
use Rattle.basics.specs.Word.{signed_word, word_of, low_bits, inverted, are_equal}
use Rattle.scalar_model.specs.declared.scalar_value.Scalar.{Scalar}
use Rattle.scalar_model.specs.declared.scalar_value.Scalar.TheVariants.{Bool as Truth, Word}
use Rattle.spirv_model.specs.declared.op.TheConstants.{BITCAST, S_NEGATE, I_ADD, I_SUB, I_MUL, U_DIV, S_DIV, U_MOD, S_REM, S_MOD, LOGICAL_EQUAL, LOGICAL_NOT_EQUAL, LOGICAL_OR, LOGICAL_AND, LOGICAL_NOT, SELECT, I_EQUAL, I_NOT_EQUAL, U_GREATER_THAN, S_GREATER_THAN, U_GREATER_THAN_EQUAL, S_GREATER_THAN_EQUAL, U_LESS_THAN, S_LESS_THAN, U_LESS_THAN_EQUAL, S_LESS_THAN_EQUAL, SHIFT_RIGHT_LOGICAL, SHIFT_RIGHT_ARITHMETIC, SHIFT_LEFT_LOGICAL, BITWISE_OR, BITWISE_XOR, BITWISE_AND, NOT}

-- ---- results that SPIR-V leaves undefined

-- a quotient or a remainder by zero is 0
abbrev pub by_zero : ℕ
by_zero = 0

-- the quotient of -2^31 by -1 is no signed word: it is -2^31, which has its low 32 bits
abbrev pub least_by_minus_one : ℕ
least_by_minus_one = 2 ^ 31

-- a logical shift by 32 or more gives 0
abbrev pub shifted_out : ℕ
shifted_out = 0

-- an arithmetic shift by 32 or more gives the sign in every bit
abbrev pub sign_in_every_bit : ℕ → ℕ
sign_in_every_bit word = if nat_lt word (2 ^ 31) then 0 else 2 ^ 32 - 1

-- ---- words from words

-- `operation`, where the divisor isn't zero
abbrev pub divided : (ℕ → ℕ → ℕ) → ℕ → ℕ → ℕ
divided operation dividend divisor = if divisor == 0 then by_zero else operation dividend divisor

-- the quotient without its fraction
abbrev pub signed_quotient : ℕ → ℕ → ℕ
signed_quotient dividend divisor =
    if (dividend == 2 ^ 31) && (divisor == 2 ^ 32 - 1) then least_by_minus_one
    else word_of (int_div (signed_word dividend) (signed_word divisor))

-- the remainder that has the dividend's sign
abbrev pub signed_remainder : ℕ → ℕ → ℕ
signed_remainder dividend divisor = word_of (int_rem (signed_word dividend) (signed_word divisor))

-- the remainder that has the divisor's sign: from 0 up to a positive divisor, or from 0 down to a negative one
abbrev pub modulo : ℤ → ℤ → ℤ
modulo dividend (pos n) = int_rem_euclid dividend (pos n)
modulo dividend (negsuc n) = neg_ℤ (int_rem_euclid (neg_ℤ dividend) (pos (suc n)))

abbrev pub signed_modulo : ℕ → ℕ → ℕ
signed_modulo dividend divisor = word_of (modulo (signed_word dividend) (signed_word divisor))

-- `operation`, where so many bits may be shifted, and otherwise `beyond`
abbrev pub shifted : (ℕ → ℕ → ℕ) → (ℕ → ℕ) → ℕ → ℕ → ℕ
shifted operation beyond word bits = if nat_lt bits 32 then operation word bits else beyond word

-- the operations that make a word from one word
unfoldable pub word_from_word : ℕ → Option (ℕ → ℕ)
word_from_word op =
    if op == BITCAST then Some (λ a. a)
    else if op == S_NEGATE then Some (λ a. low_bits (2 ^ 32 - a))
    else if op == NOT then Some inverted
    else None

-- the operations that make a word from two words
unfoldable pub arithmetic : ℕ → Option (ℕ → ℕ → ℕ)
arithmetic op =
    if op == I_ADD then Some (λ a b. low_bits (a + b))
    else if op == I_SUB then Some (λ a b. low_bits (a + (2 ^ 32 - b)))
    else if op == I_MUL then Some (λ a b. low_bits (a * b))
    else if op == U_DIV then Some (divided (λ a b. a / b))
    else if op == S_DIV then Some (divided signed_quotient)
    else if op == U_MOD then Some (divided (λ a b. a % b))
    else if op == S_REM then Some (divided signed_remainder)
    else if op == S_MOD then Some (divided signed_modulo)
    else None

unfoldable pub bitwise : ℕ → Option (ℕ → ℕ → ℕ)
bitwise op =
    if op == SHIFT_RIGHT_LOGICAL then Some (shifted (λ a k. a / 2 ^ k) (λ _. shifted_out))
    else if op == SHIFT_RIGHT_ARITHMETIC then Some (shifted (λ a k. word_of (int_shr (signed_word a) k)) sign_in_every_bit)
    else if op == SHIFT_LEFT_LOGICAL then Some (shifted (λ a k. low_bits (a * 2 ^ k)) (λ _. shifted_out))
    else if op == BITWISE_OR then Some bit_or
    else if op == BITWISE_XOR then Some bit_xor
    else if op == BITWISE_AND then Some bit_and
    else None

abbrev pub word_from_words : ℕ → Option (ℕ → ℕ → ℕ)
word_from_words op = option_or (arithmetic op) (bitwise op)

-- ---- truth values

-- the operations that make a truth value from two words
unfoldable pub comparison : ℕ → Option (ℕ → ℕ → Bool)
comparison op =
    if op == I_EQUAL then Some (λ a b. a == b)
    else if op == I_NOT_EQUAL then Some (λ a b. not (a == b))
    else if op == U_GREATER_THAN then Some (λ a b. nat_lt b a)
    else if op == S_GREATER_THAN then Some (λ a b. int_lt (signed_word b) (signed_word a))
    else if op == U_GREATER_THAN_EQUAL then Some (λ a b. nat_le b a)
    else if op == S_GREATER_THAN_EQUAL then Some (λ a b. int_le (signed_word b) (signed_word a))
    else if op == U_LESS_THAN then Some nat_lt
    else if op == S_LESS_THAN then Some (λ a b. int_lt (signed_word a) (signed_word b))
    else if op == U_LESS_THAN_EQUAL then Some nat_le
    else if op == S_LESS_THAN_EQUAL then Some (λ a b. int_le (signed_word a) (signed_word b))
    else None

-- the operation that makes a truth value from one
unfoldable pub truth_from_truth : ℕ → Option (Bool → Bool)
truth_from_truth op = if op == LOGICAL_NOT then Some not else None

-- the operations that make a truth value from two
unfoldable pub truth_from_truths : ℕ → Option (Bool → Bool → Bool)
truth_from_truths op =
    if op == LOGICAL_EQUAL then Some are_equal
    else if op == LOGICAL_NOT_EQUAL then Some (λ a b. not (are_equal a b))
    else if op == LOGICAL_OR then Some (λ a b. a || b)
    else if op == LOGICAL_AND then Some (λ a b. a && b)
    else None

-- ---- all of them

-- the first or the second of two objects of one kind
abbrev pub selected : Bool → Scalar → Scalar → Option Scalar
selected condition (Word a) (Word b) = Some (Word (if condition then a else b))
selected condition (Truth a) (Truth b) = Some (Truth (if condition then a else b))
selected condition first second = None

-- the result of an operation, where its opcode is that of a scalar operation and the operands fit it
unfoldable pub scalar_result : ℕ → List Scalar → Option Scalar
scalar_result op (Word a ∷ []) = option_map (λ f. Word (f a)) (word_from_word op)
scalar_result op (Truth a ∷ []) = option_map (λ f. Truth (f a)) (truth_from_truth op)
scalar_result op (Word a ∷ Word b ∷ []) =
    option_or (option_map (λ f. Word (f a b)) (word_from_words op)) (option_map (λ f. Truth (f a b)) (comparison op))
scalar_result op (Truth a ∷ Truth b ∷ []) = option_map (λ f. Truth (f a b)) (truth_from_truths op)
scalar_result op (Truth condition ∷ first ∷ second ∷ []) = if op == SELECT then selected condition first second else None
scalar_result op operands = None

-- the values, where all of them are known
abbrev pub all_known : List (Option Scalar) → Option (List Scalar)
all_known [] = Some []
all_known (None ∷ values) = None
all_known (Some value ∷ values) = option_map (λ known. value ∷ known) (all_known values)

-- the result of an operation, where moreover all operands are known
abbrev pub folded : ℕ → List (Option Scalar) → Option Scalar
folded op operands = option_and_then (scalar_result op) (all_known operands)
