-- Worked results of scalar operations, by computing.
use Rattle.std.proofs.Common.{◌≡◌, ℕ, ◌-◌, ◌^◌, true, false, List, [], ◌∷◌, Option, None, Some, map, refl}
use Rattle.scalar_model.specs.declared.scalar_value.Scalar.{Scalar}
use Rattle.scalar_model.specs.declared.scalar_value.Scalar.TheVariants.{Bool as Truth, Word}
use Rattle.spirv_model.specs.declared.op.TheConstants.{BITCAST, S_NEGATE, I_ADD, I_SUB, U_DIV, S_DIV, U_MOD, S_REM, S_MOD, SHIFT_RIGHT_LOGICAL, SHIFT_RIGHT_ARITHMETIC, SHIFT_LEFT_LOGICAL, S_LESS_THAN, U_LESS_THAN, SELECT, ANY}
use Rattle.scalar_model.specs.Scalars.{scalar_result, word_from_word, arithmetic, bitwise, comparison, truth_from_truth, truth_from_truths, folded}

-- the word of minus n
abbrev minus : ℕ → ℕ
minus n = 2 ^ 32 - n

-- the results of an operation for pairs of words
abbrev results : ℕ → List (ℕ × ℕ) → List (Option Scalar)
results op pairs = map (λ pair. scalar_result op (Word pair.0 ∷ Word pair.1 ∷ [])) pairs

abbrev words : List ℕ → List (Option Scalar)
words = map (λ w. Some (Word w))

pub additions : results I_ADD ((minus 1, 1) ∷ (2 ^ 31, 2 ^ 31) ∷ []) ≡ words (0 ∷ 0 ∷ [])
unfolding scalar_result arithmetic bitwise comparison
additions = refl

pub differences : results I_SUB ((0, 1) ∷ (7, 7) ∷ (5, 3) ∷ []) ≡ words (minus 1 ∷ 0 ∷ 2 ∷ [])
unfolding scalar_result arithmetic bitwise comparison
differences = refl

-- by zero, and -2^31 by -1
pub undefined-quotients : results S_DIV ((2 ^ 31, minus 1) ∷ (5, 0) ∷ []) ≡ words (2 ^ 31 ∷ 0 ∷ [])
unfolding scalar_result arithmetic bitwise comparison
undefined-quotients = refl

pub undefined-remainders : results S_REM ((2 ^ 31, minus 1) ∷ (5, 0) ∷ []) ≡ words (0 ∷ 0 ∷ [])
unfolding scalar_result arithmetic bitwise comparison
undefined-remainders = refl

pub undefined-modulos : results S_MOD ((2 ^ 31, minus 1) ∷ (5, 0) ∷ []) ≡ words (0 ∷ 0 ∷ [])
unfolding scalar_result arithmetic bitwise comparison
undefined-modulos = refl

pub undefined-unsigned : results U_DIV ((5, 0) ∷ []) ≡ results U_MOD ((5, 0) ∷ [])
unfolding scalar_result arithmetic bitwise comparison
undefined-unsigned = refl

-- 7 and -7, by 3 and by -3
abbrev sevens : List (ℕ × ℕ)
sevens = (7, 3) ∷ (minus 7, 3) ∷ (7, minus 3) ∷ (minus 7, minus 3) ∷ []

pub quotients : results S_DIV sevens ≡ words (2 ∷ minus 2 ∷ minus 2 ∷ 2 ∷ [])
unfolding scalar_result arithmetic bitwise comparison
quotients = refl

pub remainders : results S_REM sevens ≡ words (1 ∷ minus 1 ∷ 1 ∷ minus 1 ∷ [])
unfolding scalar_result arithmetic bitwise comparison
remainders = refl

pub modulos : results S_MOD sevens ≡ words (1 ∷ 2 ∷ minus 2 ∷ minus 1 ∷ [])
unfolding scalar_result arithmetic bitwise comparison
modulos = refl

pub right-shifts : results SHIFT_RIGHT_LOGICAL ((2 ^ 31, 31) ∷ (2 ^ 31, 32) ∷ (2 ^ 31, minus 1) ∷ []) ≡ words (1 ∷ 0 ∷ 0 ∷ [])
unfolding scalar_result arithmetic bitwise comparison
right-shifts = refl

pub left-shifts : results SHIFT_LEFT_LOGICAL ((3, 31) ∷ (3, 32) ∷ (3, minus 1) ∷ []) ≡ words (2 ^ 31 ∷ 0 ∷ 0 ∷ [])
unfolding scalar_result arithmetic bitwise comparison
left-shifts = refl

pub arithmetic-shifts : results SHIFT_RIGHT_ARITHMETIC ((2 ^ 31, 31) ∷ (minus 9, 1) ∷ (2 ^ 31, 40) ∷ (2 ^ 31 - 1, 40) ∷ []) ≡ words (minus 1 ∷ minus 5 ∷ minus 1 ∷ 0 ∷ [])
unfolding scalar_result arithmetic bitwise comparison
arithmetic-shifts = refl

pub negations : map (λ w. scalar_result S_NEGATE (Word w ∷ [])) (0 ∷ 1 ∷ 2 ^ 31 ∷ []) ≡ words (0 ∷ minus 1 ∷ 2 ^ 31 ∷ [])
unfolding scalar_result word_from_word
negations = refl

-- -1 is below 1 where words are signed
pub orders : map (λ op. scalar_result op (Word (minus 1) ∷ Word 1 ∷ [])) (S_LESS_THAN ∷ U_LESS_THAN ∷ []) ≡ Some (Truth true) ∷ Some (Truth false) ∷ []
unfolding scalar_result arithmetic bitwise comparison
orders = refl

-- operands that don't fit: two kinds, a word as the condition, a truth value alone, one operand for two, an operation on vectors
pub no-results :
    scalar_result SELECT (Truth true ∷ Word 1 ∷ Truth true ∷ []) ∷ scalar_result SELECT (Word 1 ∷ Word 1 ∷ Word 1 ∷ [])
    ∷ scalar_result BITCAST (Truth true ∷ []) ∷ scalar_result I_ADD (Word 1 ∷ []) ∷ scalar_result ANY (Truth true ∷ []) ∷ []
    ≡ None ∷ None ∷ None ∷ None ∷ None ∷ []
unfolding scalar_result word_from_word arithmetic bitwise comparison truth_from_truth truth_from_truths
no-results = refl

-- an operand that isn't known
pub folds : folded I_ADD (Some (Word (minus 1)) ∷ Some (Word 1) ∷ []) ∷ folded I_ADD (None ∷ Some (Word 1) ∷ []) ∷ [] ≡ Some (Word 0) ∷ None ∷ []
unfolding scalar_result arithmetic bitwise comparison
folds = refl
