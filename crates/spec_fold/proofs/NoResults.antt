-- Operations that have no result: no scalar operation has an opcode of more than 16 bits, no operands, or more than three.
use Rattle.std.proofs.Common.{◌≡◌, ℕ, ◌<◌, ◌≤◌, ◌==◌, nat_lt, Bool, true, false, if◌then◌else◌, List, [], ◌∷◌, length, map, slice_index, Option, None, Some, Result, Ok, Err, refl, ap, sym, ◌∙◌, arith}
use Rattle.std.specs.Result.{OkIff}
use Rattle.std.specs.Option.{option_and_then, option_map, option_or}
use Rattle.std.proofs.lemmas.Bool.Decides.{nat_tests}
use Rattle.spirv_model.specs.declared.op.TheConstants.{BITCAST, S_NEGATE, I_ADD, I_SUB, I_MUL, U_DIV, S_DIV, U_MOD, S_REM, S_MOD, LOGICAL_EQUAL, LOGICAL_NOT_EQUAL, LOGICAL_OR, LOGICAL_AND, LOGICAL_NOT, SELECT, I_EQUAL, I_NOT_EQUAL, U_GREATER_THAN, S_GREATER_THAN, U_GREATER_THAN_EQUAL, S_GREATER_THAN_EQUAL, U_LESS_THAN, S_LESS_THAN, U_LESS_THAN_EQUAL, S_LESS_THAN_EQUAL, SHIFT_RIGHT_LOGICAL, SHIFT_RIGHT_ARITHMETIC, SHIFT_LEFT_LOGICAL, BITWISE_OR, BITWISE_XOR, BITWISE_AND, NOT}
use Rattle.scalar_model.specs.declared.scalar_value.Scalar.{Scalar}
use Rattle.scalar_model.specs.declared.scalar_value.Scalar.TheVariants.{Bool as Truth, Word}
use Rattle.scalar_model.specs.Scalars.{word_from_word, arithmetic, bitwise, comparison, truth_from_truth, truth_from_truths, scalar_result, all_known, folded}
use Rattle.stage_model.specs.Start.{rest_of}
use Rattle.change_model.specs.Folding.{all_constants}
use Rattle.spec_fold.specs.Settles.{operation_given}
use Rattle.spec_fold.proofs.Decisions.{none_of_four, none_of_none}

differ : (a b : ℕ) → 65536 ≤ a → nat_lt b 65536 ≡ true → a == b ≡ false
differ a b large small = grind (arith, nat_tests)

by_false : {A : Type 0} (x : A) {y : A} (b : Bool) → b ≡ false → (if b then x else y) ≡ y
by_false x true is = cc
by_false x false is = refl

-- a test of the opcode fails
past : {A : Type 0} (x : A) {y : A} (opcode constant : ℕ) → 65536 ≤ opcode → nat_lt constant 65536 ≡ true → (if opcode == constant then x else y) ≡ y
past x opcode constant large small = by_false x (opcode == constant) (differ opcode constant large small)

no_word : (o : ℕ) → 65536 ≤ o → word_from_word o ≡ None
unfolding word_from_word
no_word o large = past _ o BITCAST large refl ∙ (past _ o S_NEGATE large refl ∙ past _ o NOT large refl)

no_arithmetic : (o : ℕ) → 65536 ≤ o → arithmetic o ≡ None
unfolding arithmetic
no_arithmetic o large = past _ o I_ADD large refl ∙ (past _ o I_SUB large refl ∙ (past _ o I_MUL large refl ∙ (past _ o U_DIV large refl ∙ (past _ o S_DIV large refl ∙ (past _ o U_MOD large refl ∙ (past _ o S_REM large refl ∙ past _ o S_MOD large refl))))))

no_bitwise : (o : ℕ) → 65536 ≤ o → bitwise o ≡ None
unfolding bitwise
no_bitwise o large = past _ o SHIFT_RIGHT_LOGICAL large refl ∙ (past _ o SHIFT_RIGHT_ARITHMETIC large refl ∙ (past _ o SHIFT_LEFT_LOGICAL large refl ∙ (past _ o BITWISE_OR large refl ∙ (past _ o BITWISE_XOR large refl ∙ past _ o BITWISE_AND large refl))))

no_comparison : (o : ℕ) → 65536 ≤ o → comparison o ≡ None
unfolding comparison
no_comparison o large =
    past _ o I_EQUAL large refl ∙ (past _ o I_NOT_EQUAL large refl ∙ (past _ o U_GREATER_THAN large refl ∙ (past _ o S_GREATER_THAN large refl ∙ (past _ o U_GREATER_THAN_EQUAL large refl
    ∙ (past _ o S_GREATER_THAN_EQUAL large refl ∙ (past _ o U_LESS_THAN large refl ∙ (past _ o S_LESS_THAN large refl ∙ (past _ o U_LESS_THAN_EQUAL large refl ∙ past _ o S_LESS_THAN_EQUAL large refl))))))))

no_truth : (o : ℕ) → 65536 ≤ o → truth_from_truth o ≡ None
unfolding truth_from_truth
no_truth o large = past _ o LOGICAL_NOT large refl

no_truths : (o : ℕ) → 65536 ≤ o → truth_from_truths o ≡ None
unfolding truth_from_truths
no_truths o large = past _ o LOGICAL_EQUAL large refl ∙ (past _ o LOGICAL_NOT_EQUAL large refl ∙ (past _ o LOGICAL_OR large refl ∙ past _ o LOGICAL_AND large refl))

pub no_large : (o : ℕ) (operands : List Scalar) → 65536 ≤ o → scalar_result o operands ≡ None
unfolding scalar_result
no_large o [] large = refl
no_large o (Word a ∷ []) large = ap (option_map (λ (f : ℕ → ℕ). Word (f a))) (no_word o large)
no_large o (Truth a ∷ []) large = ap (option_map (λ (f : Bool → Bool). Truth (f a))) (no_truth o large)
no_large o (Word a ∷ Word b ∷ []) large =
    ap (λ (w : Option (ℕ → ℕ → ℕ)). option_or (option_map (λ (f : ℕ → ℕ → ℕ). Word (f a b)) w) (option_map (λ (f : ℕ → ℕ → Bool). Truth (f a b)) (comparison o)))
    (ap (λ (w : Option (ℕ → ℕ → ℕ)). option_or w (bitwise o)) (no_arithmetic o large) ∙ no_bitwise o large)
    ∙ ap (option_map (λ (f : ℕ → ℕ → Bool). Truth (f a b))) (no_comparison o large)
no_large o (Truth a ∷ Truth b ∷ []) large = ap (option_map (λ (f : Bool → Bool → Bool). Truth (f a b))) (no_truths o large)
no_large o (Truth a ∷ Word b ∷ []) large = refl
no_large o (Word a ∷ Truth b ∷ []) large = refl
no_large o (Truth a ∷ Truth b ∷ c ∷ []) large = past _ o SELECT large refl
no_large o (Truth a ∷ Word b ∷ c ∷ []) large = past _ o SELECT large refl
no_large o (Word a ∷ Truth b ∷ c ∷ more) large = refl
no_large o (Word a ∷ Word b ∷ c ∷ more) large = refl
no_large o (Truth a ∷ Truth b ∷ c ∷ d ∷ more) large = refl
no_large o (Truth a ∷ Word b ∷ c ∷ d ∷ more) large = refl

pub too_large : {E : Type 0} (result : Result ℕ E) (opcode : ℕ) → OkIff result (opcode < 65536) opcode → ((short : ℕ) → result ≡ Ok short → ⊥) → 65536 ≤ opcode
too_large (Ok short) opcode is isnt = absurd (isnt short refl)
too_large (Err e) opcode isnt none = omega (arith, isnt)

-- ---- what isn't the result of an OpSpecConstantOp

pub none_large : (known : ℕ → Option Scalar) (words : List ℕ) (opcode : ℕ) → opcode ≡ slice_index words 0 → 65536 ≤ opcode → None ≡ operation_given known words
none_large known words opcode is large = by_known (all_known (map known (rest_of words)))
  where
    by_known : (operands : Option (List Scalar)) → None ≡ option_and_then (scalar_result (slice_index words 0)) operands
    by_known None = refl
    by_known (Some operands) = sym (ap (λ (o : ℕ). scalar_result o operands) (sym is) ∙ no_large opcode operands large)

all_are_known : (known : ℕ → Option Scalar) (ids : List ℕ) → all_constants known ids ≡ all_known (map known ids)
all_are_known known [] = refl
all_are_known known (id ∷ ids) = by_first (known id) (all_are_known known ids)
  where
    by_first : (first : Option Scalar) → all_constants known ids ≡ all_known (map known ids)
        → option_and_then (λ (first : Scalar). option_map (λ (rest : List Scalar). first ∷ rest) (all_constants known ids)) first ≡ all_known (first ∷ map known ids)
    by_first None rest = refl
    by_first (Some first) rest = ap (option_map (λ (l : List Scalar). first ∷ l)) rest

same_operands : (known : ℕ → Option Scalar) (opcode : ℕ) (ids : List ℕ) → option_and_then (scalar_result opcode) (all_constants known ids) ≡ folded opcode (map known ids)
same_operands known opcode ids = ap (option_and_then (scalar_result opcode)) (all_are_known known ids)

pub none_few : (known : ℕ → Option Scalar) (words : List ℕ) → length words < 2 → None ≡ operation_given known words
none_few known [] few = none_of_none 0 known [] (omega arith) ∙ same_operands known 0 []
none_few known (opcode ∷ ids) few = none_of_none opcode known ids (omega (arith, few)) ∙ same_operands known opcode ids

pub none_many : (known : ℕ → Option Scalar) (words : List ℕ) → 5 ≤ length words → None ≡ operation_given known words
none_many known [] many = absurd (omega (arith, many))
none_many known (opcode ∷ ids) many = none_of_four opcode known ids (omega (arith, many)) ∙ same_operands known opcode ids
