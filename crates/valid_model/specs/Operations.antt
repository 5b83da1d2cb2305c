-- The operations of OpSpecConstantOp (SPIR-V specification, section 3.49.7 "Constant-Creation Instructions"): the operands
-- that they take and the result that they have.
use Rattle.std.specs.Prelude.{ℕ, Bool, true, false, ◌&&◌, ◌||◌, List, [], ◌∷◌, Option, Some}
use Rattle.valid_model.specs.declared.meaning.Meaning.{Meaning}
use Rattle.valid_model.specs.Knowledge.{Knowledge, constant_type, is_bool, is_constant_of, is_integer, meaning_in}
use Rattle.spirv_model.specs.declared.class.Class.{Class}
use Rattle.spirv_model.specs.declared.class.Class.TheVariants.{Scalar}
use Rattle.spirv_model.specs.declared.class.ScalarClass.TheVariants.{WordFromWord, WordFromWords, TruthFromWords, TruthFromTruth, TruthFromTruths, Select}
use Rattle.spirv_model.specs.Operands.{class_of}

-- one operand
abbrev pub unary_fits : Option Class → Meaning → Meaning → Bool
unary_fits (Some (Scalar WordFromWord)) type a = is_integer type && is_integer a
unary_fits (Some (Scalar TruthFromTruth)) type a = is_bool type && is_bool a
unary_fits class type a = false

-- two operands
abbrev pub binary_fits : Option Class → Meaning → Meaning → Meaning → Bool
binary_fits (Some (Scalar WordFromWords)) type a b = is_integer type && is_integer a && is_integer b
binary_fits (Some (Scalar TruthFromWords)) type a b = is_bool type && is_integer a && is_integer b
binary_fits (Some (Scalar TruthFromTruths)) type a b = is_bool type && is_bool a && is_bool b
binary_fits class type a b = false

-- of scalar constants, as its operands are
abbrev pub unary_operation_fits : Knowledge → ℕ → Option Class → ℕ → Bool
unary_operation_fits known type class a = unary_fits class (meaning_in (known type)) (constant_type known a)

abbrev pub binary_operation_fits : Knowledge → ℕ → Option Class → ℕ → ℕ → Bool
binary_operation_fits known type class a b =
    binary_fits class (meaning_in (known type)) (constant_type known a) (constant_type known b)

abbrev pub is_select : Option Class → Bool
is_select (Some (Scalar Select)) = true
is_select class = false

-- one of two objects of the result's type
abbrev pub select_fits : Knowledge → ℕ → ℕ → ℕ → ℕ → Bool
select_fits known type condition a b =
    is_bool (constant_type known condition) && (is_bool (meaning_in (known type)) || is_integer (meaning_in (known type)))
    && is_constant_of type (meaning_in (known a)) && is_constant_of type (meaning_in (known b))

-- the operation fits its operands, which are scalar constants that are defined before, and the type of its result
abbrev pub operation_fits : Knowledge → ℕ → ℕ → List ℕ → Bool
operation_fits known type opcode (a ∷ []) = unary_operation_fits known type (class_of opcode) a
operation_fits known type opcode (a ∷ b ∷ []) = binary_operation_fits known type (class_of opcode) a b
operation_fits known type opcode (condition ∷ a ∷ b ∷ []) = is_select (class_of opcode) && select_fits known type condition a b
operation_fits known type opcode operands = false
