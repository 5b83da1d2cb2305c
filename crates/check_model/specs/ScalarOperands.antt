-- The operands of operations on integers and truth values, component by component (SPIR-V specification, sections 3.49.11
-- "Conversion Instructions" and 3.49.13 to 3.49.15). Signedness need not agree.
use Rattle.std.specs.Prelude.{ℕ, ◌==◌, Bool, true, false, ◌&&◌, ◌||◌, List, [], ◌∷◌, Option, None, Some}
use Rattle.basics.specs.Word.{are_equal}
use Rattle.spirv_model.specs.declared.class.ScalarClass.{ScalarClass}
use Rattle.spirv_model.specs.declared.class.ScalarClass.TheVariants.{Bitcast, WordFromWord, WordFromWords, TruthFromWords, TruthFromTruth, TruthFromTruths, Select}
use Rattle.valid_model.specs.declared.meaning.Meaning.{Meaning}
use Rattle.valid_model.specs.Knowledge.{is_bool}
use Rattle.check_model.specs.declared.components.Component.{Component}
use Rattle.check_model.specs.declared.components.Component.TheVariants.{Truth, Integer}
use Rattle.check_model.specs.declared.components.Components.{Components}
use Rattle.check_model.specs.Typing.{Typing, type_of, has_type, components_in}

abbrev pub is_truth : Component → Bool
is_truth Truth = true
is_truth (Integer signed) = false

-- truth values or integers, so many
abbrev pub are_so_many : Bool → ℕ → Option Components → Bool
are_so_many truths count None = false
are_so_many truths count (Some of) = are_equal truths (is_truth of.component) && (of.count == count)

-- both are scalars or vectors with equal numbers of components, which are truth values or integers
abbrev pub match_in : (truths_of_result truths_of_operand : Bool) → (result operand : Option Components) → Bool
match_in truths_of_result truths_of_operand None operand = false
match_in truths_of_result truths_of_operand (Some of) operand =
    are_equal truths_of_result (is_truth of.component) && are_so_many truths_of_operand of.count operand

-- an operand of the operation, and a result of this type
abbrev pub operand_fits : (truths_of_result truths_of_operand : Bool) → (type operand : Meaning) → Bool
operand_fits truths_of_result truths_of_operand type operand =
    match_in truths_of_result truths_of_operand (components_in type) (components_in operand)

-- one operand
abbrev pub unary_fits : ScalarClass → (type a : Meaning) → Bool
unary_fits Bitcast type a = operand_fits false false type a
unary_fits WordFromWord type a = operand_fits false false type a
unary_fits TruthFromTruth type a = operand_fits true true type a
unary_fits class type a = false

-- two operands
abbrev pub both_fit : (truths_of_result truths_of_operand : Bool) → (type a b : Meaning) → Bool
both_fit truths_of_result truths_of_operand type a b =
    operand_fits truths_of_result truths_of_operand type a && operand_fits truths_of_result truths_of_operand type b

abbrev pub binary_fits : ScalarClass → (type a b : Meaning) → Bool
binary_fits WordFromWords type a b = both_fit false false type a b
binary_fits TruthFromWords type a b = both_fit true false type a b
binary_fits TruthFromTruths type a b = both_fit true true type a b
binary_fits class type a b = false

-- one truth value, or as many as there are components
abbrev pub condition_fits : Meaning → Option Components → Bool
condition_fits condition None = false
condition_fits condition (Some of) = is_bool condition || are_so_many true of.count (components_in condition)

abbrev pub is_select : ScalarClass → Bool
is_select Select = true
is_select class = false

-- a condition and two objects of the result's type, which is a scalar or a vector
abbrev pub select_fits : Typing → ℕ → ℕ → ℕ → ℕ → Bool
select_fits typing type condition a b =
    condition_fits (type_of typing condition) (components_in (typing.meaning type)) && has_type typing type a && has_type typing type b

-- the operands of a scalar operation fit it and the type of its result
unfoldable pub scalar_operands_fit : Typing → ScalarClass → ℕ → List ℕ → Bool
scalar_operands_fit typing class type (a ∷ []) = unary_fits class (typing.meaning type) (type_of typing a)
scalar_operands_fit typing class type (a ∷ b ∷ []) = binary_fits class (typing.meaning type) (type_of typing a) (type_of typing b)
scalar_operands_fit typing class type (condition ∷ a ∷ b ∷ []) = is_select class && select_fits typing type condition a b
scalar_operands_fit typing class type operands = false
