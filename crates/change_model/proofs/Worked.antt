-- Constants for specialization constants, by computing.
use Rattle.std.proofs.Common.{◌≡◌, ℕ, ◌+◌, ◌-◌, List, [], ◌∷◌, ◌++◌, refl, ◌==◌, if◌then◌else◌, Option, None, Some}
use Rattle.std.specs.Prelude.{take, drop}
use Rattle.spirv_model.specs.declared.module.Inst.{Inst}
use Rattle.spirv_model.specs.declared.op.TheConstants as op
use Rattle.spirv_model.specs.declared.decoration.TheConstants.{SPEC_ID}
use Rattle.spirv_model.specs.Operands.{result, entry_of, class_of}
use Rattle.scalar_model.specs.Scalars.{scalar_result, word_from_word, arithmetic, bitwise, comparison, truth_from_truth, truth_from_truths}
use Rattle.state_model.specs.declared.parts.SpecValues.{SpecValues}
use Rattle.body_model.proofs.SampleModules.{f1, f2, f5}
use Rattle.valid_model.specs.Definitions.{definition}
use Rattle.valid_model.specs.Meanings.{known_by, known_after, known_of}
use Rattle.valid_model.specs.Types.{type_of}
use Rattle.valid_model.specs.DecorationWords.{decoration_of, offset_of}
use Rattle.stage_model.specs.Program.{program_of, layouts_by}
use Rattle.stage_model.specs.Start.{constant_of, defined_by}
use Rattle.scalar_model.specs.declared.scalar_value.Scalar.{Scalar}
use Rattle.scalar_model.specs.declared.scalar_value.Scalar.TheVariants.{Word as WordOf}
use Rattle.unit_model.specs.ConstantScalars.{constant_scalar}
use Rattle.change_model.specs.Folding.{moved_up, folded_at}
use Rattle.change_model.specs.Constants.{settled, constants}

abbrev i : ℕ → List ℕ → Inst
i opcode words = record { op = opcode; words = words }

abbrev no_entry : SpecValues
no_entry = record { entries = [] }

abbrev entry : ℕ → ℕ → SpecValues
entry id value = record { entries = Some (record { id = id; value = value }) ∷ [] }

-- a module without any is as it was
without-any : constants (entry 0 3) f1 ≡ f1
unfolding result entry_of class_of known_by known_after known_of type_of decoration_of offset_of program_of layouts_by constant_of defined_by settled constants
without-any = refl

-- a list with the instruction at a place gone, and another one put for one behind it
abbrev changed : ℕ → ℕ → Inst → List Inst → List Inst
changed gone place inst insts = take gone insts ++ (take (place - (gone + 1)) (drop (gone + 1) insts) ++ inst ∷ drop (place + 1) insts)

-- a number: its default, and the word of an entry
numbers : constants no_entry f2 ∷ constants (entry 0 0) f2 ∷ constants (entry 1 3) f2 ∷ []
    ≡ changed 5 12 (i op.CONSTANT (3 ∷ 9 ∷ 7 ∷ [])) f2 ∷ changed 5 12 (i op.CONSTANT (3 ∷ 9 ∷ 0 ∷ [])) f2 ∷ changed 5 12 (i op.CONSTANT (3 ∷ 9 ∷ 7 ∷ [])) f2 ∷ []
unfolding result entry_of class_of known_by known_after known_of type_of decoration_of offset_of program_of layouts_by constant_of defined_by settled constants
numbers = refl

-- a truth value is true where the word isn't 0
truths : constants no_entry f5 ∷ constants (entry 2 0) f5 ∷ constants (entry 2 5) f5 ∷ []
    ≡ changed 5 14 (i op.CONSTANT_TRUE (10 ∷ 9 ∷ [])) f5 ∷ changed 5 14 (i op.CONSTANT_FALSE (10 ∷ 9 ∷ [])) f5 ∷ changed 5 14 (i op.CONSTANT_TRUE (10 ∷ 9 ∷ [])) f5 ∷ []
unfolding result entry_of class_of known_by known_after known_of type_of decoration_of offset_of program_of layouts_by constant_of defined_by settled constants
truths = refl

-- 100 divided by the constant with number 4, a comparison of both, and a vector of them
abbrev computed : List Inst
computed =
    i op.DECORATE (4 ∷ SPEC_ID ∷ 4 ∷ []) ∷ i op.TYPE_BOOL (1 ∷ []) ∷ i op.TYPE_INT (2 ∷ 32 ∷ 0 ∷ []) ∷ i op.CONSTANT (2 ∷ 3 ∷ 100 ∷ []) ∷ i op.SPEC_CONSTANT (2 ∷ 4 ∷ 7 ∷ [])
    ∷ i op.SPEC_CONSTANT_OP (2 ∷ 5 ∷ op.U_DIV ∷ 3 ∷ 4 ∷ []) ∷ i op.SPEC_CONSTANT_OP (1 ∷ 6 ∷ op.I_EQUAL ∷ 5 ∷ 3 ∷ []) ∷ i op.TYPE_VECTOR (7 ∷ 2 ∷ 2 ∷ [])
    ∷ i op.SPEC_CONSTANT_COMPOSITE (7 ∷ 8 ∷ 4 ∷ 5 ∷ []) ∷ []

abbrev computed_with : (number quotient : ℕ) → (comparison : ℕ) → List Inst
computed_with number quotient comparison =
    i op.TYPE_BOOL (1 ∷ []) ∷ i op.TYPE_INT (2 ∷ 32 ∷ 0 ∷ []) ∷ i op.CONSTANT (2 ∷ 3 ∷ 100 ∷ []) ∷ i op.CONSTANT (2 ∷ 4 ∷ number ∷ [])
    ∷ i op.CONSTANT (2 ∷ 5 ∷ quotient ∷ []) ∷ i comparison (1 ∷ 6 ∷ []) ∷ i op.TYPE_VECTOR (7 ∷ 2 ∷ 2 ∷ [])
    ∷ i op.CONSTANT_COMPOSITE (7 ∷ 8 ∷ 4 ∷ 5 ∷ []) ∷ []

-- a quotient by zero is 0
operations : constants no_entry computed ∷ constants (entry 4 1) computed ∷ constants (entry 4 0) computed ∷ []
    ≡ computed_with 7 14 op.CONSTANT_FALSE ∷ computed_with 1 100 op.CONSTANT_TRUE ∷ computed_with 0 0 op.CONSTANT_FALSE ∷ []
unfolding scalar_result word_from_word arithmetic bitwise comparison truth_from_truth truth_from_truths result entry_of class_of known_by known_after known_of type_of decoration_of offset_of program_of layouts_by constant_of defined_by settled constants
operations = refl

-- ---- folding

-- numbers 6 and 9
abbrev numbers_of : ℕ → ℕ → ℕ → Option Scalar
numbers_of six nine id = if id == 6 then Some (WordOf six) else if id == 9 then Some (WordOf nine) else None

-- the quotient of both, where OpFunction stands at place 12 and the operation at 14
abbrev quotient : ℕ → List Inst → List Inst
quotient result insts =
    take 12 insts
    ++ (i op.CONSTANT (3 ∷ 10 ∷ result ∷ []) ∷ i op.FUNCTION (1 ∷ 7 ∷ 0 ∷ 2 ∷ []) ∷ i op.LABEL (8 ∷ []) ∷ i op.STORE (5 ∷ 10 ∷ []) ∷ i op.RETURN [] ∷ i op.FUNCTION_END [] ∷ [])

-- what isn't known stays
folded : folded_at (numbers_of 100 7) 14 (constants no_entry f2) ∷ folded_at (numbers_of 100 0) 14 (constants (entry 0 0) f2) ∷ folded_at (λ id. None) 14 (constants no_entry f2) ∷ []
    ≡ quotient 14 (constants no_entry f2) ∷ quotient 0 (constants (entry 0 0) f2) ∷ constants no_entry f2 ∷ []
unfolding scalar_result word_from_word arithmetic bitwise comparison truth_from_truth truth_from_truths result entry_of class_of known_by known_after known_of type_of decoration_of offset_of program_of layouts_by constant_of defined_by settled constants moved_up folded_at
folded = refl

-- the numbers that the list itself tells; a specialization constant is none
told : folded_at (constant_scalar (constants no_entry f2)) 14 (constants no_entry f2) ∷ folded_at (constant_scalar (constants (entry 0 0) f2)) 14 (constants (entry 0 0) f2) ∷ folded_at (constant_scalar f2) 15 f2 ∷ []
    ≡ quotient 14 (constants no_entry f2) ∷ quotient 0 (constants (entry 0 0) f2) ∷ f2 ∷ []
unfolding scalar_result word_from_word arithmetic bitwise comparison truth_from_truth truth_from_truths result entry_of class_of definition known_by known_after known_of type_of decoration_of offset_of program_of layouts_by constant_of defined_by settled constants moved_up folded_at constant_scalar
told = refl
