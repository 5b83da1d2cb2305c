-- The table's classes of scalar operations are the operations that are defined: for each row, which kinds of operation have its
-- opcode.
use Rattle.std.proofs.Common.{◌≡◌, ℕ, Bool, true, false, ◌==◌, List, [], ◌∷◌, map, Option, Some, is_some, refl}
use Rattle.spirv_model.specs.declared.class.Class.{Class}
use Rattle.spirv_model.specs.declared.class.Class.TheVariants.{Scalar}
use Rattle.spirv_model.specs.declared.class.ScalarClass.TheVariants.{Bitcast, WordFromWord, WordFromWords, TruthFromWords, TruthFromTruth, TruthFromTruths, Select}
use Rattle.spirv_model.specs.declared.op.TheConstants.{SELECT}
use Rattle.spirv_model.specs.declared.table.TheConstants.{ROWS}
use Rattle.spirv_model.specs.Operands.{entry_of, class_of}
use Rattle.scalar_model.specs.Scalars.{word_from_word, word_from_words, arithmetic, bitwise, comparison, truth_from_truth, truth_from_truths}

-- by the definitions
abbrev kinds_of : ℕ → List Bool
kinds_of op =
    is_some (word_from_word op) ∷ is_some (word_from_words op) ∷ is_some (comparison op) ∷ is_some (truth_from_truth op)
    ∷ is_some (truth_from_truths op) ∷ (op == SELECT) ∷ []

-- by the class
abbrev kinds_in : Option Class → List Bool
kinds_in (Some (Scalar Bitcast)) = true ∷ false ∷ false ∷ false ∷ false ∷ false ∷ []
kinds_in (Some (Scalar WordFromWord)) = true ∷ false ∷ false ∷ false ∷ false ∷ false ∷ []
kinds_in (Some (Scalar WordFromWords)) = false ∷ true ∷ false ∷ false ∷ false ∷ false ∷ []
kinds_in (Some (Scalar TruthFromWords)) = false ∷ false ∷ true ∷ false ∷ false ∷ false ∷ []
kinds_in (Some (Scalar TruthFromTruth)) = false ∷ false ∷ false ∷ true ∷ false ∷ false ∷ []
kinds_in (Some (Scalar TruthFromTruths)) = false ∷ false ∷ false ∷ false ∷ true ∷ false ∷ []
kinds_in (Some (Scalar Select)) = false ∷ false ∷ false ∷ false ∷ false ∷ true ∷ []
kinds_in class = false ∷ false ∷ false ∷ false ∷ false ∷ false ∷ []

pub classes : map (λ row. kinds_of row.op) ROWS ≡ map (λ row. kinds_in (class_of row.op)) ROWS
unfolding entry_of class_of word_from_word arithmetic bitwise comparison truth_from_truth truth_from_truths
classes = refl
