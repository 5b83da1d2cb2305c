-- What the table's classes of scalar operations say: which operations have such an opcode.
use Rattle.std.proofs.Common.{◌≡◌, ℕ, Bool, true, false, not, ◌==◌, ◌&&◌, ◌||◌, if◌then◌else◌, List, [], ◌∷◌, refl, ap, sym, ◌∙◌, arith, Option, Some, is_some}
use Rattle.std.specs.Prelude.{is_none}
use Rattle.std.specs.List.{list_all}
use Rattle.std.proofs.lemmas.Bool.Decides.{nat_tests}
use Rattle.basics.proofs.Bools.{first_of_both, second_of_both}
use Rattle.spirv_model.specs.declared.class.Class.{Class}
use Rattle.spirv_model.specs.declared.class.Class.TheVariants.{Scalar}
use Rattle.spirv_model.specs.declared.class.ScalarClass.{ScalarClass}
use Rattle.spirv_model.specs.declared.class.ScalarClass.TheVariants.{Bitcast, WordFromWord, WordFromWords, TruthFromWords, TruthFromTruth, TruthFromTruths, Select}
use Rattle.spirv_model.specs.declared.op.TheConstants as op
use Rattle.spirv_model.specs.declared.table.TheConstants.{ROWS}
use Rattle.spirv_model.specs.declared.table.Row.{Row}
use Rattle.spirv_model.specs.Operands.{entry_in, entry_of, class_in, class_of}
use Rattle.scalar_model.specs.Scalars.{word_from_word, word_from_words, arithmetic, bitwise, comparison, truth_from_truth, truth_from_truths}

-- an operation of this class has the opcode
abbrev pub is_operation : ScalarClass → ℕ → Bool
is_operation Bitcast opcode = is_some (word_from_word opcode)
is_operation WordFromWord opcode = is_some (word_from_word opcode)
is_operation WordFromWords opcode = is_some (word_from_words opcode)
is_operation TruthFromWords opcode = is_none (word_from_words opcode) && is_some (comparison opcode)
is_operation TruthFromTruth opcode = is_some (truth_from_truth opcode)
is_operation TruthFromTruths opcode = is_some (truth_from_truths opcode)
is_operation Select opcode = opcode == op.SELECT

-- an opcode that isn't that of a scalar operation, though the machine names it
abbrev pub has_own_result : ℕ → Bool
has_own_result opcode =
    (opcode == op.PHI) || ((opcode == op.UNDEF) || ((opcode == op.LOAD) || ((opcode == op.ACCESS_CHAIN) || ((opcode == op.VECTOR_SHUFFLE)
    || ((opcode == op.COMPOSITE_CONSTRUCT) || ((opcode == op.COMPOSITE_EXTRACT) || ((opcode == op.COMPOSITE_INSERT) || ((opcode == op.ANY) || (opcode == op.ALL)))))))))

abbrev pub has_own_effect : ℕ → Bool
has_own_effect opcode =
    (opcode == op.LABEL) || ((opcode == op.SELECTION_MERGE) || ((opcode == op.LOOP_MERGE) || ((opcode == op.VARIABLE) || ((opcode == op.STORE) || ((opcode == op.BRANCH)
    || ((opcode == op.BRANCH_CONDITIONAL) || ((opcode == op.SWITCH) || ((opcode == op.RETURN) || ((opcode == op.UNREACHABLE) || (opcode == op.KILL))))))))))

abbrev is_right : Option Class → ℕ → Bool
is_right (Some (Scalar operation)) opcode = is_operation operation opcode && (not (has_own_result opcode) && not (has_own_effect opcode))
is_right class opcode = true

abbrev is_right_row : Row → Bool
is_right_row row = is_right (class_in (Some row.entry)) row.op

all_right : list_all is_right_row ROWS ≡ true
unfolding word_from_word arithmetic bitwise comparison truth_from_truth truth_from_truths
all_right = refl

row_is : (a b : ℕ) → true ≡ (a == b) → a ≡ b
row_is a b is = grind (arith, nat_tests)

in_rows : (rows : List Row) (opcode : ℕ) → list_all is_right_row rows ≡ true → is_right (class_in (entry_in rows opcode)) opcode ≡ true
in_rows [] opcode all = refl
in_rows (row ∷ rows) opcode all =
    by_first row rows opcode (row.op == opcode) refl (first_of_both (is_right_row row) (list_all is_right_row rows) all) (in_rows rows opcode (second_of_both (is_right_row row) (list_all is_right_row rows) all))
  where
    by_first : (row : Row) (rows : List Row) (opcode : ℕ) (b : Bool) → b ≡ (row.op == opcode) → is_right_row row ≡ true → is_right (class_in (entry_in rows opcode)) opcode ≡ true
        → is_right (class_in (if b then Some row.entry else entry_in rows opcode)) opcode ≡ true
    by_first row rows opcode true is here rest = sym (ap (is_right (class_in (Some row.entry))) (row_is row.op opcode is)) ∙ here
    by_first row rows opcode false is here rest = rest

right : (opcode : ℕ) → is_right (class_of opcode) opcode ≡ true
unfolding class_of entry_of
right opcode = in_rows ROWS opcode all_right

-- an opcode of the class is that of an operation, and of nothing else that the machine names
pub record IsOperation (operation : ScalarClass) (opcode : ℕ) : Type 0 where
  pub is : is_operation operation opcode ≡ true
  pub no_result : has_own_result opcode ≡ false
  pub no_effect : has_own_effect opcode ≡ false

not_true : (b : Bool) → not b ≡ true → b ≡ false
not_true true is = cc
not_true false is = refl

pub operation_by_class : (operation : ScalarClass) (opcode : ℕ) → class_of opcode ≡ Some (Scalar operation) → IsOperation operation opcode
operation_by_class operation opcode is =
    let all = sym (ap (λ class. is_right class opcode) is) ∙ right opcode in
    let rest = second_of_both (is_operation operation opcode) (not (has_own_result opcode) && not (has_own_effect opcode)) all in
    record {
      is = first_of_both (is_operation operation opcode) (not (has_own_result opcode) && not (has_own_effect opcode)) all;
      no_result = not_true _ (first_of_both (not (has_own_result opcode)) (not (has_own_effect opcode)) rest);
      no_effect = not_true _ (second_of_both (not (has_own_result opcode)) (not (has_own_effect opcode)) rest);
    }
