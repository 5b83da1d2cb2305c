-- A module has no more words with constants for its specialization constants.
use Rattle.std.proofs.Common.{◌≡◌, ℕ, suc, ◌≤◌, ◌==◌, ◌||◌, Bool, true, false, if◌then◌else◌, List, [], ◌∷◌, length, take, refl, ap, sym, ◌∙◌, subst, arith, Option, None, Some}
use Rattle.std.specs.Prelude.{is_some}
use Rattle.std.specs.Option.{unwrap_or}
use Rattle.spirv_model.specs.declared.module.Inst.{Inst}
use Rattle.spirv_model.specs.declared.module.Words.{Words}
use Rattle.spirv_model.specs.declared.op.TheConstants as op
use Rattle.spirv_model.specs.Operands.{word_at, entry_of, kinds}
use Rattle.spirv_model.specs.Module.{module_words}
use Rattle.state_model.specs.declared.parts.SpecValues.{SpecValues}
use Rattle.valid_model.specs.Definitions.{inst_at}
use Rattle.check_model.specs.Validity.{IsValidList}
use Rattle.stage_model.specs.Value.{Value, Truth, Word, Composite, Pointer, Outside}
use Rattle.stage_model.specs.Program.{Program, program_of}
use Rattle.stage_model.specs.Start.{Values, constant_of, defined_by}
use Rattle.typed_model.proofs.ValidModules.{valid_sound}
use Rattle.change_model.specs.Constants.{is_spec_id, scalar_constant, is_spec_scalar, settled, constants}
use Rattle.change_model.proofs.Settlings.{op_is}
use Rattle.change_model.proofs.SiftedWords.{sifted_shortens}
use Rattle.change_model.proofs.SettledValues.{value_at_end}
use Rattle.change_model.proofs.ConstantsKeep.{own_result}

-- ---- one constant

-- the words that the constant of a value takes
abbrev needed : Option Value → ℕ
needed None = 0
needed (Some (Truth b)) = 2
needed (Some (Word word)) = 3
needed (Some value) = 0

no_longer : (inst : Inst) (value : Option Value) → needed value ≤ length inst.words → length (unwrap_or (scalar_constant (word_at 0 inst) (word_at 1 inst) value) inst).words ≤ length inst.words
no_longer inst None fits = omega arith
no_longer inst (Some (Truth true)) fits = fits
no_longer inst (Some (Truth false)) fits = fits
no_longer inst (Some (Word word)) fits = fits
no_longer inst (Some (Composite parts)) fits = omega arith
no_longer inst (Some (Pointer variable indices)) fits = omega arith
no_longer inst (Some Outside) fits = omega arith

at_most_three : (value : Option Value) → needed value ≤ 3
at_most_three None = omega arith
at_most_three (Some (Truth b)) = omega arith
at_most_three (Some (Word word)) = omega arith
at_most_three (Some (Composite parts)) = omega arith
at_most_three (Some (Pointer variable indices)) = omega arith
at_most_three (Some Outside) = omega arith

abbrev Needs : Program → SpecValues → Values → ℕ → List ℕ → Type 0
Needs program entries values opcode words = needed (constant_of program entries values opcode words) ≤ length words

true_fits : (program : Program) (entries : SpecValues) (values : Values) (words : List ℕ) → Needs program entries values op.SPEC_CONSTANT_TRUE words
unfolding constant_of
true_fits program entries values [] = omega arith
true_fits program entries values (type ∷ []) = omega arith
true_fits program entries values (type ∷ id ∷ words) = omega arith

false_fits : (program : Program) (entries : SpecValues) (values : Values) (words : List ℕ) → Needs program entries values op.SPEC_CONSTANT_FALSE words
unfolding constant_of
false_fits program entries values [] = omega arith
false_fits program entries values (type ∷ []) = omega arith
false_fits program entries values (type ∷ id ∷ words) = omega arith

three : (n m : ℕ) → n ≤ 3 → n ≤ suc (suc (suc m))
three n m few = omega (arith, few)

number_fits : (program : Program) (entries : SpecValues) (values : Values) (words : List ℕ) → is_some (kinds (record { op = op.SPEC_CONSTANT; words = words })) ≡ true → Needs program entries values op.SPEC_CONSTANT words
unfolding constant_of kinds entry_of
number_fits program entries values [] fits = omega arith
number_fits program entries values (type ∷ []) fits = omega arith
number_fits program entries values (type ∷ id ∷ []) fits = cc
number_fits program entries values (type ∷ id ∷ word ∷ words) fits = omega arith

operation_fits : (program : Program) (entries : SpecValues) (values : Values) (words : List ℕ) → is_some (kinds (record { op = op.SPEC_CONSTANT_OP; words = words })) ≡ true → Needs program entries values op.SPEC_CONSTANT_OP words
unfolding constant_of kinds entry_of
operation_fits program entries values [] fits = omega arith
operation_fits program entries values (type ∷ []) fits = omega arith
operation_fits program entries values (type ∷ id ∷ []) fits = cc
operation_fits program entries values (type ∷ id ∷ word ∷ words) fits =
    three (needed (constant_of program entries values op.SPEC_CONSTANT_OP (type ∷ id ∷ word ∷ words))) (length words) (at_most_three (constant_of program entries values op.SPEC_CONSTANT_OP (type ∷ id ∷ word ∷ words)))

scalar_fits : (program : Program) (entries : SpecValues) (values : Values) (inst : Inst) → is_spec_scalar inst.op ≡ true → is_some (kinds inst) ≡ true → Needs program entries values inst.op inst.words
scalar_fits program entries values inst is fits =
    by_tests (inst.op == op.SPEC_CONSTANT_TRUE) (inst.op == op.SPEC_CONSTANT_FALSE) (inst.op == op.SPEC_CONSTANT) (inst.op == op.SPEC_CONSTANT_OP) refl refl refl refl is
  where
    at : (own : ℕ) → inst.op == own ≡ true → Needs program entries values own inst.words → Needs program entries values inst.op inst.words
    at own same needs = subst (λ (o : ℕ). Needs program entries values o inst.words) (sym (op_is inst.op own same)) needs

    fits_as : (own : ℕ) → inst.op == own ≡ true → is_some (kinds (record { op = own; words = inst.words })) ≡ true
    fits_as own same = ap (λ (o : ℕ). is_some (kinds (record { op = o; words = inst.words }))) (sym (op_is inst.op own same)) ∙ fits

    by_tests : (a b c d : Bool) → inst.op == op.SPEC_CONSTANT_TRUE ≡ a → inst.op == op.SPEC_CONSTANT_FALSE ≡ b → inst.op == op.SPEC_CONSTANT ≡ c → inst.op == op.SPEC_CONSTANT_OP ≡ d
        → (((a || b) || c) || d) ≡ true → Needs program entries values inst.op inst.words
    by_tests true b c d is_true is_false is_number is_operation some = at op.SPEC_CONSTANT_TRUE is_true (true_fits program entries values inst.words)
    by_tests false true c d is_true is_false is_number is_operation some = at op.SPEC_CONSTANT_FALSE is_false (false_fits program entries values inst.words)
    by_tests false false true d is_true is_false is_number is_operation some = at op.SPEC_CONSTANT is_number (number_fits program entries values inst.words (fits_as op.SPEC_CONSTANT is_number))
    by_tests false false false true is_true is_false is_number is_operation some = at op.SPEC_CONSTANT_OP is_operation (operation_fits program entries values inst.words (fits_as op.SPEC_CONSTANT_OP is_operation))
    by_tests false false false false is_true is_false is_number is_operation some = cc

same_length : (n : ℕ) → n ≤ n
same_length n = omega arith

settled_short : (program : Program) (entries : SpecValues) (at_end values : Values) (inst : Inst) → is_some (kinds inst) ≡ true
    → (is_spec_scalar inst.op ≡ true → at_end (word_at 1 inst) ≡ constant_of program entries values inst.op inst.words) → length (settled at_end inst).words ≤ length inst.words
unfolding settled
settled_short program entries at_end values inst fits found = by_tests (inst.op == op.SPEC_CONSTANT_COMPOSITE) (is_spec_scalar inst.op) refl
  where
    by_tests : (composite scalar : Bool) → is_spec_scalar inst.op ≡ scalar
        → length (if composite then record inst { op = op.CONSTANT_COMPOSITE } else if scalar then unwrap_or (scalar_constant (word_at 0 inst) (word_at 1 inst) (at_end (word_at 1 inst))) inst else inst).words ≤ length inst.words
    by_tests true scalar is = same_length (length inst.words)
    by_tests false true is =
        no_longer inst (at_end (word_at 1 inst)) (subst (λ (v : Option Value). needed v ≤ length inst.words) (sym (found is)) (scalar_fits program entries values inst is fits))
    by_tests false false is = same_length (length inst.words)

-- ---- all of them

pub constants_shorten : (words : Words) → IsValidList words → (entries : SpecValues)
    → length (module_words (constants entries words.insts) words.bound) ≤ length (module_words words.insts words.bound)
unfolding constants
constants_shorten words v entries =
    let insts = words.insts in
    let q = program_of insts in
    let at_end = defined_by q entries insts in
    let f : Inst → Inst = settled at_end in
    let s = valid_sound words v in
    sifted_shortens is_spec_id f insts words.bound (λ k within. settled_short q entries at_end (defined_by q entries (take k insts)) (inst_at insts k) (s.shaped k within)
    (λ is. value_at_end q entries words v.sound k within (own_result (inst_at insts k) is)))
