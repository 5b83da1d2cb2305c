-- The constants that stand for specialization constants fit their types, and are read as they are written.
use Rattle.std.proofs.Common.{◌≡◌, ℕ, ◌<◌, ◌==◌, ◌&&◌, ◌||◌, ◌⊎◌, inl, inr, Bool, true, false, not, nat_lt, if◌then◌else◌, List, [], ◌∷◌, length, take, slice_index, refl, ap, sym, ◌∙◌, subst, arith, Option, None, Some}
use Rattle.std.specs.Prelude.{is_some}
use Rattle.std.specs.Option.{unwrap_or}
use Rattle.std.specs.List.{list_all}
use Rattle.std.proofs.lemmas.Bool.{cases_lt}
use Rattle.spirv_model.specs.declared.module.Inst.{Inst}
use Rattle.spirv_model.specs.declared.module.Words.{Words}
use Rattle.spirv_model.specs.declared.class.Class.{Class}
use Rattle.spirv_model.specs.declared.class.Class.TheVariants.{Scalar}
use Rattle.spirv_model.specs.declared.class.ScalarClass.TheVariants.{WordFromWord, WordFromWords, TruthFromWords, TruthFromTruth, TruthFromTruths}
use Rattle.spirv_model.specs.declared.op.TheConstants as op
use Rattle.spirv_model.specs.Operands.{word_at, words_from, entry_of, class_of, kinds, ids}
use Rattle.state_model.specs.declared.parts.SpecValues.{SpecValues}
use Rattle.valid_model.specs.declared.meaning.Meaning.{Meaning}
use Rattle.scalar_model.specs.declared.scalar_value.Scalar.{Scalar as OneScalar}
use Rattle.scalar_model.specs.declared.scalar_value.Scalar.TheVariants.{Bool as TruthOf, Word as WordOf}
use Rattle.valid_model.specs.Definitions.{inst_at, id_out_of_bound}
use Rattle.valid_model.specs.Knowledge.{Knowledge, constant_type, is_bool, is_constant_of, is_integer, meaning_in}
use Rattle.valid_model.specs.Operations.{unary_fits, binary_fits, is_select, operation_fits}
use Rattle.valid_model.specs.Constants.{constant_fits, breaks_constants}
use Rattle.valid_model.specs.Meanings.{is_constant, known_before}
use Rattle.check_model.specs.Validity.{IsValidList}
use Rattle.stage_model.specs.Value.{Value, Truth, Word, Composite, Pointer, Outside}
use Rattle.stage_model.specs.Program.{Program, program_of}
use Rattle.stage_model.specs.Start.{Values, of_scalar, constant_of, defined_by}
use Rattle.typed_model.specs.Modules.{IsFront}
use Rattle.typed_model.specs.Types.{HasTypes, HasTypedResult}
use Rattle.typed_model.proofs.BlockParts.{clash}
use Rattle.typed_model.proofs.Constants.{Before, bool_layout, integer_layout}
use Rattle.typed_model.proofs.ConstantValues.{constant_value}
use Rattle.typed_model.proofs.Layouts.{truth_of, word_of}
use Rattle.typed_model.proofs.ModuleConstants.{before_of}
use Rattle.typed_model.proofs.ModuleTyped.{module_typed}
use Rattle.typed_model.proofs.TypeLayouts.{type_has_layout}
use Rattle.typed_model.proofs.ValidFunctions.{front_of}
use Rattle.typed_model.proofs.ValidModules.{valid_sound}
use Rattle.typed_model.proofs.ValidTypes.{valid_types}
use Rattle.change_model.specs.Constants.{scalar_constant, is_spec_scalar, settled}
use Rattle.change_model.proofs.ConstantsKeep.{own_result}
use Rattle.change_model.proofs.ConstantsStand.{scalar_is_spec}
use Rattle.change_model.proofs.SettledFunction.{first_of, function_stays}
use Rattle.change_model.proofs.SettledMeanings.{spec_is_constant}
use Rattle.change_model.proofs.SettledValues.{value_at_end}
use Rattle.change_model.proofs.Settlings.{op_is}

-- ---- words

same_kinds : (words : List ℕ) → kinds (record { op = op.CONSTANT_COMPOSITE; words = words }) ≡ kinds (record { op = op.SPEC_CONSTANT_COMPOSITE; words = words })
unfolding kinds entry_of
same_kinds words = refl

same_ids : (words : List ℕ) → ids (record { op = op.CONSTANT_COMPOSITE; words = words }) ≡ ids (record { op = op.SPEC_CONSTANT_COMPOSITE; words = words })
unfolding ids kinds entry_of
same_ids words = refl

-- the first two words are ids
pub record FirstTwo (inst : Inst) : Type 0 where
  pub rest : List ℕ
  pub are : ids inst ≡ word_at 0 inst ∷ word_at 1 inst ∷ rest

two_of_true : (words : List ℕ) → is_some (kinds (record { op = op.SPEC_CONSTANT_TRUE; words = words })) ≡ true → FirstTwo (record { op = op.SPEC_CONSTANT_TRUE; words = words })
unfolding ids kinds entry_of
two_of_true [] fits = cc
two_of_true (type ∷ []) fits = cc
two_of_true (type ∷ id ∷ []) fits = record { rest = []; are = refl }
two_of_true (type ∷ id ∷ word ∷ words) fits = cc

two_of_false : (words : List ℕ) → is_some (kinds (record { op = op.SPEC_CONSTANT_FALSE; words = words })) ≡ true → FirstTwo (record { op = op.SPEC_CONSTANT_FALSE; words = words })
unfolding ids kinds entry_of
two_of_false [] fits = cc
two_of_false (type ∷ []) fits = cc
two_of_false (type ∷ id ∷ []) fits = record { rest = []; are = refl }
two_of_false (type ∷ id ∷ word ∷ words) fits = cc

two_of_number : (words : List ℕ) → is_some (kinds (record { op = op.SPEC_CONSTANT; words = words })) ≡ true → FirstTwo (record { op = op.SPEC_CONSTANT; words = words })
unfolding ids kinds entry_of
two_of_number [] fits = cc
two_of_number (type ∷ []) fits = cc
two_of_number (type ∷ id ∷ []) fits = cc
two_of_number (type ∷ id ∷ word ∷ []) fits = record { rest = []; are = refl }
two_of_number (type ∷ id ∷ word ∷ more ∷ words) fits = cc

two_of_operation : (words : List ℕ) → is_some (kinds (record { op = op.SPEC_CONSTANT_OP; words = words })) ≡ true → FirstTwo (record { op = op.SPEC_CONSTANT_OP; words = words })
unfolding ids kinds entry_of
two_of_operation [] fits = cc
two_of_operation (type ∷ []) fits = cc
two_of_operation (type ∷ id ∷ []) fits = cc
two_of_operation (type ∷ id ∷ word ∷ words) fits = record { rest = _; are = refl }

-- each of the four kinds
by_kind : (P : Inst → Type 0) (inst : Inst) → is_spec_scalar inst.op ≡ true
    → ((opcode : ℕ) → inst.op ≡ opcode → P (record { op = opcode; words = inst.words }) → P inst)
    → (inst.op ≡ op.SPEC_CONSTANT_TRUE → P (record { op = op.SPEC_CONSTANT_TRUE; words = inst.words })) → (inst.op ≡ op.SPEC_CONSTANT_FALSE → P (record { op = op.SPEC_CONSTANT_FALSE; words = inst.words }))
    → (inst.op ≡ op.SPEC_CONSTANT → P (record { op = op.SPEC_CONSTANT; words = inst.words })) → (inst.op ≡ op.SPEC_CONSTANT_OP → P (record { op = op.SPEC_CONSTANT_OP; words = inst.words })) → P inst
by_kind P inst is at truth untruth number operation =
    by_tests (inst.op == op.SPEC_CONSTANT_TRUE) (inst.op == op.SPEC_CONSTANT_FALSE) (inst.op == op.SPEC_CONSTANT) (inst.op == op.SPEC_CONSTANT_OP) refl refl refl refl is
  where
    by_tests : (a b c d : Bool) → inst.op == op.SPEC_CONSTANT_TRUE ≡ a → inst.op == op.SPEC_CONSTANT_FALSE ≡ b → inst.op == op.SPEC_CONSTANT ≡ c → inst.op == op.SPEC_CONSTANT_OP ≡ d → (((a || b) || c) || d) ≡ true → P inst
    by_tests true b c d is_true is_false is_number is_operation some = at op.SPEC_CONSTANT_TRUE (op_is inst.op op.SPEC_CONSTANT_TRUE is_true) (truth (op_is inst.op op.SPEC_CONSTANT_TRUE is_true))
    by_tests false true c d is_true is_false is_number is_operation some = at op.SPEC_CONSTANT_FALSE (op_is inst.op op.SPEC_CONSTANT_FALSE is_false) (untruth (op_is inst.op op.SPEC_CONSTANT_FALSE is_false))
    by_tests false false true d is_true is_false is_number is_operation some = at op.SPEC_CONSTANT (op_is inst.op op.SPEC_CONSTANT is_number) (number (op_is inst.op op.SPEC_CONSTANT is_number))
    by_tests false false false true is_true is_false is_number is_operation some = at op.SPEC_CONSTANT_OP (op_is inst.op op.SPEC_CONSTANT_OP is_operation) (operation (op_is inst.op op.SPEC_CONSTANT_OP is_operation))
    by_tests false false false false is_true is_false is_number is_operation some = cc

as_inst : (P : Inst → Type 0) (inst : Inst) (opcode : ℕ) → inst.op ≡ opcode → P (record { op = opcode; words = inst.words }) → P inst
as_inst P inst opcode is p = subst (λ (o : ℕ). P (record { op = o; words = inst.words })) (sym is) p

fits_as : (inst : Inst) (opcode : ℕ) → is_some (kinds inst) ≡ true → inst.op ≡ opcode → is_some (kinds (record { op = opcode; words = inst.words })) ≡ true
fits_as inst opcode fits is = ap (λ (o : ℕ). is_some (kinds (record { op = o; words = inst.words }))) (sym is) ∙ fits

first_two : (inst : Inst) → is_spec_scalar inst.op ≡ true → is_some (kinds inst) ≡ true → FirstTwo inst
first_two inst is fits = by_kind FirstTwo inst is (as_inst FirstTwo inst)
    (λ e. two_of_true inst.words (fits_as inst op.SPEC_CONSTANT_TRUE fits e)) (λ e. two_of_false inst.words (fits_as inst op.SPEC_CONSTANT_FALSE fits e))
    (λ e. two_of_number inst.words (fits_as inst op.SPEC_CONSTANT fits e)) (λ e. two_of_operation inst.words (fits_as inst op.SPEC_CONSTANT_OP fits e))

-- the words of a constant
record IsWritten (bound type id : ℕ) (inst : Inst) : Type 0 where
  shaped : is_some (kinds inst) ≡ true
  are : ids inst ≡ type ∷ id ∷ []

true_written : (bound type id : ℕ) → IsWritten bound type id (record { op = op.CONSTANT_TRUE; words = type ∷ id ∷ [] })
unfolding ids kinds entry_of
true_written bound type id = record { shaped = refl; are = refl }

false_written : (bound type id : ℕ) → IsWritten bound type id (record { op = op.CONSTANT_FALSE; words = type ∷ id ∷ [] })
unfolding ids kinds entry_of
false_written bound type id = record { shaped = refl; are = refl }

number_written : (bound type id word : ℕ) → IsWritten bound type id (record { op = op.CONSTANT; words = type ∷ id ∷ word ∷ [] })
unfolding ids kinds entry_of
number_written bound type id word = record { shaped = refl; are = refl }

-- it is shaped, and its ids are in bounds
pub record IsSettledWell (bound : ℕ) (inst : Inst) : Type 0 where
  pub shaped : is_some (kinds inst) ≡ true
  pub bounded : id_out_of_bound bound inst ≡ false

two_bounded : (bound type id : ℕ) (rest : List ℕ) → not (list_all (λ (id : ℕ). nat_lt 0 id && nat_lt id bound) (type ∷ id ∷ rest)) ≡ false → not (list_all (λ (id : ℕ). nat_lt 0 id && nat_lt id bound) (type ∷ id ∷ [])) ≡ false
two_bounded bound type id rest is = firsts (nat_lt 0 type && nat_lt type bound) (nat_lt 0 id && nat_lt id bound) (list_all (λ (id : ℕ). nat_lt 0 id && nat_lt id bound) rest) is
  where
    firsts : (a b c : Bool) → not (a && (b && c)) ≡ false → not (a && (b && true)) ≡ false
    firsts true true c is = refl
    firsts true false c is = cc
    firsts false b c is = cc

bounded_by : (bound : ℕ) (inst for : Inst) → FirstTwo for → IsWritten bound (word_at 0 for) (word_at 1 for) inst → id_out_of_bound bound for ≡ false → id_out_of_bound bound inst ≡ false
unfolding id_out_of_bound
bounded_by bound inst for two written is =
    ap (λ (l : List ℕ). not (list_all (λ (id : ℕ). nat_lt 0 id && nat_lt id bound) l)) written.are
    ∙ two_bounded bound (word_at 0 for) (word_at 1 for) two.rest (sym (ap (λ (l : List ℕ). not (list_all (λ (id : ℕ). nat_lt 0 id && nat_lt id bound) l)) two.are) ∙ is)

well_by : (bound : ℕ) (inst for : Inst) → FirstTwo for → IsWritten bound (word_at 0 for) (word_at 1 for) inst → id_out_of_bound bound for ≡ false → IsSettledWell bound inst
well_by bound inst for two written is = record { shaped = written.shaped; bounded = bounded_by bound inst for two written is }

pub scalar_well : (bound : ℕ) (inst : Inst) → FirstTwo inst → is_some (kinds inst) ≡ true → id_out_of_bound bound inst ≡ false → (value : Option Value)
    → IsSettledWell bound (unwrap_or (scalar_constant (word_at 0 inst) (word_at 1 inst) value) inst)
scalar_well bound inst two fits is None = record { shaped = fits; bounded = is }
scalar_well bound inst two fits is (Some (Truth true)) = well_by bound _ inst two (true_written bound (word_at 0 inst) (word_at 1 inst)) is
scalar_well bound inst two fits is (Some (Truth false)) = well_by bound _ inst two (false_written bound (word_at 0 inst) (word_at 1 inst)) is
scalar_well bound inst two fits is (Some (Word word)) = well_by bound _ inst two (number_written bound (word_at 0 inst) (word_at 1 inst) word) is
scalar_well bound inst two fits is (Some (Composite parts)) = record { shaped = fits; bounded = is }
scalar_well bound inst two fits is (Some (Pointer variable indices)) = record { shaped = fits; bounded = is }
scalar_well bound inst two fits is (Some Outside) = record { shaped = fits; bounded = is }

composite_well : (bound : ℕ) (words : List ℕ) → is_some (kinds (record { op = op.SPEC_CONSTANT_COMPOSITE; words = words })) ≡ true → id_out_of_bound bound (record { op = op.SPEC_CONSTANT_COMPOSITE; words = words }) ≡ false
    → IsSettledWell bound (record { op = op.CONSTANT_COMPOSITE; words = words })
unfolding id_out_of_bound
composite_well bound words fits is = record {
  shaped = ap is_some (same_kinds words) ∙ fits;
  bounded = ap (λ (l : List ℕ). not (list_all (λ (id : ℕ). nat_lt 0 id && nat_lt id bound) l)) (same_ids words) ∙ is;
}

pub settled_well : (bound : ℕ) (values : Values) (inst : Inst) → is_some (kinds inst) ≡ true → id_out_of_bound bound inst ≡ false → IsSettledWell bound (settled values inst)
unfolding settled
settled_well bound values inst fits is = by_tests (inst.op == op.SPEC_CONSTANT_COMPOSITE) (is_spec_scalar inst.op) refl refl
  where
    by_tests : (composite scalar : Bool) → inst.op == op.SPEC_CONSTANT_COMPOSITE ≡ composite → is_spec_scalar inst.op ≡ scalar
        → IsSettledWell bound (if composite then record inst { op = op.CONSTANT_COMPOSITE } else if scalar then unwrap_or (scalar_constant (word_at 0 inst) (word_at 1 inst) (values (word_at 1 inst))) inst else inst)
    by_tests true scalar one of =
        let e = op_is inst.op op.SPEC_CONSTANT_COMPOSITE one in
        composite_well bound inst.words (fits_as inst op.SPEC_CONSTANT_COMPOSITE fits e) (ap (λ (o : ℕ). id_out_of_bound bound (record { op = o; words = inst.words })) (sym e) ∙ is)
    by_tests false true isnt one = scalar_well bound inst (first_two inst one fits) fits is (values (word_at 1 inst))
    by_tests false false isnt plain = record { shaped = fits; bounded = is }

-- ---- types

-- a value that a constant of this type may have
abbrev FitsType : Meaning → Option Value → Type 0
FitsType type None = Unit {0}
FitsType type (Some (Truth b)) = is_bool type ≡ true
FitsType type (Some (Word word)) = is_integer type ≡ true
FitsType type (Some value) = Unit {0}

true_constant : (known : Knowledge) (type id : ℕ) → breaks_constants known (record { op = op.CONSTANT_TRUE; words = type ∷ id ∷ [] }) ≡ (is_constant op.CONSTANT_TRUE && not (is_bool (meaning_in (known type))))
unfolding constant_fits
true_constant known type id = refl

false_constant : (known : Knowledge) (type id : ℕ) → breaks_constants known (record { op = op.CONSTANT_FALSE; words = type ∷ id ∷ [] }) ≡ (is_constant op.CONSTANT_FALSE && not (is_bool (meaning_in (known type))))
unfolding constant_fits
false_constant known type id = refl

number_constant : (known : Knowledge) (type id word : ℕ) → breaks_constants known (record { op = op.CONSTANT; words = type ∷ id ∷ word ∷ [] }) ≡ (is_constant op.CONSTANT && not (is_integer (meaning_in (known type))))
unfolding constant_fits
number_constant known type id word = refl

unbroken : (a b : Bool) → b ≡ true → (a && not b) ≡ false
unbroken true true is = refl
unbroken true false is = cc
unbroken false b is = refl

scalar_unbroken : (known : Knowledge) (inst : Inst) → breaks_constants known inst ≡ false → (value : Option Value) → FitsType (meaning_in (known (word_at 0 inst))) value
    → breaks_constants known (unwrap_or (scalar_constant (word_at 0 inst) (word_at 1 inst) value) inst) ≡ false
scalar_unbroken known inst good None fits = good
scalar_unbroken known inst good (Some (Truth true)) fits = true_constant known (word_at 0 inst) (word_at 1 inst) ∙ unbroken (is_constant op.CONSTANT_TRUE) _ fits
scalar_unbroken known inst good (Some (Truth false)) fits = false_constant known (word_at 0 inst) (word_at 1 inst) ∙ unbroken (is_constant op.CONSTANT_FALSE) _ fits
scalar_unbroken known inst good (Some (Word word)) fits = number_constant known (word_at 0 inst) (word_at 1 inst) word ∙ unbroken (is_constant op.CONSTANT) _ fits
scalar_unbroken known inst good (Some (Composite parts)) fits = good
scalar_unbroken known inst good (Some (Pointer variable indices)) fits = good
scalar_unbroken known inst good (Some Outside) fits = good

-- the type of a scalar specialization constant
IsScalarType : Meaning → Type 0
IsScalarType type = (is_bool type ≡ true) ⊎ (is_integer type ≡ true)

first_of_both : (a b : Bool) → (a && b) ≡ true → a ≡ true
first_of_both true b is = refl
first_of_both false b is = cc

either_is : (a b : Bool) → (a || b) ≡ true → (a ≡ true) ⊎ (b ≡ true)
either_is true b is = inl refl
either_is false b is = inr is

unary_type : (of : Option Class) (type a : Meaning) → unary_fits of type a ≡ true → IsScalarType type
unfolding IsScalarType
unary_type (Some (Scalar WordFromWord)) type a fits = inr (first_of_both (is_integer type) (is_integer a) fits)
unary_type (Some (Scalar TruthFromTruth)) type a fits = inl (first_of_both (is_bool type) (is_bool a) fits)
unary_type of type a fits = cc

three_of : (a b c : Bool) → ((a && b) && c) ≡ true → a ≡ true
three_of true b c is = refl
three_of false b c is = cc

binary_type : (of : Option Class) (type a b : Meaning) → binary_fits of type a b ≡ true → IsScalarType type
unfolding IsScalarType
binary_type (Some (Scalar WordFromWords)) type a b fits = inr (three_of (is_integer type) (is_integer a) (is_integer b) fits)
binary_type (Some (Scalar TruthFromWords)) type a b fits = inl (three_of (is_bool type) (is_integer a) (is_integer b) fits)
binary_type (Some (Scalar TruthFromTruths)) type a b fits = inl (three_of (is_bool type) (is_bool a) (is_bool b) fits)
binary_type of type a b fits = cc

second_of_four : (s a b c d : Bool) → (s && (((a && b) && c) && d)) ≡ true → b ≡ true
second_of_four true true true c d is = refl
second_of_four true true false c d is = cc
second_of_four true false b c d is = cc
second_of_four false a b c d is = cc

operation_type : (known : Knowledge) (type opcode : ℕ) (ids : List ℕ) → operation_fits known type opcode ids ≡ true → IsScalarType (meaning_in (known type))
unfolding IsScalarType
operation_type known type opcode [] fits = cc
operation_type known type opcode (a ∷ []) fits = unary_type (class_of opcode) (meaning_in (known type)) (constant_type known a) fits
operation_type known type opcode (a ∷ b ∷ []) fits = binary_type (class_of opcode) (meaning_in (known type)) (constant_type known a) (constant_type known b) fits
operation_type known type opcode (condition ∷ a ∷ b ∷ []) fits =
    either_is (is_bool (meaning_in (known type))) (is_integer (meaning_in (known type)))
    (second_of_four (is_select (class_of opcode)) (is_bool (constant_type known condition)) (is_bool (meaning_in (known type)) || is_integer (meaning_in (known type)))
    (is_constant_of type (meaning_in (known a))) (is_constant_of type (meaning_in (known b))) fits)
operation_type known type opcode (a ∷ b ∷ c ∷ d ∷ ids) fits = cc

truth_type : (known : Knowledge) (words : List ℕ) → constant_fits known (record { op = op.SPEC_CONSTANT_TRUE; words = words }) ≡ true → IsScalarType (meaning_in (known (slice_index words 0)))
unfolding constant_fits IsScalarType
truth_type known words fits = inl fits

untruth_type : (known : Knowledge) (words : List ℕ) → constant_fits known (record { op = op.SPEC_CONSTANT_FALSE; words = words }) ≡ true → IsScalarType (meaning_in (known (slice_index words 0)))
unfolding constant_fits IsScalarType
untruth_type known words fits = inl fits

number_type : (known : Knowledge) (words : List ℕ) → constant_fits known (record { op = op.SPEC_CONSTANT; words = words }) ≡ true → IsScalarType (meaning_in (known (slice_index words 0)))
unfolding constant_fits IsScalarType
number_type known words fits = inr fits

result_type : (known : Knowledge) (words : List ℕ) → constant_fits known (record { op = op.SPEC_CONSTANT_OP; words = words }) ≡ true → IsScalarType (meaning_in (known (slice_index words 0)))
unfolding constant_fits
result_type known words fits = operation_type known (slice_index words 0) (slice_index words 2) (words_from 3 (record { op = op.SPEC_CONSTANT_OP; words = words })) fits

scalar_type : (known : Knowledge) (inst : Inst) → is_spec_scalar inst.op ≡ true → constant_fits known inst ≡ true → IsScalarType (meaning_in (known (word_at 0 inst)))
scalar_type known inst is fits = by_kind (λ i. constant_fits known i ≡ true → IsScalarType (meaning_in (known (word_at 0 i)))) inst is
    (as_inst (λ i. constant_fits known i ≡ true → IsScalarType (meaning_in (known (word_at 0 i)))) inst)
    (λ e. truth_type known inst.words) (λ e. untruth_type known inst.words) (λ e. number_type known inst.words) (λ e. result_type known inst.words) fits

-- a value of a truth type is a truth value, and one of an integer type a word
value_fits : (program : Program) (known : Knowledge) (values : Values) → HasTypes program → Before program known values → (type : ℕ) (found : Option Value) → IsScalarType (meaning_in (known type))
    → HasTypedResult program type found → FitsType (meaning_in (known type)) found
unfolding IsScalarType
value_fits program known values types before type found (inl truths) r =
    let v = truth_of r.value (type_has_layout program types type r.value _ (bool_layout program known values types before type truths) r.has) in
    subst (FitsType (meaning_in (known type))) (sym (r.is ∙ ap (λ (v : Value). Some v) v.1)) truths
value_fits program known values types before type found (inr integers) r =
    let v = word_of r.value (type_has_layout program types type r.value _ (integer_layout program known values types before type integers) r.has) in
    subst (FitsType (meaning_in (known type))) (sym (r.is ∙ ap (λ (v : Value). Some v) v.1)) integers

composite_constant : (known : Knowledge) (words : List ℕ) → constant_fits known (record { op = op.CONSTANT_COMPOSITE; words = words }) ≡ constant_fits known (record { op = op.SPEC_CONSTANT_COMPOSITE; words = words })
unfolding constant_fits
composite_constant known words = refl

both_constants : is_constant op.CONSTANT_COMPOSITE ≡ is_constant op.SPEC_CONSTANT_COMPOSITE
unfolding class_of entry_of
both_constants = refl

composite_unbroken : (known : Knowledge) (words : List ℕ) → breaks_constants known (record { op = op.CONSTANT_COMPOSITE; words = words }) ≡ breaks_constants known (record { op = op.SPEC_CONSTANT_COMPOSITE; words = words })
composite_unbroken known words = rw (composite_constant known words) (rw both_constants refl)

pub settled_unbroken : (known : Knowledge) (values : Values) (inst : Inst) → breaks_constants known inst ≡ false → (is_spec_scalar inst.op ≡ true → FitsType (meaning_in (known (word_at 0 inst))) (values (word_at 1 inst)))
    → breaks_constants known (settled values inst) ≡ false
unfolding settled
settled_unbroken known values inst good fits = by_tests (inst.op == op.SPEC_CONSTANT_COMPOSITE) (is_spec_scalar inst.op) refl refl
  where
    by_tests : (composite scalar : Bool) → inst.op == op.SPEC_CONSTANT_COMPOSITE ≡ composite → is_spec_scalar inst.op ≡ scalar
        → breaks_constants known (if composite then record inst { op = op.CONSTANT_COMPOSITE } else if scalar then unwrap_or (scalar_constant (word_at 0 inst) (word_at 1 inst) (values (word_at 1 inst))) inst else inst) ≡ false
    by_tests true scalar one of =
        composite_unbroken known inst.words ∙ ap (λ (o : ℕ). breaks_constants known (record { op = o; words = inst.words })) (sym (op_is inst.op op.SPEC_CONSTANT_COMPOSITE one)) ∙ good
    by_tests false true isnt one = scalar_unbroken known inst good (values (word_at 1 inst)) (fits one)
    by_tests false false isnt plain = good

-- ---- in a valid module

level_before : (words : Words) (v : IsValidList words) (k : ℕ) → k < length words.insts → is_spec_scalar (inst_at words.insts k).op ≡ true → k < first_of words.insts v.derivation
level_before words v k within is = elim (cases_lt k (first_of words.insts v.derivation)) [
  | inl early ↦ early
  | inr late ↦ absurd (clash _ (scalar_is_spec (inst_at words.insts k).op is) (function_stays words.insts v.derivation k late within).no_spec)
]

front_before : (words : Words) (v : IsValidList words) (k : ℕ) → k < first_of words.insts v.derivation → IsFront words k
front_before words v k less =
    let f = front_of words v.derivation in
    record { within = let w = f.within in omega (arith, w, less); level = λ before early. f.level before (omega (arith, early, less)) }

is_one : (opcode : ℕ) → is_spec_scalar opcode ≡ true → is_constant opcode ≡ true
is_one opcode is = spec_is_constant (class_of opcode) (scalar_is_spec opcode is)

fits_then : (c f : Bool) → c ≡ true → (c && not f) ≡ false → f ≡ true
fits_then true true is good = refl
fits_then true false is good = cc
fits_then false f is good = cc

pub value_fits_there : (words : Words) (v : IsValidList words) (entries : SpecValues) (k : ℕ) → k < length words.insts → breaks_constants (known_before words.insts k) (inst_at words.insts k) ≡ false → is_spec_scalar (inst_at words.insts k).op ≡ true
    → FitsType (meaning_in (known_before words.insts k (word_at 0 (inst_at words.insts k)))) (defined_by (program_of words.insts) entries words.insts (word_at 1 (inst_at words.insts k)))
value_fits_there words v entries k within good is =
    let insts = words.insts in let q = program_of insts in
    let inst = inst_at insts k in
    let known = known_before insts k in
    let values = defined_by q entries (take k insts) in
    let types = valid_types words v.sound in
    let s = valid_sound words v in
    let before = before_of insts k values (module_typed words entries [] s k (front_before words v k (level_before words v k within is))) in
    let one = is_one inst.op is in
    let fits = fits_then (is_constant inst.op) (constant_fits known inst) one good in
    let r = constant_value q entries known values types before inst one (s.shaped k within) fits in
    subst (FitsType (meaning_in (known (word_at 0 inst)))) (sym (value_at_end q entries words v.sound k within (own_result inst is)))
    (value_fits q known values types before (word_at 0 inst) (constant_of q entries values inst.op inst.words) (scalar_type known inst is fits) r)

-- ---- a scalar stands for each of them

value_scalar : (program : Program) (known : Knowledge) (values : Values) → HasTypes program → Before program known values → (type : ℕ) (found : Option Value) → IsScalarType (meaning_in (known type))
    → HasTypedResult program type found → (scalar : OneScalar) × (found ≡ Some (of_scalar scalar))
unfolding IsScalarType
value_scalar program known values types before type found (inl truths) r =
    let v = truth_of r.value (type_has_layout program types type r.value _ (bool_layout program known values types before type truths) r.has) in
    (TruthOf v.0, r.is ∙ ap (λ (v : Value). Some v) v.1)
value_scalar program known values types before type found (inr integers) r =
    let v = word_of r.value (type_has_layout program types type r.value _ (integer_layout program known values types before type integers) r.has) in
    (WordOf v.0, r.is ∙ ap (λ (v : Value). Some v) v.1)

pub scalar_there : (words : Words) (v : IsValidList words) (entries : SpecValues) (k : ℕ) → k < length words.insts → breaks_constants (known_before words.insts k) (inst_at words.insts k) ≡ false → is_spec_scalar (inst_at words.insts k).op ≡ true
    → (scalar : OneScalar) × (defined_by (program_of words.insts) entries words.insts (word_at 1 (inst_at words.insts k)) ≡ Some (of_scalar scalar))
scalar_there words v entries k within good is =
    let insts = words.insts in let q = program_of insts in
    let inst = inst_at insts k in
    let known = known_before insts k in
    let values = defined_by q entries (take k insts) in
    let types = valid_types words v.sound in
    let s = valid_sound words v in
    let before = before_of insts k values (module_typed words entries [] s k (front_before words v k (level_before words v k within is))) in
    let one = is_one inst.op is in
    let fits = fits_then (is_constant inst.op) (constant_fits known inst) one good in
    let r = constant_value q entries known values types before inst one (s.shaped k within) fits in
    let found = value_scalar q known values types before (word_at 0 inst) (constant_of q entries values inst.op inst.words) (scalar_type known inst is fits) r in
    (found.0, value_at_end q entries words v.sound k within (own_result inst is) ∙ found.1)
