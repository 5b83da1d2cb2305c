-- In a valid module a scalar operation of the function may be folded.
use Rattle.std.proofs.Common.{◌≡◌, ℕ, suc, ◌+◌, ◌<◌, ◌≤◌, ◌==◌, ◌||◌, inl, inr, Bool, true, false, if◌then◌else◌, List, [], ◌∷◌, length, take, drop, refl, ap, sym, ◌∙◌, subst, arith, length-drop, Option, None, Some}
use Rattle.std.specs.Prelude.{slice_get}
use Rattle.std.specs.Option.{option_map}
use Rattle.std.specs.List.{list_any}
use Rattle.std.proofs.lemmas.Bool.{cases_lt, le-ltb}
use Rattle.std.proofs.lemmas.Bool.Decides.{nat_tests}
use Rattle.std.proofs.lemmas.List.{get_or-drop}
use Rattle.std.proofs.lemmas.Option.{get_or_from_slice_get}
use Rattle.spirv_model.specs.declared.module.Inst.{Inst}
use Rattle.spirv_model.specs.declared.module.Words.{Words}
use Rattle.spirv_model.specs.declared.class.Class.{Class}
use Rattle.spirv_model.specs.declared.class.Class.TheVariants as class
use Rattle.spirv_model.specs.declared.op.TheConstants as op
use Rattle.spirv_model.specs.Operands.{word_at, words_from, entry_of, class_of, result}
use Rattle.body_model.specs.Classes.{is_plain_class, is_terminator_class}
use Rattle.body_model.specs.Switches.{is_among}
use Rattle.body_model.specs.Grammar.{IsOp, Derives}
use Rattle.state_model.specs.declared.parts.SpecValues.{SpecValues}
use Rattle.state_model.specs.declared.buffers.Buffers.{Buffers}
use Rattle.valid_model.specs.declared.meaning.Meaning.TheVariants.{Constant, Value as OfValue}
use Rattle.valid_model.specs.declared.meaning.IdFacts.{IdFacts}
use Rattle.valid_model.specs.Definitions.{gives, has_result, inst_at, no_instruction, definition, is_earlier}
use Rattle.valid_model.specs.Knowledge.{Knowledge}
use Rattle.valid_model.specs.Types.{is_type_class, is_type}
use Rattle.valid_model.specs.Meanings.{is_constant_class, is_constant, known_of, known_by, known_before}
use Rattle.valid_model.proofs.KnownIds.{unknown_without_definition}
use Rattle.check_model.specs.Validity.{IsValidList}
use Rattle.stage_model.specs.declared.inputs.Inputs.{Inputs}
use Rattle.stage_model.specs.Value.{Value, Truth, Word, Composite, Pointer, Outside}
use Rattle.stage_model.specs.Program.{Program}
use Rattle.stage_model.specs.Start.{Values, constant_of}
use Rattle.stage_model.specs.Stage.{stage}
use Rattle.typed_model.proofs.BlockParts.{BlockPart, a_label, a_phi, a_variable, a_selection_merge, a_loop_merge, a_plain_one, a_terminator, another}
use Rattle.typed_model.proofs.FunctionRuns.{part_at}
use Rattle.typed_model.proofs.ModuleValues.{defined_at, meaning_at}
use Rattle.typed_model.proofs.ResultIds.{typed_result_id, defined_id}
use Rattle.typed_model.proofs.ValidTypes.{keeps_rules}
use Rattle.change_model.specs.Constants.{scalar_constant}
use Rattle.change_model.specs.Folding.{moved_up}
use Rattle.change_model.specs.Keeping.{given, KeepsOutcome}
use Rattle.change_model.specs.Settling.{is_plain_constant_class}
use Rattle.change_model.proofs.FoldedKeeps.{IsFolded, ComputesTo, function_op, folded_does}
use Rattle.change_model.proofs.FoldedRuns.{is_scalar_class, is_scalar, differs, others, result_class, IsOfLevel}
use Rattle.change_model.proofs.SettledMeanings.{known_constant, constant_is_no_type, constant_is_constant}
use Rattle.change_model.proofs.SettledPlaces.{earlier_is}
use Rattle.change_model.proofs.SettledValues.{true_value, false_value, number_value}
use Rattle.change_model.proofs.Settlings.{constant_defines, op_is}

-- ---- the function has no types and no constants

abbrev pub IsAlone : ℕ → Type 0
IsAlone opcode = (is_type opcode ≡ false) × (is_constant opcode ≡ false)

label_alone : IsAlone op.LABEL
unfolding class_of entry_of
label_alone = (refl, refl)

phi_alone : IsAlone op.PHI
unfolding class_of entry_of
phi_alone = (refl, refl)

variable_alone : IsAlone op.VARIABLE
unfolding class_of entry_of
variable_alone = (refl, refl)

selection_merge_alone : IsAlone op.SELECTION_MERGE
unfolding class_of entry_of
selection_merge_alone = (refl, refl)

loop_merge_alone : IsAlone op.LOOP_MERGE
unfolding class_of entry_of
loop_merge_alone = (refl, refl)

pub function_alone : IsAlone op.FUNCTION
unfolding class_of entry_of
function_alone = (refl, refl)

function_end_alone : IsAlone op.FUNCTION_END
unfolding class_of entry_of
function_end_alone = (refl, refl)

plain_type : (of : Option Class) → is_plain_class of ≡ true → is_type_class of ≡ false
plain_type None is = cc
plain_type (Some class.TypeDeclaration) is = cc
plain_type (Some other) is = refl

plain_constant : (of : Option Class) → is_plain_class of ≡ true → is_constant_class of ≡ false
plain_constant None is = cc
plain_constant (Some class.Constant) is = cc
plain_constant (Some class.SpecConstant) is = cc
plain_constant (Some class.SpecConstantResult) is = cc
plain_constant (Some other) is = refl

ending_type : (of : Option Class) → is_terminator_class of ≡ true → is_type_class of ≡ false
ending_type None is = cc
ending_type (Some class.TypeDeclaration) is = cc
ending_type (Some other) is = refl

ending_constant : (of : Option Class) → is_terminator_class of ≡ true → is_constant_class of ≡ false
ending_constant None is = cc
ending_constant (Some class.Constant) is = cc
ending_constant (Some class.SpecConstant) is = cc
ending_constant (Some class.SpecConstantResult) is = cc
ending_constant (Some other) is = refl

alone_as : (own opcode : ℕ) → IsAlone own → opcode == own ≡ true → IsAlone opcode
alone_as own opcode a is = subst IsAlone (sym (op_is opcode own is)) a

part_alone : (inst : Inst) → BlockPart inst → IsAlone inst.op
part_alone inst (a_label is) = alone_as op.LABEL inst.op label_alone is
part_alone inst (a_phi is) = alone_as op.PHI inst.op phi_alone is
part_alone inst (a_variable is) = alone_as op.VARIABLE inst.op variable_alone is
part_alone inst (a_selection_merge is) = alone_as op.SELECTION_MERGE inst.op selection_merge_alone is
part_alone inst (a_loop_merge is) = alone_as op.LOOP_MERGE inst.op loop_merge_alone is
part_alone inst (a_plain_one is) = (plain_type (class_of inst.op) is, plain_constant (class_of inst.op) is)
part_alone inst (a_terminator is) = (ending_type (class_of inst.op) is, ending_constant (class_of inst.op) is)

end_alone : (insts : List Inst) (d : Derives insts) → IsAlone (inst_at insts d.after).op
end_alone insts d = by_found (slice_get insts d.after) refl d.function_end
  where
    by_found : (found : Option Inst) → slice_get insts d.after ≡ found → IsOp op.FUNCTION_END found → IsAlone (inst_at insts d.after).op
    by_found None at is = absurd is
    by_found (Some inst) at is = subst IsAlone (sym (ap (λ (i : Inst). i.op) (get_or_from_slice_get insts d.after inst no_instruction at) ∙ is)) function_end_alone

pub function_is_alone : (insts : List Inst) (d : Derives insts) (k : ℕ) → d.before + 1 ≤ k → k < length insts → IsAlone (inst_at insts k).op
function_is_alone insts d k low within = elim (cases_lt k d.after) [
  | inl early ↦ part_alone (inst_at insts k) (part_at insts d k low early)
  | inr late ↦ let last = d.last in let e : d.after ≡ k = omega (arith, late, within, last) in subst (λ n. IsAlone (inst_at insts n).op) e (end_alone insts d)
]

rest_alone : (insts : List Inst) (d : Derives insts) (k : ℕ) → k < length (drop (d.before + 1) insts) → IsAlone (inst_at (drop (d.before + 1) insts) k).op
rest_alone insts d k within =
    subst (λ (i : Inst). IsAlone i.op) (sym (get_or-drop (d.before + 1) insts k no_instruction))
    (function_is_alone insts d (d.before + 1 + k) (omega arith) (let e = length-drop (d.before + 1) insts in omega (arith, e, within)))

-- ---- what is known of the result

none_defined : (insts : List Inst) (id : ℕ) → list_any (gives id) insts ≡ false → definition insts id ≡ None
unfolding definition
none_defined [] id none = refl
none_defined (inst ∷ insts) id none =
    let parts = both (gives id inst) (list_any (gives id) insts) none in
    ap (λ (b : Bool). if b then Some 0 else option_map (λ (n : ℕ). suc n) (definition insts id)) parts.0 ∙ ap (option_map (λ (n : ℕ). suc n)) (none_defined insts id parts.1)
  where
    both : (a b : Bool) → (a || b) ≡ false → (a ≡ false) × (b ≡ false)
    both true b is = cc
    both false b is = (refl, is)

unknown_before : (insts : List Inst) (n id place : ℕ) → n ≤ place → n ≤ length insts → definition insts id ≡ Some place → known_by (take n insts) id ≡ None
unknown_before insts n id place low within is =
    unknown_without_definition (take n insts) id
    (none_defined (take n insts) id (sym (earlier_is insts id n within) ∙ ap (λ (o : Option ℕ). is_earlier o n) is ∙ le-ltb place n low))

no_import : is_scalar op.EXT_INST_IMPORT ≡ false
unfolding class_of entry_of
no_import = refl

no_function : is_scalar op.FUNCTION ≡ false
unfolding class_of entry_of
no_function = refl

scalar_type : (of : Option Class) → is_scalar_class of ≡ true → is_type_class of ≡ false
scalar_type None is = cc
scalar_type (Some (class.Scalar operation)) is = refl
scalar_type (Some other) is = cc

scalar_constant_class : (of : Option Class) → is_scalar_class of ≡ true → is_constant_class of ≡ false
scalar_constant_class None is = cc
scalar_constant_class (Some (class.Scalar operation)) is = refl
scalar_constant_class (Some other) is = cc

scalar_meaning : (known : Knowledge) (inst : Inst) → is_scalar inst.op ≡ true → (known_of known inst).meaning ≡ OfValue (word_at 0 inst)
unfolding known_of
scalar_meaning known inst is =
    rw (scalar_type (class_of inst.op) is) (rw (scalar_constant_class (class_of inst.op) is) (rw (differs op.VARIABLE inst.op others.variable is)
    (rw (differs op.LABEL inst.op others.label is) (rw (differs op.FUNCTION inst.op no_function is) (rw (differs op.EXT_INST_IMPORT inst.op no_import is) refl)))))

-- ---- the constant

-- the constant of a value
record IsConstantOf (type own : ℕ) (value : Value) (constant : Inst) : Type 0 where
  class_is : is_plain_constant_class (class_of constant.op) ≡ true
  type_is : word_at 0 constant ≡ type
  id : word_at 1 constant ≡ own
  gives_value : (program : Program) (entries : SpecValues) (values : Values) → constant_of program entries values constant.op constant.words ≡ Some value

constant_class_of : (is_plain_constant_class (class_of op.CONSTANT_TRUE) ≡ true) × (is_plain_constant_class (class_of op.CONSTANT_FALSE) ≡ true) × (is_plain_constant_class (class_of op.CONSTANT) ≡ true)
unfolding class_of entry_of
constant_class_of = (refl, refl, refl)

same_inst : (a b : Inst) → ◌≡◌ {A = Option Inst} (Some a) (Some b) → a ≡ b
same_inst a b is = cc

is_constant_of : (type own : ℕ) (value : Value) (constant : Inst) → scalar_constant type own (Some value) ≡ Some constant → IsConstantOf type own value constant
is_constant_of type own (Truth true) constant is = subst (IsConstantOf type own (Truth true)) (same_inst _ constant is)
    (record { class_is = constant_class_of.0; type_is = refl; id = refl; gives_value = λ program entries values. true_value program entries values type own })
is_constant_of type own (Truth false) constant is = subst (IsConstantOf type own (Truth false)) (same_inst _ constant is)
    (record { class_is = constant_class_of.1; type_is = refl; id = refl; gives_value = λ program entries values. false_value program entries values type own })
is_constant_of type own (Word word) constant is = subst (IsConstantOf type own (Word word)) (same_inst _ constant is)
    (record { class_is = constant_class_of.2; type_is = refl; id = refl; gives_value = λ program entries values. number_value program entries values type own word })
is_constant_of type own (Composite parts) constant is = cc
is_constant_of type own (Pointer variable indices) constant is = cc
is_constant_of type own Outside constant is = cc

record NoConstants : Type 0 where
  decorate : is_plain_constant_class (class_of op.DECORATE) ≡ false
  member : is_plain_constant_class (class_of op.MEMBER_DECORATE) ≡ false
  variable : is_plain_constant_class (class_of op.VARIABLE) ≡ false
  label : is_plain_constant_class (class_of op.LABEL) ≡ false

no_constants : NoConstants
unfolding class_of entry_of
no_constants = record { decorate = refl; member = refl; variable = refl; label = refl }

flip : (a b : ℕ) → a == b ≡ false → b == a ≡ false
flip a b is = grind (arith, nat_tests)

self : (a : ℕ) → a == a ≡ true
self a = grind (arith, nat_tests)

-- ---- both

pub is_folded : (words : Words) (v : IsValidList words) (gone : ℕ) (constant : Inst) (value : Value) → v.derivation.before + 1 + gone < length words.insts → is_scalar (inst_at words.insts (v.derivation.before + 1 + gone)).op ≡ true
    → scalar_constant (word_at 0 (inst_at words.insts (v.derivation.before + 1 + gone))) (word_at 1 (inst_at words.insts (v.derivation.before + 1 + gone))) (Some value) ≡ Some constant
    → ((id : ℕ) → is_among id (words_from 2 (inst_at words.insts (v.derivation.before + 1 + gone))) ≡ true → IsOfLevel words v id)
    → IsFolded words v gone (word_at 1 (inst_at words.insts (v.derivation.before + 1 + gone))) (word_at 0 (inst_at words.insts (v.derivation.before + 1 + gone))) constant value
is_folded words v gone constant value within scalar is level =
    let insts = words.insts in let d = v.derivation in
    let place = d.before + 1 + gone in
    let x = inst_at insts place in
    let own = word_at 1 x in
    let c = is_constant_of (word_at 0 x) own value constant is in
    let result_is = typed_result_id x (result_class (class_of x.op) scalar) (differs op.STORE x.op others.store scalar) in
    let constant_result : result constant ≡ Some own = defined_id constant (constant_defines (class_of constant.op) c.class_is) ∙ ap (λ (n : ℕ). Some n) c.id in
    let defined = defined_at insts place own within result_is (keeps_rules words v.sound place within).once in
    let known = known_by (take d.before insts) in
    record {
      moves = record {
        within = within;
        function = subst IsAlone (sym (function_op insts d)) function_alone;
        alone = rest_alone insts d;
        gone_gives = λ id isnt. ap (has_result id) result_is ∙ flip id own isnt;
        constant_gives = λ id isnt. ap (has_result id) constant_result ∙ flip id own isnt;
        gives_own = ap (has_result own) constant_result ∙ self own;
        unknown = unknown_before insts d.before own place (omega arith) (omega (arith, within)) defined;
        old_meaning = meaning_at insts place own defined ∙ scalar_meaning (known_before insts place) x scalar;
        new_meaning = ap (λ (f : IdFacts). f.meaning) (known_constant known constant (constant_is_no_type (class_of constant.op) c.class_is) (constant_is_constant (class_of constant.op) c.class_is)) ∙ ap Constant c.type_is;
      };
      result_is = result_is;
      id = refl;
      scalar = scalar;
      level = level;
      constant_id = c.id;
      no_decorate = another (λ o. is_plain_constant_class (class_of o)) op.DECORATE no_constants.decorate constant.op c.class_is;
      no_member = another (λ o. is_plain_constant_class (class_of o)) op.MEMBER_DECORATE no_constants.member constant.op c.class_is;
      no_variable = another (λ o. is_plain_constant_class (class_of o)) op.VARIABLE no_constants.variable constant.op c.class_is;
      no_label = another (λ o. is_plain_constant_class (class_of o)) op.LABEL no_constants.label constant.op c.class_is;
      gives_value = c.gives_value;
    }

-- A scalar operation of a valid module's function on ids of the module's level becomes the constant of its value: the list does the same.
pub fold_keeps : (words : Words) (v : IsValidList words) (gone : ℕ) (constant : Inst) (value : Value) → v.derivation.before + 1 + gone < length words.insts → is_scalar (inst_at words.insts (v.derivation.before + 1 + gone)).op ≡ true
    → scalar_constant (word_at 0 (inst_at words.insts (v.derivation.before + 1 + gone))) (word_at 1 (inst_at words.insts (v.derivation.before + 1 + gone))) (Some value) ≡ Some constant
    → ((id : ℕ) → is_among id (words_from 2 (inst_at words.insts (v.derivation.before + 1 + gone))) ≡ true → IsOfLevel words v id)
    → (entries : SpecValues) → ComputesTo words v gone value entries → (inputs : Inputs) (buffers : Buffers)
    → KeepsOutcome (stage (moved_up (v.derivation.before + 1 + gone) constant words.insts) (given entries inputs buffers)) (stage words.insts (given entries inputs buffers))
fold_keeps words v gone constant value within scalar is level entries computes inputs buffers =
    folded_does words v gone (word_at 1 (inst_at words.insts (v.derivation.before + 1 + gone))) (word_at 0 (inst_at words.insts (v.derivation.before + 1 + gone))) constant value
    (is_folded words v gone constant value within scalar is level) entries computes inputs buffers
