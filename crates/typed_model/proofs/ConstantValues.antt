-- Each constant instruction that fits has a value of its type.
use Rattle.std.proofs.Common.{◌≡◌, ℕ, ◌==◌, ◌||◌, Bool, true, false, List, [], ◌∷◌, slice_index, refl, ap, ◌∙◌, Option, Some, is_some}
use Rattle.std.specs.List.{list_all}
use Rattle.std.specs.Option.{option_map}
use Rattle.spirv_model.specs.declared.module.Inst.{Inst}
use Rattle.spirv_model.specs.declared.op.TheConstants as op
use Rattle.spirv_model.specs.declared.table.TheConstants.{ROWS}
use Rattle.spirv_model.specs.declared.table.Entry.{Entry}
use Rattle.spirv_model.specs.Operands.{entry_of, class_in, class_of, kinds}
use Rattle.state_model.specs.declared.parts.SpecValues.{SpecValues}
use Rattle.valid_model.specs.declared.meaning.Meaning.{Meaning}
use Rattle.valid_model.specs.declared.meaning.Meaning.TheVariants.{Shape as OfShape}
use Rattle.valid_model.specs.Knowledge.{Knowledge, meaning_in, is_data}
use Rattle.valid_model.specs.Constants.{constant_fits}
use Rattle.valid_model.specs.Meanings.{is_constant_class, is_constant}
use Rattle.stage_model.specs.Value.{OneTruth, OneWord, zero_of}
use Rattle.stage_model.specs.Program.{Program}
use Rattle.stage_model.specs.Start.{Values, constant_of}
use Rattle.typed_model.specs.Types.{HasTypes, HasTypedResult}
use Rattle.typed_model.proofs.TypeLayouts.{typed_result}
use Rattle.typed_model.proofs.MemoryValues.{value_has}
use Rattle.typed_model.proofs.EffectsRun.{instruction}
use Rattle.typed_model.proofs.PlainRuns.{at_op}
use Rattle.typed_model.proofs.ResultIds.{in_rows}
use Rattle.typed_model.proofs.Constants.{Before, bool_layout, integer_layout, composite_value, operation_value}

-- ---- which opcodes make constants

abbrev implies : Bool → Bool → Bool
implies true b = b
implies false b = true

abbrev makes_constant : ℕ → Bool
makes_constant opcode =
    (opcode == op.CONSTANT) || ((opcode == op.SPEC_CONSTANT) || ((opcode == op.CONSTANT_COMPOSITE) || ((opcode == op.SPEC_CONSTANT_COMPOSITE) || ((opcode == op.CONSTANT_NULL)
    || ((opcode == op.SPEC_CONSTANT_OP) || ((opcode == op.CONSTANT_TRUE) || ((opcode == op.CONSTANT_FALSE) || ((opcode == op.SPEC_CONSTANT_TRUE) || (opcode == op.SPEC_CONSTANT_FALSE)))))))))

abbrev is_known_constant : ℕ → Option Entry → Bool
is_known_constant opcode entry = implies (is_constant_class (class_in entry)) (makes_constant opcode)

all_known : list_all (λ row. is_known_constant row.op (Some row.entry)) ROWS ≡ true
all_known = refl

implied : (a b : Bool) → a ≡ true → implies a b ≡ true → b ≡ true
implied true b is so = so
implied false b is so = cc

known_constant : (opcode : ℕ) → is_constant opcode ≡ true → makes_constant opcode ≡ true
unfolding class_of entry_of
known_constant opcode is = implied (is_constant opcode) (makes_constant opcode) is (in_rows is_known_constant (λ opcode. refl) ROWS opcode all_known)

-- ---- each of them

-- where it fits, it has a value of its type
abbrev pub HasConstant : Program → SpecValues → Knowledge → Values → Inst → Type 0
HasConstant program entries known values inst =
    is_some (kinds inst) ≡ true → constant_fits known inst ≡ true → HasTypedResult program (slice_index inst.words 0) (constant_of program entries values inst.op inst.words)

word_constant : (program : Program) (entries : SpecValues) (known : Knowledge) (values : Values) → HasTypes program → Before program known values → (words : List ℕ) → HasConstant program entries known values (instruction op.CONSTANT words)
unfolding kinds class_of entry_of constant_fits constant_of
word_constant program entries known values types before (type ∷ id ∷ words) has fit =
    typed_result program types type OneWord _ (integer_layout program known values types before type fit) (record { value = _; is = refl; has = refl })
word_constant program entries known values types before (type ∷ []) has fit = cc
word_constant program entries known values types before [] has fit = cc

spec_word : (program : Program) (entries : SpecValues) (known : Knowledge) (values : Values) → HasTypes program → Before program known values → (words : List ℕ) → HasConstant program entries known values (instruction op.SPEC_CONSTANT words)
unfolding kinds class_of entry_of constant_fits constant_of
spec_word program entries known values types before (type ∷ id ∷ words) has fit =
    typed_result program types type OneWord _ (integer_layout program known values types before type fit) (record { value = _; is = refl; has = refl })
spec_word program entries known values types before (type ∷ []) has fit = cc
spec_word program entries known values types before [] has fit = cc

composite_constant : (program : Program) (entries : SpecValues) (known : Knowledge) (values : Values) → HasTypes program → Before program known values → (words : List ℕ) → HasConstant program entries known values (instruction op.CONSTANT_COMPOSITE words)
unfolding kinds class_of entry_of constant_fits constant_of
composite_constant program entries known values types before (type ∷ id ∷ words) has fit =
    composite_value program known values types before type words fit
composite_constant program entries known values types before (type ∷ []) has fit = cc
composite_constant program entries known values types before [] has fit = cc

spec_composite : (program : Program) (entries : SpecValues) (known : Knowledge) (values : Values) → HasTypes program → Before program known values → (words : List ℕ) → HasConstant program entries known values (instruction op.SPEC_CONSTANT_COMPOSITE words)
unfolding kinds class_of entry_of constant_fits constant_of
spec_composite program entries known values types before (type ∷ id ∷ words) has fit =
    composite_value program known values types before type words fit
spec_composite program entries known values types before (type ∷ []) has fit = cc
spec_composite program entries known values types before [] has fit = cc

data_by : (program : Program) (known : Knowledge) (values : Values) → HasTypes program → Before program known values → (type : ℕ) (m : Meaning) → meaning_in (known type) ≡ m → is_data m ≡ true → is_data (program.meaning type) ≡ true
data_by program known values types before type (OfShape shape) means is = ap is_data (before.shapes type shape means) ∙ is
data_by program known values types before type m means is = cc

pub data_before : (program : Program) (known : Knowledge) (values : Values) → HasTypes program → Before program known values → (type : ℕ) → is_data (meaning_in (known type)) ≡ true → is_data (program.meaning type) ≡ true
data_before program known values types before type is = data_by program known values types before type (meaning_in (known type)) refl is

null_constant : (program : Program) (entries : SpecValues) (known : Knowledge) (values : Values) → HasTypes program → Before program known values → (words : List ℕ) → HasConstant program entries known values (instruction op.CONSTANT_NULL words)
unfolding kinds class_of entry_of constant_fits constant_of
null_constant program entries known values types before (type ∷ id ∷ words) has fit =
    let l = types.there type (data_before program known values types before type fit) in
    typed_result program types type l.0 _ l.1 (record { value = zero_of l.0; is = ap (option_map zero_of) l.1; has = value_has l.0 [] })
null_constant program entries known values types before (type ∷ []) has fit = cc
null_constant program entries known values types before [] has fit = cc

operation_constant : (program : Program) (entries : SpecValues) (known : Knowledge) (values : Values) → HasTypes program → Before program known values → (words : List ℕ) → HasConstant program entries known values (instruction op.SPEC_CONSTANT_OP words)
unfolding kinds class_of entry_of constant_fits constant_of
operation_constant program entries known values types before (type ∷ id ∷ opcode ∷ operands) has fit = operation_value program known values types before type opcode operands fit
operation_constant program entries known values types before (type ∷ id ∷ []) has fit = cc
operation_constant program entries known values types before (type ∷ []) has fit = cc
operation_constant program entries known values types before [] has fit = cc

true_constant : (program : Program) (entries : SpecValues) (known : Knowledge) (values : Values) → HasTypes program → Before program known values → (words : List ℕ) → HasConstant program entries known values (instruction op.CONSTANT_TRUE words)
unfolding kinds class_of entry_of constant_fits constant_of
true_constant program entries known values types before (type ∷ id ∷ words) has fit =
    typed_result program types type OneTruth _ (bool_layout program known values types before type fit) (record { value = _; is = refl; has = refl })
true_constant program entries known values types before (type ∷ []) has fit = cc
true_constant program entries known values types before [] has fit = cc

false_constant : (program : Program) (entries : SpecValues) (known : Knowledge) (values : Values) → HasTypes program → Before program known values → (words : List ℕ) → HasConstant program entries known values (instruction op.CONSTANT_FALSE words)
unfolding kinds class_of entry_of constant_fits constant_of
false_constant program entries known values types before (type ∷ id ∷ words) has fit =
    typed_result program types type OneTruth _ (bool_layout program known values types before type fit) (record { value = _; is = refl; has = refl })
false_constant program entries known values types before (type ∷ []) has fit = cc
false_constant program entries known values types before [] has fit = cc

spec_true : (program : Program) (entries : SpecValues) (known : Knowledge) (values : Values) → HasTypes program → Before program known values → (words : List ℕ) → HasConstant program entries known values (instruction op.SPEC_CONSTANT_TRUE words)
unfolding kinds class_of entry_of constant_fits constant_of
spec_true program entries known values types before (type ∷ id ∷ words) has fit =
    typed_result program types type OneTruth _ (bool_layout program known values types before type fit) (record { value = _; is = refl; has = refl })
spec_true program entries known values types before (type ∷ []) has fit = cc
spec_true program entries known values types before [] has fit = cc

spec_false : (program : Program) (entries : SpecValues) (known : Knowledge) (values : Values) → HasTypes program → Before program known values → (words : List ℕ) → HasConstant program entries known values (instruction op.SPEC_CONSTANT_FALSE words)
unfolding kinds class_of entry_of constant_fits constant_of
spec_false program entries known values types before (type ∷ id ∷ words) has fit =
    typed_result program types type OneTruth _ (bool_layout program known values types before type fit) (record { value = _; is = refl; has = refl })
spec_false program entries known values types before (type ∷ []) has fit = cc
spec_false program entries known values types before [] has fit = cc

-- ---- all of them

either : {Q : Type 0} (a b : Bool) → (a || b) ≡ true → (a ≡ true → Q) → (b ≡ true → Q) → Q
either true b is f g = f refl
either false b is f g = g is

pub constant_value : (program : Program) (entries : SpecValues) (known : Knowledge) (values : Values) → HasTypes program → Before program known values → (inst : Inst) → is_constant inst.op ≡ true → HasConstant program entries known values inst
constant_value program entries known values types before inst is_one =
    let P : Inst → Type 0 = HasConstant program entries known values in
    let some = known_constant inst.op is_one in
    either (inst.op == op.CONSTANT) _ some (λ is. at_op P inst op.CONSTANT is (word_constant program entries known values types before inst.words))
    (λ some. either (inst.op == op.SPEC_CONSTANT) _ some (λ is. at_op P inst op.SPEC_CONSTANT is (spec_word program entries known values types before inst.words))
    (λ some. either (inst.op == op.CONSTANT_COMPOSITE) _ some (λ is. at_op P inst op.CONSTANT_COMPOSITE is (composite_constant program entries known values types before inst.words))
    (λ some. either (inst.op == op.SPEC_CONSTANT_COMPOSITE) _ some (λ is. at_op P inst op.SPEC_CONSTANT_COMPOSITE is (spec_composite program entries known values types before inst.words))
    (λ some. either (inst.op == op.CONSTANT_NULL) _ some (λ is. at_op P inst op.CONSTANT_NULL is (null_constant program entries known values types before inst.words))
    (λ some. either (inst.op == op.SPEC_CONSTANT_OP) _ some (λ is. at_op P inst op.SPEC_CONSTANT_OP is (operation_constant program entries known values types before inst.words))
    (λ some. either (inst.op == op.CONSTANT_TRUE) _ some (λ is. at_op P inst op.CONSTANT_TRUE is (true_constant program entries known values types before inst.words))
    (λ some. either (inst.op == op.CONSTANT_FALSE) _ some (λ is. at_op P inst op.CONSTANT_FALSE is (false_constant program entries known values types before inst.words))
    (λ some. either (inst.op == op.SPEC_CONSTANT_TRUE) _ some (λ is. at_op P inst op.SPEC_CONSTANT_TRUE is (spec_true program entries known values types before inst.words))
    (λ some. at_op P inst op.SPEC_CONSTANT_FALSE some (spec_false program entries known values types before inst.words))))))))))
