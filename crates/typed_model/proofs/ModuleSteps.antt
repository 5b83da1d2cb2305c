-- Values are typed from one place of the module's level to the next.
use Rattle.std.proofs.Common.{◌≡◌, ℕ, ◌<◌, ◌==◌, Bool, true, false, if◌then◌else◌, List, [], ◌∷◌, length, slice_index, refl, ap, sym, ◌∙◌, subst, Option, None, Some, is_some}
use Rattle.std.specs.Option.{option_and_then, unwrap_or}
use Rattle.spirv_model.specs.declared.module.Inst.{Inst}
use Rattle.spirv_model.specs.declared.op.TheConstants as op
use Rattle.spirv_model.specs.declared.class.Class.{Class}
use Rattle.spirv_model.specs.declared.class.Class.TheVariants as class
use Rattle.spirv_model.specs.Operands.{word_at, entry_of, class_of, kinds}
use Rattle.valid_model.specs.declared.meaning.Meaning.TheVariants.{Constant, Variable, Value as ValueOf, Other}
use Rattle.valid_model.specs.Definitions.{definition, inst_at, id_twice}
use Rattle.valid_model.specs.Knowledge.{Knowledge, means, is_storage_class}
use Rattle.valid_model.specs.Types.{is_type_class, is_type, type_of}
use Rattle.valid_model.specs.Meanings.{is_constant_class, is_constant, constant_known, variable_meaning, other_meaning, known_of, known_before, meaning}
use Rattle.check_model.specs.Typing.{type_id, constant_in, constant_word}
use Rattle.stage_model.specs.Value.{Value, Word, Pointer}
use Rattle.stage_model.specs.Program.{Program, program_of}
use Rattle.stage_model.specs.Start.{Values, constant_of}
use Rattle.state_model.specs.declared.parts.SpecValues.{SpecValues}
use Rattle.typed_model.specs.Values.{IsOfType}
use Rattle.typed_model.specs.Types.{HasTypes, Suits}
use Rattle.typed_model.proofs.TypeLayouts.{same}
use Rattle.typed_model.proofs.PlainRuns.{at_op, whole_variable}
use Rattle.typed_model.proofs.EffectsRun.{instruction}
use Rattle.typed_model.proofs.ResultIds.{defines, defined_id}
use Rattle.typed_model.proofs.ModuleValues.{defined_at, meaning_at}

-- ---- what an instruction's result means

class_type : (of : Option Class) → is_constant_class of ≡ true → is_type_class of ≡ false
class_type (Some class.Constant) is = refl
class_type (Some class.SpecConstant) is = refl
class_type (Some class.SpecConstantResult) is = refl
class_type of is = cc

class_defines : (of : Option Class) → is_constant_class of ≡ true → defines of ≡ true
class_defines (Some class.Constant) is = refl
class_defines (Some class.SpecConstant) is = refl
class_defines (Some class.SpecConstantResult) is = refl
class_defines of is = cc

pub constant_known_by : (known : Knowledge) (inst : Inst) → is_constant inst.op ≡ true → (known_of known inst).meaning ≡ Constant (word_at 0 inst)
unfolding known_of
constant_known_by known inst is = by_tests (is_type inst.op) (is_constant inst.op) (class_type (class_of inst.op) is) is
  where
    by_tests : (t c : Bool) → t ≡ false → c ≡ true → (if t then unwrap_or (type_of known inst) (means Other) else if c then constant_known known inst.op (word_at 0 inst) (word_at 2 inst)
        else if inst.op == op.VARIABLE then means (variable_meaning (word_at 0 inst) (word_at 2 inst)) else means (other_meaning inst.op (word_at 0 inst))).meaning ≡ Constant (word_at 0 inst)
    by_tests true c isnt is = cc
    by_tests false true isnt is = refl
    by_tests false false isnt is = cc

-- ---- the number of an OpConstant

pub number_of : (inst : Inst) (word : ℕ) → constant_in inst ≡ Some word → (inst.op == op.CONSTANT ≡ true) × (word_at 2 inst ≡ word)
number_of inst word is = by_test (inst.op == op.CONSTANT) refl is
  where
    by_test : (b : Bool) → (inst.op == op.CONSTANT) ≡ b → (if b then Some (word_at 2 inst) else None) ≡ Some word → (inst.op == op.CONSTANT ≡ true) × (word_at 2 inst ≡ word)
    by_test true is_op is = (is_op, cc)
    by_test false is_op is = cc

pub number_at : (insts : List Inst) (place id word : ℕ) → definition insts id ≡ Some place → constant_word insts id ≡ Some word → constant_in (inst_at insts place) ≡ Some word
unfolding constant_word
number_at insts place id word at is = sym (ap (option_and_then (λ place. constant_in (inst_at insts place))) at) ∙ is

abbrev HasNumber : Program → SpecValues → Values → Inst → Type 0
HasNumber program entries values inst = is_some (kinds inst) ≡ true → constant_of program entries values inst.op inst.words ≡ Some (Word (word_at 2 inst))

constant_number : (program : Program) (entries : SpecValues) (values : Values) (words : List ℕ) → HasNumber program entries values (instruction op.CONSTANT words)
unfolding kinds class_of entry_of constant_of
constant_number program entries values (type ∷ id ∷ words) has = refl
constant_number program entries values (type ∷ []) has = cc
constant_number program entries values [] has = cc

same_value : (found : Option Value) (a b : Value) → found ≡ Some a → found ≡ Some b → a ≡ b
same_value found a b is also = cc

-- ---- a constant's value suits its id

pub constant_suits : (insts : List Inst) (entries : SpecValues) (values : Values) (place : ℕ) (value : Value) → place < length insts → id_twice insts place ≡ None → is_constant (inst_at insts place).op ≡ true → is_some (kinds (inst_at insts place)) ≡ true
    → constant_of (program_of insts) entries values (inst_at insts place).op (inst_at insts place).words ≡ Some value → IsOfType (program_of insts) (word_at 0 (inst_at insts place)) value
    → Suits (program_of insts) (constant_word insts) (word_at 1 (inst_at insts place)) value
unfolding program_of
constant_suits insts entries values place value within once is has made of =
    let inst = inst_at insts place in
    let at = defined_at insts place (word_at 1 inst) within (defined_id inst (class_defines (class_of inst.op) is)) once in
    let means = meaning_at insts place (word_at 1 inst) at ∙ constant_known_by (known_before insts place) inst is in
    record {
      of_type = λ type typed. subst (λ t. IsOfType (program_of insts) t value) (same_type (word_at 0 inst) type (sym (ap type_id means) ∙ typed)) of;
      number = λ word known.
          let n = number_of inst word (number_at insts place (word_at 1 inst) word at known) in
          same_value _ value (Word word) made (at_op (HasNumber (program_of insts) entries values) inst op.CONSTANT n.0 (constant_number (program_of insts) entries values inst.words) has ∙ ap (λ (w : ℕ). Some (Word w)) n.1);
    }
  where
    same_type : (a b : ℕ) → ◌≡◌ {A = Option ℕ} (Some a) (Some b) → a ≡ b
    same_type a b is = cc

-- ---- OpUndef and OpVariable

no_number : (inst : Inst) (opcode word : ℕ) → inst.op == opcode ≡ true → opcode == op.CONSTANT ≡ false → constant_in inst ≡ Some word → ⊥
no_number inst opcode word is isnt known =
    let n = number_of inst word known in
    let e : inst.op == op.CONSTANT ≡ false = ap (λ (o : ℕ). o == op.CONSTANT) (same inst.op opcode is) ∙ isnt in cc

undef_known : (known : Knowledge) (words : List ℕ) → (known_of known (instruction op.UNDEF words)).meaning ≡ ValueOf (slice_index words 0)
unfolding known_of class_of entry_of
undef_known known words = refl

pub undef_suits : (insts : List Inst) (place : ℕ) (value : Value) → place < length insts → id_twice insts place ≡ None → (inst_at insts place).op == op.UNDEF ≡ true → defines (class_of (inst_at insts place).op) ≡ true
    → IsOfType (program_of insts) (word_at 0 (inst_at insts place)) value → Suits (program_of insts) (constant_word insts) (word_at 1 (inst_at insts place)) value
unfolding program_of
undef_suits insts place value within once is defined of =
    let inst = inst_at insts place in
    let at = defined_at insts place (word_at 1 inst) within (defined_id inst defined) once in
    let means = meaning_at insts place (word_at 1 inst) at ∙ at_op (λ inst. (known_of (known_before insts place) inst).meaning ≡ ValueOf (word_at 0 inst)) inst op.UNDEF is (undef_known (known_before insts place) inst.words) in
    record {
      of_type = λ type typed. subst (λ t. IsOfType (program_of insts) t value) (same_type (word_at 0 inst) type (sym (ap type_id means) ∙ typed)) of;
      number = λ word known. absurd (no_number inst op.UNDEF word is refl (number_at insts place (word_at 1 inst) word at known));
    }
  where
    same_type : (a b : ℕ) → ◌≡◌ {A = Option ℕ} (Some a) (Some b) → a ≡ b
    same_type a b is = cc

pub variable_known : (known : Knowledge) (words : List ℕ) → (known_of known (instruction op.VARIABLE words)).meaning ≡ variable_meaning (slice_index words 0) (slice_index words 2)
unfolding known_of class_of entry_of
variable_known known words = refl

variable_typed : (insts : List Inst) (id held class type : ℕ) (b : Bool) → HasTypes (program_of insts) → meaning insts id ≡ (if b then Variable held class else Other) → type_id (meaning insts id) ≡ Some type → IsOfType (program_of insts) type (Pointer id [])
unfolding program_of
variable_typed insts id held class type true types means typed =
    subst (λ t. IsOfType (program_of insts) t (Pointer id [])) (same_type held type (sym (ap type_id means) ∙ typed)) (whole_variable (program_of insts) types id held class means)
  where
    same_type : (a b : ℕ) → ◌≡◌ {A = Option ℕ} (Some a) (Some b) → a ≡ b
    same_type a b is = cc
variable_typed insts id held class type false types means typed = let e : type_id (meaning insts id) ≡ None = ap type_id means in absurd (cc)

pub variable_suits : (insts : List Inst) (place : ℕ) → HasTypes (program_of insts) → place < length insts → id_twice insts place ≡ None → (inst_at insts place).op == op.VARIABLE ≡ true → defines (class_of (inst_at insts place).op) ≡ true
    → Suits (program_of insts) (constant_word insts) (word_at 1 (inst_at insts place)) (Pointer (word_at 1 (inst_at insts place)) [])
unfolding program_of
variable_suits insts place types within once is defined =
    let inst = inst_at insts place in
    let at = defined_at insts place (word_at 1 inst) within (defined_id inst defined) once in
    let means = meaning_at insts place (word_at 1 inst) at ∙ at_op (λ inst. (known_of (known_before insts place) inst).meaning ≡ variable_meaning (word_at 0 inst) (word_at 2 inst)) inst op.VARIABLE is (variable_known (known_before insts place) inst.words) in
    record {
      of_type = λ type typed. variable_typed insts (word_at 1 inst) (word_at 0 inst) (word_at 2 inst) type (is_storage_class (word_at 2 inst)) types means typed;
      number = λ word known. absurd (no_number inst op.VARIABLE word is refl (number_at insts place (word_at 1 inst) word at known));
    }
