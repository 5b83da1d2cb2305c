-- In a block the result of an instruction that gives one suits its id, and the judgement is kept.
use Rattle.std.proofs.Common.{◌≡◌, ℕ, ◌+◌, ◌<◌, ◌==◌, ◌||◌, Bool, true, false, if◌then◌else◌, List, length, refl, ap, sym, ◌∙◌, subst, Option, None, Some}
use Rattle.std.specs.Option.{unwrap_or}
use Rattle.spirv_model.specs.declared.module.Inst.{Inst}
use Rattle.spirv_model.specs.declared.op.TheConstants as op
use Rattle.spirv_model.specs.declared.class.Class.{Class}
use Rattle.spirv_model.specs.declared.class.Class.TheVariants as class
use Rattle.spirv_model.specs.Operands.{word_at, entry_of, class_of}
use Rattle.valid_model.specs.declared.meaning.Meaning.TheVariants.{Value as ValueOf, Label, Other}
use Rattle.valid_model.specs.Definitions.{inst_at, id_twice}
use Rattle.valid_model.specs.Knowledge.{Knowledge, means}
use Rattle.valid_model.specs.Types.{is_type_class, is_type, type_of}
use Rattle.valid_model.specs.Meanings.{is_constant_class, is_constant, constant_known, variable_meaning, known_of, known_before}
use Rattle.check_model.specs.Intervals.{Interval}
use Rattle.check_model.specs.Typing.{type_id, constant_word}
use Rattle.stage_model.specs.Value.{Value}
use Rattle.stage_model.specs.Program.{program_of}
use Rattle.stage_model.specs.Start.{Values, with_value}
use Rattle.stage_model.specs.Effect.{has_result_class}
use Rattle.typed_model.specs.Values.{IsOfType}
use Rattle.typed_model.specs.Types.{Suits}
use Rattle.typed_model.specs.Judgement.{AreTyped}
use Rattle.typed_model.proofs.BlockParts.{another, clash}
use Rattle.typed_model.proofs.ResultIds.{typed_result_id}
use Rattle.typed_model.proofs.TypedSteps.{typed_with}
use Rattle.typed_model.proofs.ModuleValues.{defined_at, meaning_at}
use Rattle.typed_model.proofs.ModuleSteps.{number_of, number_at}

-- ---- what the result means

class_types : (of : Option Class) → has_result_class of ≡ true → (is_type_class of ≡ false) × (is_constant_class of ≡ false)
class_types (Some class.Undef) is = (refl, refl)
class_types (Some class.Phi) is = (refl, refl)
class_types (Some class.Memory) is = (refl, refl)
class_types (Some class.Composite) is = (refl, refl)
class_types (Some (class.Scalar operation)) is = (refl, refl)
class_types of is = cc

abbrev pub gives_value : ℕ → Bool
gives_value opcode = has_result_class (class_of opcode)

pub other_opcode : (own opcode : ℕ) → gives_value own ≡ false → gives_value opcode ≡ true → opcode == own ≡ false
other_opcode own opcode isnt is = another gives_value own isnt opcode is

pub label_gives : gives_value op.LABEL ≡ false
unfolding class_of entry_of
label_gives = refl

pub variable_gives : gives_value op.VARIABLE ≡ false
unfolding class_of entry_of
variable_gives = refl

function_gives : gives_value op.FUNCTION ≡ false
unfolding class_of entry_of
function_gives = refl

import_gives : gives_value op.EXT_INST_IMPORT ≡ false
unfolding class_of entry_of
import_gives = refl

constant_gives : gives_value op.CONSTANT ≡ false
unfolding class_of entry_of
constant_gives = refl

pub value_known : (known : Knowledge) (inst : Inst) → gives_value inst.op ≡ true → (known_of known inst).meaning ≡ ValueOf (word_at 0 inst)
unfolding known_of
value_known known inst is =
    let c = class_types (class_of inst.op) is in
    by_tests known inst (is_type inst.op) (is_constant inst.op) (inst.op == op.VARIABLE) (inst.op == op.LABEL) (inst.op == op.FUNCTION) (inst.op == op.EXT_INST_IMPORT) c.0 c.1 (other_opcode op.VARIABLE inst.op variable_gives is)
    (other_opcode op.LABEL inst.op label_gives is) (other_opcode op.FUNCTION inst.op function_gives is) (other_opcode op.EXT_INST_IMPORT inst.op import_gives is)
  where
    by_tests : (known : Knowledge) (inst : Inst) (t c v l f e : Bool) → t ≡ false → c ≡ false → v ≡ false → l ≡ false → f ≡ false → e ≡ false
        → (if t then unwrap_or (type_of known inst) (means Other) else if c then constant_known known inst.op (word_at 0 inst) (word_at 2 inst)
        else if v then means (variable_meaning (word_at 0 inst) (word_at 2 inst)) else means (if l then Label else if f || e then Other else ValueOf (word_at 0 inst))).meaning ≡ ValueOf (word_at 0 inst)
    by_tests known inst true c v l f e t_is c_is v_is l_is f_is e_is = cc
    by_tests known inst false true v l f e t_is c_is v_is l_is f_is e_is = cc
    by_tests known inst false false true l f e t_is c_is v_is l_is f_is e_is = cc
    by_tests known inst false false false true f e t_is c_is v_is l_is f_is e_is = cc
    by_tests known inst false false false false true e t_is c_is v_is l_is f_is e_is = cc
    by_tests known inst false false false false false true t_is c_is v_is l_is f_is e_is = cc
    by_tests known inst false false false false false false t_is c_is v_is l_is f_is e_is = refl

-- ---- results

-- a value of the type that the instruction names suits its result
pub result_suits : (insts : List Inst) (place : ℕ) (value : Value) → place < length insts → id_twice insts place ≡ None → has_result_class (class_of (inst_at insts place).op) ≡ true → (inst_at insts place).op == op.STORE ≡ false
    → IsOfType (program_of insts) (word_at 0 (inst_at insts place)) value → Suits (program_of insts) (constant_word insts) (word_at 1 (inst_at insts place)) value
unfolding program_of
result_suits insts place value within once gives isnt of =
    let inst = inst_at insts place in
    let at = defined_at insts place (word_at 1 inst) within (typed_result_id inst gives isnt) once in
    let means = meaning_at insts place (word_at 1 inst) at ∙ value_known (known_before insts place) inst gives in
    record {
      of_type = λ type typed. subst (λ t. IsOfType (program_of insts) t value) (same_type (word_at 0 inst) type (sym (ap type_id means) ∙ typed)) of;
      number = λ word known.
          let n = number_of inst word (number_at insts place (word_at 1 inst) word at known) in
          absurd (clash (inst.op == op.CONSTANT) n.0 (other_opcode op.CONSTANT inst.op constant_gives gives));
    }
  where
    same_type : (a b : ℕ) → ◌≡◌ {A = Option ℕ} (Some a) (Some b) → a ≡ b
    same_type a b is = cc

-- behind it the judgement holds with this value
pub typed_behind : (insts : List Inst) (intervals : List Interval) (place : ℕ) (values : Values) (value : Value) → place < length insts → id_twice insts place ≡ None → has_result_class (class_of (inst_at insts place).op) ≡ true
    → (inst_at insts place).op == op.STORE ≡ false → IsOfType (program_of insts) (word_at 0 (inst_at insts place)) value → AreTyped insts intervals place values
    → AreTyped insts intervals (place + 1) (with_value (word_at 1 (inst_at insts place)) (Some value) values)
typed_behind insts intervals place values value within once gives isnt of typed =
    typed_with insts intervals place (word_at 1 (inst_at insts place)) values value (typed_result_id (inst_at insts place) gives isnt) once (result_suits insts place value within once gives isnt of) typed
