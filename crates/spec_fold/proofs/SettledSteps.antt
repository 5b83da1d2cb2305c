-- One more instruction of a valid module is gone over: the table has the scalar that it gives, and the list what stands for it.
use Rattle.std.proofs.Common.{◌≡◌, ℕ, ◌+◌, ◌<◌, ◌≤◌, ◌==◌, Bool, true, false, if◌then◌else◌, List, [], ◌∷◌, ◌++◌, length, take, refl, ap, sym, ◌∙◌, subst, arith, Option, None, Some, OnOk, Result, Err, Ok}
use Rattle.std.specs.Option.{option_map, option_and_then, unwrap_or}
use Rattle.std.proofs.lemmas.Bool.Decides.{nat_tests}
use Rattle.std.proofs.lemmas.List.{get_or-take, length-take-le, take_all, take_more}
use Rattle.spirv_model.specs.declared.module.Inst.{Inst}
use Rattle.spirv_model.specs.declared.module.Words.{Words}
use Rattle.spirv_model.specs.declared.op.TheConstants as op
use Rattle.spirv_model.specs.Operands.{result, word_at}
use Rattle.scalar_model.specs.declared.scalar_value.Scalar.{Scalar}
use Rattle.state_model.specs.declared.parts.SpecValues.{SpecValues}
use Rattle.valid_model.specs.Definitions.{gives, inst_at, no_instruction}
use Rattle.valid_model.specs.FirstFault.{type_fault}
use Rattle.check_model.specs.Validity.{IsValidList}
use Rattle.stage_model.specs.Value.{Value, Truth, Word, Composite, Pointer, Outside}
use Rattle.stage_model.specs.Program.{program_of}
use Rattle.stage_model.specs.Start.{Values, constant_of, defined_by, of_scalar, scalar_of, with_definition, with_value}
use Rattle.typed_model.proofs.ModuleValues.{defined_next, with_none, with_one}
use Rattle.typed_model.proofs.ResultIds.{defined_id}
use Rattle.typed_model.proofs.ValidTypes.{valid_types}
use Rattle.change_model.specs.Constants.{constants, is_spec_id, is_spec_scalar, scalar_constant, settled}
use Rattle.change_model.specs.Settling.{all_settled}
use Rattle.change_model.proofs.ConstantsKeep.{own_result}
use Rattle.change_model.proofs.SettledFunction.{settled_append}
use Rattle.change_model.proofs.SettledValues.{defines_op, no_value, none_before, only_there, value_at_end}
use Rattle.change_model.proofs.Settlings.{settled_cons, settled_gone}
use Rattle.id_table.specs.Tables.{at, HasNone}
use Rattle.id_table.specs.declared.table.IdTable.{IdTable}
use Rattle.spec_fold.specs.Settles.{AreScalarsOf, IsSettledBefore, Notes, pushed_for, scalar_given, settled_with, values_before}
use Rattle.spec_fold.proofs.GivenScalars.{given_is}

-- ---- the scalars

-- an id has no value before the instruction that gives it one
own_none : (entries : SpecValues) (words : Words) → type_fault words ≡ None → (n own : ℕ) → n < length words.insts → result (inst_at words.insts n) ≡ Some own
    → values_before entries words.insts n own ≡ None
own_none entries words sound n own within is =
    none_before (program_of words.insts) entries (take n words.insts) own (λ k less.
    let long = length-take-le n words.insts in
    let early : k < n = omega (arith, less, long, within) in
    ap (gives own) (get_or-take n words.insts k no_instruction early)
    ∙ only_there words sound n k own within (omega (arith, early, within)) is (λ same. absurd (omega (arith, same, early))))

-- an instruction with a value is of a class that defines one
has_result : (entries : SpecValues) (insts : List Inst) (values : Values) (inst : Inst) (value : Value) → constant_of (program_of insts) entries values inst.op inst.words ≡ Some value → result inst ≡ Some (word_at 1 inst)
has_result entries insts values inst value is = by_class (defines_op inst.op) refl
  where
    by_class : (b : Bool) → defines_op inst.op ≡ b → result inst ≡ Some (word_at 1 inst)
    by_class true defines = defined_id inst defines
    by_class false isnt = let e = sym (no_value (program_of insts) entries values inst.op inst.words isnt) ∙ is in cc

abbrev OnceDefined : Values → ℕ → Option Value → Type 0
OnceDefined values own made = (value : Value) → made ≡ Some value → values own ≡ None

same_id : (own id : ℕ) → own == id ≡ id == own
same_id own id = grind (arith, nat_tests)

equal : (id own : ℕ) → id == own ≡ true → id ≡ own
equal id own is = grind (arith, nat_tests)

note_scalar : (values : Values) (old new : IdTable Scalar) (own : ℕ) (value : Value) (scalar : Scalar) → AreScalarsOf values old → scalar_of value ≡ Some scalar → Notes own (Some scalar) old new
    → AreScalarsOf (with_value own (Some value) values) new
note_scalar values old new own value scalar are is notes = λ id. notes id ∙ ap (λ (b : Bool). if b then Some scalar else at old id) (same_id own id) ∙ by_test id (id == own)
  where
    by_test : (id : ℕ) (b : Bool) → (if b then Some scalar else at old id) ≡ option_and_then scalar_of (if b then Some value else values id)
    by_test id true = sym is
    by_test id false = are id

note_other : (values : Values) (old new : IdTable Scalar) (own : ℕ) (value : Value) → AreScalarsOf values old → values own ≡ None → scalar_of value ≡ None → Notes own None old new
    → AreScalarsOf (with_value own (Some value) values) new
note_other values old new own value are none is notes = λ id. notes id ∙ are id ∙ by_test id (id == own) refl
  where
    by_test : (id : ℕ) (b : Bool) → id == own ≡ b → option_and_then scalar_of (values id) ≡ option_and_then scalar_of (if b then Some value else values id)
    by_test id true same = ap (λ (n : ℕ). option_and_then scalar_of (values n)) (equal id own same) ∙ ap (option_and_then scalar_of) none ∙ sym is
    by_test id false other = refl

scalars_after : (entries : SpecValues) (insts : List Inst) (values : Values) (inst : Inst) (scalar : Option Scalar) (old new : IdTable Scalar) (made : Option Value)
    → constant_of (program_of insts) entries values inst.op inst.words ≡ made → OnceDefined values (word_at 1 inst) made → AreScalarsOf values old → scalar ≡ option_and_then scalar_of made
    → Notes (word_at 1 inst) scalar old new → AreScalarsOf (with_definition (program_of insts) entries values inst) new
scalars_after entries insts values inst scalar old new None is once are gives notes =
    subst (λ (v : Values). AreScalarsOf v new) (sym (with_none (program_of insts) entries values inst is))
    (λ id. subst (λ (s : Option Scalar). Notes (word_at 1 inst) s old new) gives notes id ∙ are id)
scalars_after entries insts values inst scalar old new (Some value) is once are gives notes =
    subst (λ (v : Values). AreScalarsOf v new) (sym (with_one (program_of insts) entries values inst value is)) (by_scalar (scalar_of value) refl)
  where
    noted : (s : Option Scalar) → scalar_of value ≡ s → Notes (word_at 1 inst) s old new
    noted s of = subst (λ (s : Option Scalar). Notes (word_at 1 inst) s old new) (gives ∙ of) notes

    by_scalar : (s : Option Scalar) → scalar_of value ≡ s → AreScalarsOf (with_value (word_at 1 inst) (Some value) values) new
    by_scalar None of = note_other values old new (word_at 1 inst) value are (once value refl) of (noted None of)
    by_scalar (Some s) of = note_scalar values old new (word_at 1 inst) value s are of (noted (Some s) of)

-- ---- the list

constant_by_scalar : (type id : ℕ) (value : Option Value) → scalar_constant type id value ≡ scalar_constant type id (option_map of_scalar (option_and_then scalar_of value))
constant_by_scalar type id None = refl
constant_by_scalar type id (Some (Truth true)) = refl
constant_by_scalar type id (Some (Truth false)) = refl
constant_by_scalar type id (Some (Word word)) = refl
constant_by_scalar type id (Some (Composite parts)) = refl
constant_by_scalar type id (Some (Pointer variable indices)) = refl
constant_by_scalar type id (Some Outside) = refl

settled_by_scalar : (values : Values) (inst : Inst) (scalar : Option Scalar) → (is_spec_scalar inst.op ≡ true → scalar ≡ option_and_then scalar_of (values (word_at 1 inst))) → settled values inst ≡ settled_with scalar inst
unfolding settled
settled_by_scalar values inst scalar gives = by_tests (inst.op == op.SPEC_CONSTANT_COMPOSITE) (is_spec_scalar inst.op) refl
  where
    by_tests : (composite b : Bool) → is_spec_scalar inst.op ≡ b
        → (if composite then record inst { op = op.CONSTANT_COMPOSITE } else if b then unwrap_or (scalar_constant (word_at 0 inst) (word_at 1 inst) (values (word_at 1 inst))) inst else inst)
        ≡ (if composite then record inst { op = op.CONSTANT_COMPOSITE } else if b then unwrap_or (scalar_constant (word_at 0 inst) (word_at 1 inst) (option_map of_scalar scalar)) inst else inst)
    by_tests true b is = refl
    by_tests false true is =
        ap (λ (o : Option Inst). unwrap_or o inst) (constant_by_scalar (word_at 0 inst) (word_at 1 inst) (values (word_at 1 inst))
        ∙ ap (λ (s : Option Scalar). scalar_constant (word_at 0 inst) (word_at 1 inst) (option_map of_scalar s)) (sym (gives is)))
    by_tests false false is = refl

pushed_is : (values : Values) (inst : Inst) (scalar : Option Scalar) → settled values inst ≡ settled_with scalar inst → all_settled (settled values) (inst ∷ []) ≡ pushed_for scalar inst
pushed_is values inst scalar is = by_test (is_spec_id inst) refl
  where
    by_test : (b : Bool) → is_spec_id inst ≡ b → all_settled (settled values) (inst ∷ []) ≡ (if b then [] else settled_with scalar inst ∷ [])
    by_test true gone = settled_gone (settled values) inst [] gone
    by_test false stays = settled_cons (settled values) inst [] stays ∙ ap (λ (i : Inst). i ∷ []) is

list_after : (values : Values) (insts : List Inst) (n : ℕ) → n < length insts → all_settled (settled values) (take (n + 1) insts) ≡ all_settled (settled values) (take n insts) ++ all_settled (settled values) (inst_at insts n ∷ [])
list_after values insts n within = ap (all_settled (settled values)) (take_more insts n no_instruction within) ∙ settled_append (settled values) (take n insts) (inst_at insts n ∷ [])

-- ---- both

pub begun : (entries : SpecValues) (insts : List Inst) (scalars : IdTable Scalar) → HasNone scalars → (list : List Inst) → list ≡ [] → IsSettledBefore entries insts 0 scalars list
unfolding defined_by
begun entries insts scalars none list is = record { scalars_are = none; list_is = is }

pub settled_next : (entries : SpecValues) (words : Words) → IsValidList words → (n : ℕ) → n < length words.insts → (inst : Inst) → inst ≡ inst_at words.insts n → (scalar : Option Scalar) (old new : IdTable Scalar) (list longer : List Inst)
    → IsSettledBefore entries words.insts n old list → scalar ≡ scalar_given words.insts entries (at old) inst.op inst.words → longer ≡ list ++ pushed_for scalar inst → Notes (word_at 1 inst) scalar old new
    → IsSettledBefore entries words.insts (n + 1) new longer
settled_next entries words v n within inst there scalar old new list longer before gives pushed notes =
    let insts = words.insts in let program = program_of insts in
    let here = inst_at insts n in
    let values = values_before entries insts n in
    let made = constant_of program entries values here.op here.words in
    let at_end = defined_by program entries insts in
    let given : scalar ≡ option_and_then scalar_of made =
    gives ∙ ap (λ (i : Inst). scalar_given insts entries (at old) i.op i.words) there ∙ given_is insts entries values old (valid_types words v.sound) before.scalars_are here.op here.words in
    record {
      scalars_are =
          subst (λ (v : Values). AreScalarsOf v new) (sym (defined_next insts program entries n within))
          (scalars_after entries insts values here scalar old new made refl
          (λ value is. own_none entries words v.sound n (word_at 1 here) within (has_result entries insts values here value is)) before.scalars_are given
          (subst (λ (i : Inst). Notes (word_at 1 i) scalar old new) there notes));
      list_is =
          pushed ∙ ap (λ (l : List Inst). l ++ pushed_for scalar inst) before.list_is
          ∙ ap (λ (l : List Inst). all_settled (settled at_end) (take n insts) ++ l)
          (ap (pushed_for scalar) there
          ∙ sym (pushed_is at_end here scalar (settled_by_scalar at_end here scalar (λ is.
          given ∙ ap (option_and_then scalar_of) (sym (value_at_end program entries words v.sound n within (own_result here is)))))))
          ∙ sym (list_after at_end insts n within);
    }

-- where a step didn't run out of memory
pub settled_step : {E : Type 0} (result : Result (Unit {0}) E) (entries : SpecValues) (words : Words) → IsValidList words → (n : ℕ) → n < length words.insts → (insts : List Inst) → insts ≡ words.insts → (inst : Inst) → inst ≡ inst_at insts n
    → (own : ℕ) → own ≡ word_at 1 inst → (scalar : Option Scalar) (old new : IdTable Scalar) (list longer : List Inst)
    → IsSettledBefore entries words.insts n old list → scalar ≡ scalar_given words.insts entries (at old) inst.op inst.words → longer ≡ list ++ pushed_for scalar inst → OnOk result (Notes own scalar old new)
    → OnOk result (IsSettledBefore entries words.insts (n + 1) new longer)
settled_step (Err e) entries words v n within insts same inst there own is scalar old new list longer before gives pushed notes = tt
settled_step (Ok done) entries words v n within insts same inst there own is scalar old new list longer before gives pushed notes =
    settled_next entries words v n within inst (there ∙ ap (λ (l : List Inst). inst_at l n) same) scalar old new list longer before gives pushed (subst (λ (o : ℕ). Notes o scalar old new) is notes)

pub all_done : (entries : SpecValues) (insts : List Inst) (n : ℕ) (scalars : IdTable Scalar) (list : List Inst) → IsSettledBefore entries insts n scalars list → length insts ≤ n → list ≡ constants entries insts
unfolding constants
all_done entries insts n scalars list done enough = done.list_is ∙ ap (all_settled (settled (defined_by (program_of insts) entries insts))) (take_all n insts enough)
