-- Where the results of a block's instructions stand among their words, by the table.
use Rattle.std.proofs.Common.{◌≡◌, ℕ, ◌==◌, Bool, true, false, if◌then◌else◌, List, [], ◌∷◌, refl, ap, sym, ◌∙◌, arith, Option, None, Some}
use Rattle.std.specs.Prelude.{is_none}
use Rattle.std.specs.List.{list_all}
use Rattle.std.specs.Option.{option_map}
use Rattle.std.proofs.lemmas.Bool.Decides.{nat_tests}
use Rattle.basics.proofs.Bools.{first_of_both, second_of_both}
use Rattle.spirv_model.specs.declared.module.Inst.{Inst}
use Rattle.spirv_model.specs.declared.class.Class.{Class}
use Rattle.spirv_model.specs.declared.class.Class.TheVariants as class
use Rattle.spirv_model.specs.declared.op.TheConstants as op
use Rattle.spirv_model.specs.declared.table.TheConstants.{ROWS}
use Rattle.spirv_model.specs.declared.table.Row.{Row}
use Rattle.spirv_model.specs.declared.table.Entry.{Entry}
use Rattle.spirv_model.specs.declared.table.Entry.TheVariants.{Skipped, Float, Listed}
use Rattle.spirv_model.specs.Operands.{word_at, entry_in, entry_of, class_in, class_of, listed_of, result_place, result_in, result}
use Rattle.body_model.specs.Classes.{is_terminator_class, is_terminator}
use Rattle.stage_model.specs.Effect.{has_result_class}

-- ---- a test of all rows

row_is : (a b : ℕ) → true ≡ (a == b) → a ≡ b
row_is a b is = grind (arith, nat_tests)

pub in_rows : (test : ℕ → Option Entry → Bool) → ((opcode : ℕ) → test opcode None ≡ true) → (rows : List Row) (opcode : ℕ) → list_all (λ row. test row.op (Some row.entry)) rows ≡ true → test opcode (entry_in rows opcode) ≡ true
in_rows test none [] opcode all = none opcode
in_rows test none (row ∷ rows) opcode all =
    by_first test row rows opcode (row.op == opcode) refl (first_of_both (test row.op (Some row.entry)) (list_all (λ row. test row.op (Some row.entry)) rows) all)
    (in_rows test none rows opcode (second_of_both (test row.op (Some row.entry)) (list_all (λ row. test row.op (Some row.entry)) rows) all))
  where
    by_first : (test : ℕ → Option Entry → Bool) (row : Row) (rows : List Row) (opcode : ℕ) (b : Bool) → b ≡ (row.op == opcode) → test row.op (Some row.entry) ≡ true → test opcode (entry_in rows opcode) ≡ true
        → test opcode (if b then Some row.entry else entry_in rows opcode) ≡ true
    by_first test row rows opcode true is here rest = ap (λ (o : ℕ). test o (Some row.entry)) (sym (row_is row.op opcode is)) ∙ here
    by_first test row rows opcode false is here rest = rest

-- ---- the result's place

abbrev is_second : Option ℕ → Bool
is_second None = false
is_second (Some place) = place == 1

-- none where a terminator or a merge instruction stands, and the second word where a result has a type
abbrev is_expected : Class → ℕ → Option ℕ → Bool
is_expected class.Terminator opcode place = is_none place
is_expected class.Merge opcode place = is_none place
is_expected class.Undef opcode place = is_second place
is_expected class.Variable opcode place = is_second place
is_expected class.Memory opcode place = if opcode == op.STORE then is_none place else is_second place
is_expected class.Composite opcode place = is_second place
is_expected (class.Scalar operation) opcode place = is_second place
is_expected class.Phi opcode place = is_second place
is_expected class.Constant opcode place = is_second place
is_expected class.SpecConstant opcode place = is_second place
is_expected class.SpecConstantResult opcode place = is_second place
is_expected of opcode place = true

abbrev is_expected_entry : ℕ → Option Entry → Bool
is_expected_entry opcode (Some (Listed of operands)) = is_expected of opcode (result_place (listed_of operands))
is_expected_entry opcode entry = true

all_expected : list_all (λ row. is_expected_entry row.op (Some row.entry)) ROWS ≡ true
all_expected = refl

expected : (opcode : ℕ) → is_expected_entry opcode (entry_of opcode) ≡ true
unfolding entry_of
expected opcode = in_rows is_expected_entry (λ opcode. refl) ROWS opcode all_expected

none_of : (place : Option ℕ) → is_none place ≡ true → place ≡ None
none_of None is = refl
none_of (Some place) is = cc

second_of : (place : Option ℕ) → is_second place ≡ true → place ≡ Some 1
second_of None is = cc
second_of (Some place) is = ap Some (row_is place 1 (sym is))

-- a terminator has no result
silent : (of : Class) (opcode : ℕ) (place : Option ℕ) → is_terminator_class (Some of) ≡ true → is_expected of opcode place ≡ true → place ≡ None
silent class.Terminator opcode place is so = none_of place so
silent of opcode place is so = cc

silent_entry : (entry : Option Entry) (inst : Inst) → is_terminator_class (class_in entry) ≡ true → is_expected_entry inst.op entry ≡ true → result_in entry inst ≡ None
silent_entry (Some (Listed of operands)) inst is so = ap (option_map (λ place. word_at place inst)) (silent of inst.op (result_place (listed_of operands)) is so)
silent_entry (Some Skipped) inst is so = refl
silent_entry (Some Float) inst is so = refl
silent_entry None inst is so = refl

pub terminator_result : (inst : Inst) → is_terminator inst.op ≡ true → result inst ≡ None
unfolding result class_of
terminator_result inst is = silent_entry (entry_of inst.op) inst is (expected inst.op)

-- an instruction that gives its result a value has it in the second word
typed : (of : Class) (opcode : ℕ) (place : Option ℕ) → has_result_class (Some of) ≡ true → opcode == op.STORE ≡ false → is_expected of opcode place ≡ true → place ≡ Some 1
typed class.Undef opcode place is isnt so = second_of place so
typed class.Phi opcode place is isnt so = second_of place so
typed class.Memory opcode place is isnt so = second_of place (sym (ap (λ (b : Bool). if b then is_none place else is_second place) isnt) ∙ so)
typed class.Composite opcode place is isnt so = second_of place so
typed (class.Scalar operation) opcode place is isnt so = second_of place so
typed of opcode place is isnt so = cc

typed_entry : (entry : Option Entry) (inst : Inst) → has_result_class (class_in entry) ≡ true → inst.op == op.STORE ≡ false → is_expected_entry inst.op entry ≡ true → result_in entry inst ≡ Some (word_at 1 inst)
typed_entry (Some (Listed of operands)) inst is isnt so = ap (option_map (λ place. word_at place inst)) (typed of inst.op (result_place (listed_of operands)) is isnt so)
typed_entry (Some Skipped) inst is isnt so = cc
typed_entry (Some Float) inst is isnt so = cc
typed_entry None inst is isnt so = cc

pub typed_result_id : (inst : Inst) → has_result_class (class_of inst.op) ≡ true → inst.op == op.STORE ≡ false → result inst ≡ Some (word_at 1 inst)
unfolding result class_of
typed_result_id inst is isnt = typed_entry (entry_of inst.op) inst is isnt (expected inst.op)

-- so has a constant, and a variable
abbrev pub defines : Option Class → Bool
defines (Some class.Constant) = true
defines (Some class.SpecConstant) = true
defines (Some class.SpecConstantResult) = true
defines (Some class.Undef) = true
defines (Some class.Variable) = true
defines other = false

defining : (of : Class) (opcode : ℕ) (place : Option ℕ) → defines (Some of) ≡ true → is_expected of opcode place ≡ true → place ≡ Some 1
defining class.Constant opcode place is so = second_of place so
defining class.SpecConstant opcode place is so = second_of place so
defining class.SpecConstantResult opcode place is so = second_of place so
defining class.Undef opcode place is so = second_of place so
defining class.Variable opcode place is so = second_of place so
defining of opcode place is so = cc

defining_entry : (entry : Option Entry) (inst : Inst) → defines (class_in entry) ≡ true → is_expected_entry inst.op entry ≡ true → result_in entry inst ≡ Some (word_at 1 inst)
defining_entry (Some (Listed of operands)) inst is so = ap (option_map (λ place. word_at place inst)) (defining of inst.op (result_place (listed_of operands)) is so)
defining_entry (Some Skipped) inst is so = cc
defining_entry (Some Float) inst is so = cc
defining_entry None inst is so = cc

pub defined_id : (inst : Inst) → defines (class_of inst.op) ≡ true → result inst ≡ Some (word_at 1 inst)
unfolding result class_of
defined_id inst is = defining_entry (entry_of inst.op) inst is (expected inst.op)

-- ---- opcodes by class

abbrev implies : Bool → Bool → Bool
implies true b = b
implies false b = true

abbrev pub is_named : Option Class → ℕ → Bool
is_named (Some class.Undef) opcode = opcode == op.UNDEF
is_named (Some class.Variable) opcode = opcode == op.VARIABLE
is_named (Some class.Phi) opcode = opcode == op.PHI
is_named (Some class.Label) opcode = opcode == op.LABEL
is_named class opcode = true

all_named : list_all (λ row. is_named (class_in (Some row.entry)) row.op) ROWS ≡ true
all_named = refl

-- OpUndef, OpVariable, OpPhi and OpLabel are alone in their classes
pub named : (opcode : ℕ) → is_named (class_of opcode) opcode ≡ true
unfolding class_of entry_of
named opcode = in_rows (λ opcode entry. is_named (class_in entry) opcode) (λ opcode. refl) ROWS opcode all_named

-- ---- instructions of the module's level that define no value

abbrev is_silent_result : ℕ → Class → Option ℕ → Bool
is_silent_result opcode class.Setting (Some place) = opcode == op.EXT_INST_IMPORT
is_silent_result opcode class.Function (Some place) = opcode == op.FUNCTION
is_silent_result opcode of place = true

abbrev is_silent_entry : ℕ → Option Entry → Bool
is_silent_entry opcode (Some (Listed of operands)) = is_silent_result opcode of (result_place (listed_of operands))
is_silent_entry opcode entry = true

all_silent : list_all (λ row. is_silent_entry row.op (Some row.entry)) ROWS ≡ true
all_silent = refl

silent_opcode : (opcode : ℕ) → is_silent_entry opcode (entry_of opcode) ≡ true
unfolding entry_of
silent_opcode opcode = in_rows is_silent_entry (λ opcode. refl) ROWS opcode all_silent

import_by : (entry : Option Entry) (inst : Inst) (id : ℕ) → class_in entry ≡ Some class.Setting → is_silent_entry inst.op entry ≡ true → result_in entry inst ≡ Some id → inst.op == op.EXT_INST_IMPORT ≡ true
import_by (Some (Listed of operands)) inst id is so has = by_place inst id of (result_place (listed_of operands)) (same_class of is) so has
  where
    same_class : (of : Class) → ◌≡◌ {A = Option Class} (Some of) (Some class.Setting) → of ≡ class.Setting
    same_class of is = cc

    by_place : (inst : Inst) (id : ℕ) (of : Class) (place : Option ℕ) → of ≡ class.Setting → is_silent_result inst.op of place ≡ true → option_map (λ place. word_at place inst) place ≡ Some id → inst.op == op.EXT_INST_IMPORT ≡ true
    by_place inst id of None is so has = cc
    by_place inst id of (Some place) is so has = sym (ap (λ (c : Class). is_silent_result inst.op c (Some place)) is) ∙ so
import_by (Some Skipped) inst id is so has = cc
import_by (Some Float) inst id is so has = cc
import_by None inst id is so has = cc

pub setting_result : (inst : Inst) (id : ℕ) → class_of inst.op ≡ Some class.Setting → result inst ≡ Some id → inst.op == op.EXT_INST_IMPORT ≡ true
unfolding result class_of
setting_result inst id is has = import_by (entry_of inst.op) inst id is (silent_opcode inst.op) has
