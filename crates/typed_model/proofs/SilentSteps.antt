-- Instructions of the module's level that define no value.
use Rattle.std.proofs.Common.{◌≡◌, ℕ, ◌+◌, ◌<◌, ◌==◌, ◌||◌, Bool, true, false, not, if◌then◌else◌, List, [], ◌∷◌, length, slice_index, refl, ap, sym, ◌∙◌, subst, arith, Option, None, Some}
use Rattle.std.specs.List.{list_all}
use Rattle.std.specs.Option.{unwrap_or}
use Rattle.std.proofs.lemmas.Bool.Decides.{nat_tests}
use Rattle.spirv_model.specs.declared.module.Inst.{Inst}
use Rattle.spirv_model.specs.declared.op.TheConstants as op
use Rattle.spirv_model.specs.declared.class.Class.{Class}
use Rattle.spirv_model.specs.declared.class.Class.TheVariants as class
use Rattle.spirv_model.specs.declared.table.TheConstants.{ROWS}
use Rattle.spirv_model.specs.declared.table.Entry.{Entry}
use Rattle.spirv_model.specs.declared.table.Entry.TheVariants.{Listed}
use Rattle.spirv_model.specs.Operands.{result, entry_of, class_in, class_of}
use Rattle.valid_model.specs.declared.meaning.Meaning.TheVariants.{Other}
use Rattle.valid_model.specs.Definitions.{has_result, inst_at, id_twice}
use Rattle.valid_model.specs.Knowledge.{Knowledge, means}
use Rattle.valid_model.specs.Types.{is_type, type_of}
use Rattle.valid_model.specs.Meanings.{is_constant, constant_known, variable_meaning, other_meaning, known_of, known_before, meaning}
use Rattle.check_model.specs.Typing.{type_id}
use Rattle.stage_model.specs.Program.{Program, program_of}
use Rattle.stage_model.specs.Start.{Values, constant_of, with_definition}
use Rattle.state_model.specs.declared.parts.SpecValues.{SpecValues}
use Rattle.typed_model.specs.Judgement.{AreTyped}
use Rattle.typed_model.proofs.EffectsRun.{instruction}
use Rattle.typed_model.proofs.PlainRuns.{at_op}
use Rattle.typed_model.proofs.ResultIds.{in_rows, defines, setting_result}
use Rattle.typed_model.proofs.TypedSteps.{typed_on}
use Rattle.typed_model.proofs.ValidTypes.{untyped}
use Rattle.typed_model.proofs.ModuleValues.{defined_at, meaning_at, with_none}

-- ---- no value

abbrev makes_value : ℕ → Bool
makes_value opcode =
    (opcode == op.CONSTANT_TRUE) || ((opcode == op.CONSTANT_FALSE) || ((opcode == op.CONSTANT) || ((opcode == op.CONSTANT_NULL) || ((opcode == op.CONSTANT_COMPOSITE)
    || ((opcode == op.SPEC_CONSTANT_COMPOSITE) || ((opcode == op.SPEC_CONSTANT_TRUE) || ((opcode == op.SPEC_CONSTANT_FALSE) || ((opcode == op.SPEC_CONSTANT)
    || ((opcode == op.SPEC_CONSTANT_OP) || ((opcode == op.UNDEF) || (opcode == op.VARIABLE)))))))))))

abbrev defines_or_not : ℕ → Option Entry → Bool
defines_or_not opcode (Some (Listed of operands)) = defines (Some of) || not (makes_value opcode)
defines_or_not opcode entry = true

all_or_not : list_all (λ row. defines_or_not row.op (Some row.entry)) ROWS ≡ true
all_or_not = refl

no_value_by : (entry : Option Entry) (opcode : ℕ) (of : Class) → class_in entry ≡ Some of → defines (Some of) ≡ false → defines_or_not opcode entry ≡ true → makes_value opcode ≡ false
no_value_by (Some (Listed own operands)) opcode of is isnt so = by_tests (defines (Some own)) (makes_value opcode) (ap defines is ∙ isnt) so
  where
    by_tests : (d m : Bool) → d ≡ false → (d || not m) ≡ true → m ≡ false
    by_tests true m isnt so = cc
    by_tests false true isnt so = cc
    by_tests false false isnt so = refl
no_value_by entry opcode of is isnt so = cc

makes_none : (opcode : ℕ) (of : Class) → class_of opcode ≡ Some of → defines (Some of) ≡ false → makes_value opcode ≡ false
unfolding class_of entry_of
makes_none opcode of is isnt = no_value_by (entry_of opcode) opcode of is isnt (in_rows defines_or_not (λ opcode. refl) ROWS opcode all_or_not)

split : (a b : Bool) → (a || b) ≡ false → (a ≡ false) × (b ≡ false)
split true b is = cc
split false b is = (refl, is)

skip : {A : Type 0} (x : A) {y : A} (b : Bool) → b ≡ false → (if b then x else y) ≡ y
skip x true isnt = cc
skip x false isnt = refl

no_constant : (program : Program) (entries : SpecValues) (values : Values) (opcode : ℕ) (words : List ℕ) → makes_value opcode ≡ false → constant_of program entries values opcode words ≡ None
unfolding constant_of
no_constant program entries values opcode [] isnt = refl
no_constant program entries values opcode (type ∷ []) isnt = refl
no_constant program entries values opcode (type ∷ id ∷ words) isnt =
    let a = split (opcode == op.CONSTANT_TRUE) _ isnt in let b = split (opcode == op.CONSTANT_FALSE) _ a.1 in let c = split (opcode == op.CONSTANT) _ b.1 in let d = split (opcode == op.CONSTANT_NULL) _ c.1 in
    let e = split (opcode == op.CONSTANT_COMPOSITE) _ d.1 in let f = split (opcode == op.SPEC_CONSTANT_COMPOSITE) _ e.1 in let g = split (opcode == op.SPEC_CONSTANT_TRUE) _ f.1 in let h = split (opcode == op.SPEC_CONSTANT_FALSE) _ g.1 in
    let i = split (opcode == op.SPEC_CONSTANT) _ h.1 in let j = split (opcode == op.SPEC_CONSTANT_OP) _ i.1 in let k = split (opcode == op.UNDEF) _ j.1 in
    skip _ (opcode == op.CONSTANT_TRUE) a.0 ∙ (skip _ (opcode == op.CONSTANT_FALSE) b.0 ∙ (skip _ (opcode == op.CONSTANT) c.0 ∙ (skip _ (opcode == op.CONSTANT_NULL) d.0 ∙ (skip _ (opcode == op.CONSTANT_COMPOSITE) e.0
    ∙ (skip _ (opcode == op.SPEC_CONSTANT_COMPOSITE) f.0 ∙ (skip _ (opcode == op.SPEC_CONSTANT_TRUE) g.0 ∙ (skip _ (opcode == op.SPEC_CONSTANT_FALSE) h.0 ∙ (skip _ (opcode == op.SPEC_CONSTANT) i.0 ∙ (skip _ (opcode == op.SPEC_CONSTANT_OP) j.0
    ∙ (skip _ (opcode == op.UNDEF) k.0 ∙ skip _ (opcode == op.VARIABLE) k.1))))))))))

-- ---- no typed id

type_untyped : (known : Knowledge) (inst : Inst) → is_type inst.op ≡ true → type_id (known_of known inst).meaning ≡ None
unfolding known_of
type_untyped known inst is = by_test (is_type inst.op) is
  where
    by_test : (t : Bool) → t ≡ true → type_id (if t then unwrap_or (type_of known inst) (means Other) else if is_constant inst.op then constant_known known inst.op (slice_index inst.words 0) (slice_index inst.words 2)
        else if inst.op == op.VARIABLE then means (variable_meaning (slice_index inst.words 0) (slice_index inst.words 2)) else means (other_meaning inst.op (slice_index inst.words 0))).meaning ≡ None
    by_test true is = (untyped known inst).none
    by_test false is = cc

import_untyped : (known : Knowledge) (words : List ℕ) → type_id (known_of known (instruction op.EXT_INST_IMPORT words)).meaning ≡ None
unfolding known_of class_of entry_of
import_untyped known words = refl

function_untyped : (known : Knowledge) (words : List ℕ) → type_id (known_of known (instruction op.FUNCTION words)).meaning ≡ None
unfolding known_of class_of entry_of
function_untyped known words = refl

pub given_id : (id : ℕ) (found : Option ℕ) → has_result id found ≡ true → found ≡ Some id
given_id id None is = cc
given_id id (Some own) is = ap Some (same own id is)
  where
    same : (a b : ℕ) → a == b ≡ true → a ≡ b
    same a b is = grind (arith, nat_tests)

-- what defines no value keeps the judgement, where its result, if it has one, has no type
silent_typed : (insts : List Inst) (entries : SpecValues) (place : ℕ) (values : Values) → place < length insts → id_twice insts place ≡ None → makes_value (inst_at insts place).op ≡ false
    → ((id : ℕ) → result (inst_at insts place) ≡ Some id → type_id (known_of (known_before insts place) (inst_at insts place)).meaning ≡ None)
    → AreTyped insts [] place values → AreTyped insts [] (place + 1) (with_definition (program_of insts) entries values (inst_at insts place))
silent_typed insts entries place values within once isnt none typed =
    subst (AreTyped insts [] (place + 1)) (sym (with_none (program_of insts) entries values (inst_at insts place) (no_constant (program_of insts) entries values (inst_at insts place).op (inst_at insts place).words isnt)))
    (typed_on insts [] place values (λ id type is of.
    let has = given_id id (result (inst_at insts place)) is in
    let e : type_id (meaning insts id) ≡ None = ap type_id (meaning_at insts place id (defined_at insts place id within has once)) ∙ none id has in absurd (clash type (sym of ∙ e))) typed)
  where
    clash : (type : ℕ) → ◌≡◌ {A = Option ℕ} (Some type) None → ⊥
    clash type is = cc

-- a setting, a type or OpFunction
pub setting_typed : (insts : List Inst) (entries : SpecValues) (place : ℕ) (values : Values) → place < length insts → id_twice insts place ≡ None → class_of (inst_at insts place).op ≡ Some class.Setting
    → AreTyped insts [] place values → AreTyped insts [] (place + 1) (with_definition (program_of insts) entries values (inst_at insts place))
setting_typed insts entries place values within once is typed =
    silent_typed insts entries place values within once (makes_none (inst_at insts place).op class.Setting is refl)
    (λ id has. at_op (λ inst. type_id (known_of (known_before insts place) inst).meaning ≡ None) (inst_at insts place) op.EXT_INST_IMPORT (setting_result (inst_at insts place) id is has) (import_untyped (known_before insts place) (inst_at insts place).words)) typed

pub type_typed : (insts : List Inst) (entries : SpecValues) (place : ℕ) (values : Values) → place < length insts → id_twice insts place ≡ None → class_of (inst_at insts place).op ≡ Some class.TypeDeclaration → is_type (inst_at insts place).op ≡ true
    → AreTyped insts [] place values → AreTyped insts [] (place + 1) (with_definition (program_of insts) entries values (inst_at insts place))
type_typed insts entries place values within once is is_one typed =
    silent_typed insts entries place values within once (makes_none (inst_at insts place).op class.TypeDeclaration is refl) (λ id has. type_untyped (known_before insts place) (inst_at insts place) is_one) typed

pub function_typed : (insts : List Inst) (entries : SpecValues) (place : ℕ) (values : Values) → place < length insts → id_twice insts place ≡ None → class_of (inst_at insts place).op ≡ Some class.Function → (inst_at insts place).op == op.FUNCTION ≡ true
    → AreTyped insts [] place values → AreTyped insts [] (place + 1) (with_definition (program_of insts) entries values (inst_at insts place))
function_typed insts entries place values within once is is_one typed =
    silent_typed insts entries place values within once (makes_none (inst_at insts place).op class.Function is refl)
    (λ id has. at_op (λ inst. type_id (known_of (known_before insts place) inst).meaning ≡ None) (inst_at insts place) op.FUNCTION is_one (function_untyped (known_before insts place) (inst_at insts place).words)) typed
