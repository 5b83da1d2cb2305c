-- What is left to fold in a module: specialization constants, and scalar operations and branches on constants.
use Rattle.std.specs.Prelude.{ℕ, ◌-◌, ◌==◌, Bool, true, false, not, ◌&&◌, ◌||◌, nat_lt, nat_le, if◌then◌else◌, List, length, filter, is_some, Option, None, Some}
use Rattle.std.specs.List.{list_all, list_any, range_with_len}
use Rattle.std.specs.Option.{option_and_then}
use Rattle.spirv_model.specs.declared.module.Inst.{Inst}
use Rattle.spirv_model.specs.declared.class.Class.{Class}
use Rattle.spirv_model.specs.declared.class.Class.TheVariants as class
use Rattle.spirv_model.specs.declared.op.TheConstants as op
use Rattle.spirv_model.specs.declared.decoration.TheConstants.{SPEC_ID}
use Rattle.spirv_model.specs.Operands.{class_of, word_at, words_from}
use Rattle.scalar_model.specs.declared.scalar_value.Scalar.{Scalar}
use Rattle.scalar_model.specs.declared.scalar_value.Scalar.TheVariants.{Bool as TruthOf, Word as WordOf}
use Rattle.body_model.specs.Switches.{is_among}
use Rattle.body_model.specs.Targets.{targets}
use Rattle.valid_model.specs.declared.meaning.Meaning.{Meaning}
use Rattle.valid_model.specs.declared.meaning.Meaning.TheVariants.{Shape as OfShape}
use Rattle.valid_model.specs.declared.meaning.Shape.TheVariants.{Bool as TruthType, Int}
use Rattle.valid_model.specs.Definitions.{definition, inst_at}
use Rattle.valid_model.specs.Meanings.{meaning}
use Rattle.check_model.specs.Intervals.{Interval}
use Rattle.check_model.specs.Storage.{is_in_function}

-- the places of the function's instructions
abbrev pub function_places : List Inst → List ℕ
function_places insts = filter (is_in_function insts) (range_with_len 0 (length insts))

-- ---- specialization (SPIR-V specification, section 2.12 "Specialization")

abbrev pub is_spec_class : Option Class → Bool
is_spec_class (Some class.SpecConstant) = true
is_spec_class (Some class.SpecConstantResult) = true
is_spec_class other = false

-- a specialization constant of any kind, or the number of one
abbrev pub is_specialization : Inst → Bool
is_specialization inst = is_spec_class (class_of inst.op) || ((inst.op == op.DECORATE) && (word_at 1 inst == SPEC_ID))

abbrev pub is_specialized : List Inst → Bool
is_specialized insts = list_all (λ inst. not (is_specialization inst)) insts

-- ---- constant scalars

-- the null of a scalar type
abbrev pub null_scalar : Meaning → Option Scalar
null_scalar (OfShape TruthType) = Some (TruthOf false)
null_scalar (OfShape (Int signed)) = Some (WordOf 0)
null_scalar meaning = None

abbrev pub scalar_by : List Inst → Inst → Option Scalar
scalar_by insts inst =
    if inst.op == op.CONSTANT then Some (WordOf (word_at 2 inst))
    else if inst.op == op.CONSTANT_TRUE then Some (TruthOf true)
    else if inst.op == op.CONSTANT_FALSE then Some (TruthOf false)
    else if inst.op == op.CONSTANT_NULL then null_scalar (meaning insts (word_at 0 inst))
    else None

-- the number or the truth value that an id is, whatever is specialized
unfoldable pub constant_scalar : List Inst → ℕ → Option Scalar
constant_scalar insts id = option_and_then (λ place. scalar_by insts (inst_at insts place)) (definition insts id)

abbrev pub is_constant_scalar : List Inst → ℕ → Bool
is_constant_scalar insts id = is_some (constant_scalar insts id)

-- ---- operations

abbrev pub is_scalar_class : Option Class → Bool
is_scalar_class (Some (class.Scalar operation)) = true
is_scalar_class other = false

-- a scalar operation all of whose operands are constant scalars
abbrev pub is_foldable : List Inst → Inst → Bool
is_foldable insts inst = is_scalar_class (class_of inst.op) && list_all (is_constant_scalar insts) (words_from 2 inst)

abbrev pub is_folded : List Inst → Bool
is_folded insts = list_all (λ place. not (is_foldable insts (inst_at insts place))) (function_places insts)

-- ---- branches (SPIR-V specification, section 2.11 "Structured Control Flow")

-- the instruction before a place is one with this opcode
abbrev pub is_behind : ℕ → List Inst → ℕ → Bool
is_behind opcode insts place = nat_lt 0 place && ((inst_at insts (place - 1)).op == opcode)

-- a selection's branch on a constant
abbrev pub chooses_constantly : List Inst → ℕ → Bool
chooses_constantly insts place =
    ((inst_at insts place).op == op.BRANCH_CONDITIONAL) && is_behind op.SELECTION_MERGE insts place
    && is_constant_scalar insts (word_at 0 (inst_at insts place))

abbrev pub is_merge_of_loop : List Inst → ℕ → Bool
is_merge_of_loop insts label = list_any (λ inst. (inst.op == op.LOOP_MERGE) && (word_at 0 inst == label)) insts

-- where a branch on this condition goes
abbrev pub chosen_target : Option Scalar → Inst → Option ℕ
chosen_target (Some (TruthOf condition)) inst = Some (word_at (if condition then 1 else 2) inst)
chosen_target condition inst = None

abbrev pub is_to_merge_of_loop : List Inst → Option ℕ → Bool
is_to_merge_of_loop insts None = false
is_to_merge_of_loop insts (Some label) = is_merge_of_loop insts label

-- the end of a loop's condition sequence, on a constant that leaves the loop
abbrev pub leaves_at_once : List Inst → ℕ → Bool
leaves_at_once insts place =
    ((inst_at insts place).op == op.BRANCH_CONDITIONAL) && not (is_behind op.SELECTION_MERGE insts place)
    && is_to_merge_of_loop insts (chosen_target (constant_scalar insts (word_at 0 (inst_at insts place))) (inst_at insts place))

-- the interval begins at this label
abbrev pub begins_at : List Inst → ℕ → Interval → Bool
begins_at insts label i = ((inst_at insts i.from).op == op.LABEL) && (word_at 0 (inst_at insts i.from) == label)

-- the second interval lies in the first, behind its beginning
abbrev pub is_nested : Interval → Interval → Bool
is_nested outer inner = nat_lt outer.from inner.from && nat_le inner.to outer.to

-- an instruction in the interval branches to the label
abbrev pub is_left_to : List Inst → ℕ → Interval → Bool
is_left_to insts label i = list_any (λ place. is_among label (targets (inst_at insts place))) (range_with_len i.from (i.to - i.from))

-- in the arm with a label, a nested sequence is left to another label
abbrev pub is_left_from_within : List Interval → List Inst → (arm label : ℕ) → Bool
is_left_from_within intervals insts arm label =
    list_any (λ outer. begins_at insts arm outer && list_any (λ inner. is_nested outer inner && is_left_to insts label inner) intervals) intervals

-- an OpSwitch on a constant. One without literals stays, where its default is an arm in which a nested sequence leaves to the
-- merge block: there is no other way to write such an arm
abbrev pub switches_constantly : List Interval → List Inst → ℕ → Bool
switches_constantly intervals insts place =
    ((inst_at insts place).op == op.SWITCH) && is_constant_scalar insts (word_at 0 (inst_at insts place))
    && not ((length (inst_at insts place).words == 2)
    && is_left_from_within intervals insts (word_at 1 (inst_at insts place)) (word_at 0 (inst_at insts (place - 1))))

abbrev pub is_straightened : List Interval → List Inst → Bool
is_straightened intervals insts = list_all
    (λ place. not (chooses_constantly insts place || leaves_at_once insts place || switches_constantly intervals insts place))
    (function_places insts)
