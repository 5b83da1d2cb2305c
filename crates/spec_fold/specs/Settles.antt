-- Which scalars ids are, as the instructions of a list are gone over one by one, and what stands for each of these.
use Rattle.std.specs.Prelude.{◌≡◌, ℕ, ◌==◌, Bool, true, false, if◌then◌else◌, List, [], ◌∷◌, map, take, slice_index, Option, None, Some}
use Rattle.std.specs.Option.{option_map, option_and_then, unwrap_or}
use Rattle.spirv_model.specs.declared.module.Inst.{Inst}
use Rattle.spirv_model.specs.declared.op.TheConstants as op
use Rattle.spirv_model.specs.Operands.{word_at}
use Rattle.scalar_model.specs.declared.scalar_value.Scalar.{Scalar}
use Rattle.scalar_model.specs.declared.scalar_value.Scalar.TheVariants.{Bool as TruthOf, Word as WordOf}
use Rattle.scalar_model.specs.Scalars.{folded}
use Rattle.valid_model.specs.Meanings.{meaning}
use Rattle.state_model.specs.declared.parts.Entry.{Entry}
use Rattle.state_model.specs.declared.parts.SpecValues.{SpecValues}
use Rattle.stage_model.specs.Program.{program_of}
use Rattle.stage_model.specs.Start.{Values, defined_by, is_nonzero, of_scalar, rest_of, scalar_of, specialized}
use Rattle.unit_model.specs.ConstantScalars.{null_scalar}
use Rattle.change_model.specs.Constants.{is_spec_id, is_spec_scalar, scalar_constant, settled}
use Rattle.change_model.specs.Settling.{all_settled}
use Rattle.id_table.specs.Tables.{at}
use Rattle.id_table.specs.declared.table.IdTable.{IdTable}

-- the table has the scalars among these values
abbrev pub AreScalarsOf : Values → IdTable Scalar → Type 0
AreScalarsOf values table = (id : ℕ) → at table id ≡ option_and_then scalar_of (values id)

-- the values that the instructions before a place give
abbrev pub values_before : SpecValues → List Inst → ℕ → Values
values_before entries insts place = defined_by (program_of insts) entries (take place insts)

-- ---- single instructions

-- the word of an entry, if it has this id
abbrev pub entry_value : Option Entry → ℕ → Option ℕ
entry_value None id = None
entry_value (Some entry) id = if entry.id == id then Some entry.value else None

-- a truth value that specialization may set
abbrev pub truth_given : List Inst → SpecValues → (id default : ℕ) → Bool
truth_given insts entries id default = is_nonzero (unwrap_or (specialized (program_of insts) entries id) default)

abbrev pub number_given : List Inst → SpecValues → (id default : ℕ) → ℕ
number_given insts entries id default = unwrap_or (specialized (program_of insts) entries id) default

-- the result of an OpSpecConstantOp with these words behind its id, where ids are known to be these scalars
abbrev pub operation_given : (ℕ → Option Scalar) → List ℕ → Option Scalar
operation_given known words = folded (slice_index words 0) (map known (rest_of words))

-- the scalar that an instruction with these words gives its result, if it gives one
unfoldable pub scalar_given : List Inst → SpecValues → (ℕ → Option Scalar) → ℕ → List ℕ → Option Scalar
scalar_given insts entries known opcode (type ∷ id ∷ words) =
    if opcode == op.CONSTANT_TRUE then Some (TruthOf true)
    else if opcode == op.CONSTANT_FALSE then Some (TruthOf false)
    else if opcode == op.CONSTANT then Some (WordOf (slice_index words 0))
    else if opcode == op.CONSTANT_NULL then null_scalar (meaning insts type)
    else if opcode == op.UNDEF then null_scalar (meaning insts type)
    else if opcode == op.SPEC_CONSTANT_TRUE then Some (TruthOf (truth_given insts entries id 1))
    else if opcode == op.SPEC_CONSTANT_FALSE then Some (TruthOf (truth_given insts entries id 0))
    else if opcode == op.SPEC_CONSTANT then Some (WordOf (number_given insts entries id (slice_index words 0)))
    else if opcode == op.SPEC_CONSTANT_OP then operation_given known words
    else None
scalar_given insts entries known opcode _ = None

-- what stands for an instruction that gives its result this scalar, if it gives one
abbrev pub settled_with : Option Scalar → Inst → Inst
settled_with scalar inst =
    if inst.op == op.SPEC_CONSTANT_COMPOSITE then record inst { op = op.CONSTANT_COMPOSITE }
    else if is_spec_scalar inst.op then unwrap_or (scalar_constant (word_at 0 inst) (word_at 1 inst) (option_map of_scalar scalar)) inst
    else inst

-- what is pushed for it
abbrev pub pushed_for : Option Scalar → Inst → List Inst
pushed_for scalar inst = if is_spec_id inst then [] else settled_with scalar inst ∷ []

-- ---- tables

-- the id is this scalar from now on, if it is one
abbrev pub Notes : ℕ → Option Scalar → IdTable Scalar → IdTable Scalar → Type 0
Notes id None old new = (other : ℕ) → at new other ≡ at old other
Notes id (Some scalar) old new = (other : ℕ) → at new other ≡ (if id == other then Some scalar else at old other)

-- the instructions before a place are gone over
pub record IsSettledBefore (entries : SpecValues) (insts : List Inst) (place : ℕ) (scalars : IdTable Scalar) (list : List Inst) : Type 0 where
  pub scalars_are : AreScalarsOf (values_before entries insts place) scalars
  pub list_is : list ≡ all_settled (settled (defined_by (program_of insts) entries insts)) (take place insts)
