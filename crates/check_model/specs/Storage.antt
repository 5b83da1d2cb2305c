-- Where variables stand and what is written (SPIR-V specification, section 3.7 "Storage Class"), and the fault WrongStorage.
use Rattle.std.specs.Prelude.{ℕ, ◌==◌, Bool, false, not, ◌||◌, if◌then◌else◌, List, take}
use Rattle.std.specs.List.{list_any}
use Rattle.basics.specs.Word.{are_equal}
use Rattle.spirv_model.specs.declared.module.Inst.{Inst}
use Rattle.spirv_model.specs.declared.op.TheConstants as op
use Rattle.spirv_model.specs.declared.storage_class.TheConstants as storage_class
use Rattle.spirv_model.specs.Operands.{word_at}
use Rattle.valid_model.specs.declared.meaning.Meaning.{Meaning}
use Rattle.valid_model.specs.declared.meaning.Meaning.TheVariants.{Shape as OfShape}
use Rattle.valid_model.specs.declared.meaning.Shape.TheVariants.{Pointer}
use Rattle.check_model.specs.Typing.{Typing, type_of}
use Rattle.check_model.specs.EntryPoints.{is_op_function}

-- variables of these classes are only read
abbrev pub is_read_only : ℕ → Bool
is_read_only class = (class == storage_class.INPUT) || (class == storage_class.UNIFORM) || (class == storage_class.PUSH_CONSTANT)

abbrev pub points_to_read_only : Meaning → Bool
points_to_read_only (OfShape (Pointer class to)) = is_read_only class
points_to_read_only meaning = false

-- the place is behind OpFunction
unfoldable pub is_in_function : List Inst → ℕ → Bool
is_in_function insts place = list_any is_op_function (take place insts)

-- a store to what is only read, a Function variable outside the function, or another one inside
unfoldable pub is_wrong_storage : Typing → Bool → Inst → Bool
is_wrong_storage typing in_function inst =
    if inst.op == op.STORE then points_to_read_only (type_of typing (word_at 0 inst))
    else if inst.op == op.VARIABLE then not (are_equal in_function (word_at 2 inst == storage_class.FUNCTION))
    else false
