-- Which types the operands of an instruction have, and the fault OperandType.
use Rattle.std.specs.Prelude.{ℕ, ◌==◌, Bool, true, false, not, ◌&&◌, if◌then◌else◌, Option, Some}
use Rattle.std.specs.List.{list_all}
use Rattle.spirv_model.specs.declared.module.Inst.{Inst}
use Rattle.spirv_model.specs.declared.op.TheConstants as op
use Rattle.spirv_model.specs.declared.class.Class.{Class}
use Rattle.spirv_model.specs.declared.class.Class.TheVariants as class
use Rattle.spirv_model.specs.Operands.{word_at, words_from, class_of}
use Rattle.valid_model.specs.declared.meaning.Meaning.{Meaning}
use Rattle.valid_model.specs.declared.meaning.Meaning.TheVariants.{Shape as OfShape}
use Rattle.valid_model.specs.declared.meaning.Shape.TheVariants.{Pointer}
use Rattle.valid_model.specs.Knowledge.{is_bool, is_integer, is_data}
use Rattle.check_model.specs.Typing.{Typing, type_of, has_type}
use Rattle.check_model.specs.Visibility.{Incoming, incoming}
use Rattle.check_model.specs.ScalarOperands.{scalar_operands_fit}
use Rattle.check_model.specs.CompositeOperands.{composite_operands_fit}
use Rattle.check_model.specs.MemoryOperands.{memory_operands_fit}

abbrev pub is_pointer : Meaning → Bool
is_pointer (OfShape (Pointer class to)) = true
is_pointer meaning = false

-- a value of a phi has the phi's type, and is no pointer
abbrev pub incoming_fits : Typing → ℕ → Incoming → Bool
incoming_fits typing type pair = has_type typing type pair.value && not (is_pointer (typing.meaning type))

-- the condition of a branch is a truth value, a selector an integer, and only a fragment shader's invocation is discarded
abbrev pub terminator_operands_fit : Typing → Inst → Bool
terminator_operands_fit typing inst =
    if inst.op == op.BRANCH_CONDITIONAL then is_bool (type_of typing (word_at 0 inst))
    else if inst.op == op.SWITCH then is_integer (type_of typing (word_at 0 inst))
    else if inst.op == op.KILL then not typing.vertex
    else true

abbrev pub operands_fit_class : Typing → Option Class → Inst → Bool
operands_fit_class typing (Some class.Undef) inst = is_data (typing.meaning (word_at 0 inst))
operands_fit_class typing (Some class.Memory) inst = memory_operands_fit typing inst
operands_fit_class typing (Some class.Composite) inst = composite_operands_fit typing inst
operands_fit_class typing (Some (class.Scalar operation)) inst = scalar_operands_fit typing operation (word_at 0 inst) (words_from 2 inst)
operands_fit_class typing (Some class.Phi) inst = list_all (incoming_fits typing (word_at 0 inst)) (incoming inst)
operands_fit_class typing (Some class.Terminator) inst = terminator_operands_fit typing inst
operands_fit_class typing other inst = true

-- the operands of the instruction have the types that it takes
unfoldable pub operands_fit : Typing → Inst → Bool
operands_fit typing inst = operands_fit_class typing (class_of inst.op) inst
