-- The first change: each specialization constant becomes a constant with the value that specialization gives it (SPIR-V specification,
-- sections 2.12 "Specialization" and 3.49.7 "Constant-Creation Instructions").
use Rattle.std.specs.Prelude.{ℕ, ◌==◌, Bool, true, false, not, ◌&&◌, ◌||◌, if◌then◌else◌, List, [], ◌∷◌, map, filter, Option, None, Some}
use Rattle.std.specs.Option.{unwrap_or}
use Rattle.spirv_model.specs.declared.module.Inst.{Inst}
use Rattle.spirv_model.specs.declared.module.Words.{Words}
use Rattle.spirv_model.specs.declared.op.TheConstants as op
use Rattle.spirv_model.specs.declared.decoration.TheConstants.{SPEC_ID}
use Rattle.spirv_model.specs.Operands.{word_at}
use Rattle.state_model.specs.declared.parts.SpecValues.{SpecValues}
use Rattle.stage_model.specs.Value.{Value, Truth, Word}
use Rattle.stage_model.specs.Program.{program_of}
use Rattle.stage_model.specs.Start.{Values, defined_by}

-- the number of a specialization constant
abbrev pub is_spec_id : Inst → Bool
is_spec_id inst = (inst.op == op.DECORATE) && (word_at 1 inst == SPEC_ID)

-- the constant of a type, with an id and a value, where this is a scalar
abbrev pub scalar_constant : (type id : ℕ) → Option Value → Option Inst
scalar_constant type id (Some (Truth true)) = Some (record { op = op.CONSTANT_TRUE; words = type ∷ id ∷ [] })
scalar_constant type id (Some (Truth false)) = Some (record { op = op.CONSTANT_FALSE; words = type ∷ id ∷ [] })
scalar_constant type id (Some (Word word)) = Some (record { op = op.CONSTANT; words = type ∷ id ∷ word ∷ [] })
scalar_constant type id value = None

-- a specialization constant that is a scalar, the result of an operation among them
abbrev pub is_spec_scalar : ℕ → Bool
is_spec_scalar opcode =
    (opcode == op.SPEC_CONSTANT_TRUE) || (opcode == op.SPEC_CONSTANT_FALSE) || (opcode == op.SPEC_CONSTANT) || (opcode == op.SPEC_CONSTANT_OP)

-- what stands for an instruction where ids have these values
unfoldable pub settled : Values → Inst → Inst
settled values inst =
    if inst.op == op.SPEC_CONSTANT_COMPOSITE then record inst { op = op.CONSTANT_COMPOSITE }
    else if is_spec_scalar inst.op then unwrap_or (scalar_constant (word_at 0 inst) (word_at 1 inst) (values (word_at 1 inst))) inst
    else inst

-- the list with constants for the specialization constants, as these entries say, and without their numbers
unfoldable pub constants : SpecValues → List Inst → List Inst
constants entries insts = map (settled (defined_by (program_of insts) entries insts)) (filter (λ inst. not (is_spec_id inst)) insts)

abbrev pub with_constants : SpecValues → Words → Words
with_constants entries words = record { bound = words.bound; insts = constants entries words.insts }
