-- Which instructions work component by component, and which give a value.
use Rattle.std.specs.Prelude.{ℕ, ◌==◌, Bool, true, false, not, ◌&&◌, ◌||◌, Option, Some}
use Rattle.spirv_model.specs.declared.class.Class.{Class}
use Rattle.spirv_model.specs.declared.class.Class.TheVariants as class
use Rattle.spirv_model.specs.declared.op.TheConstants.{ANY, ALL, VARIABLE, STORE, PHI}
use Rattle.spirv_model.specs.Operands.{class_of}
use Rattle.stage_model.specs.Effect.{has_result_class}

abbrev pub is_scalar_class : Option Class → Bool
is_scalar_class (Some (class.Scalar operation)) = true
is_scalar_class other = false

-- an operation on the components of its operands: OpAny, OpAll, and those on scalars
unfoldable pub is_on_components : ℕ → Bool
is_on_components opcode = (opcode == ANY) || (opcode == ALL) || is_scalar_class (class_of opcode)

-- an instruction of a block, OpPhi aside, that gives its result a value
unfoldable pub gives_result : ℕ → Bool
gives_result opcode = (opcode == VARIABLE) || (has_result_class (class_of opcode) && not (opcode == STORE) && not (opcode == PHI))
