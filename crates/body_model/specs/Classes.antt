-- Which instructions may stand where, by their classes in the table of opcodes.
use Rattle.std.specs.Prelude.{ℕ, Bool, true, false, Option, None, Some}
use Rattle.spirv_model.specs.declared.class.Class.{Class}
use Rattle.spirv_model.specs.declared.class.Class.TheVariants as class
use Rattle.spirv_model.specs.Operands.{class_of}

-- an instruction of the module level
abbrev pub is_module_level_class : Option Class → Bool
is_module_level_class (Some class.Setting) = true
is_module_level_class (Some class.TypeDeclaration) = true
is_module_level_class (Some class.Constant) = true
is_module_level_class (Some class.SpecConstant) = true
is_module_level_class (Some class.SpecConstantResult) = true
is_module_level_class (Some class.Undef) = true
is_module_level_class (Some class.Variable) = true
is_module_level_class other = false

abbrev pub is_module_level : ℕ → Bool
is_module_level op = is_module_level_class (class_of op)

-- an instruction of a block that is no phi, variable, merge instruction or terminator
abbrev pub is_plain_class : Option Class → Bool
is_plain_class (Some class.Undef) = true
is_plain_class (Some class.Memory) = true
is_plain_class (Some class.Composite) = true
is_plain_class (Some (class.Scalar operation)) = true
is_plain_class other = false

abbrev pub is_plain : ℕ → Bool
is_plain op = is_plain_class (class_of op)

abbrev pub is_terminator_class : Option Class → Bool
is_terminator_class (Some class.Terminator) = true
is_terminator_class other = false

abbrev pub is_terminator : ℕ → Bool
is_terminator op = is_terminator_class (class_of op)
