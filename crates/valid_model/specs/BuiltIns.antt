-- Which variables take a built-in (SPIR-V specification, section 3.21 "BuiltIn").
use Rattle.std.specs.Prelude.{ℕ, Bool, false, ◌&&◌, ◌||◌, ◌==◌, if◌then◌else◌, not}
use Rattle.valid_model.specs.declared.meaning.Meaning.{Meaning}
use Rattle.valid_model.specs.declared.meaning.Meaning.TheVariants.{Variable}
use Rattle.valid_model.specs.Knowledge.{is_bool, is_integer}
use Rattle.valid_model.specs.ModuleFacts.{ModuleFacts, is_vertex}
use Rattle.valid_model.specs.Shapes.{held_type, is_position_type}
use Rattle.spirv_model.specs.declared.builtin.TheConstants as builtin
use Rattle.spirv_model.specs.declared.storage_class.TheConstants as storage_class

-- the built-in is one of this kind of module, for a variable of this class that holds this
abbrev pub is_built_in : ℕ → Bool → ℕ → Meaning → Bool
is_built_in number vertex storage held =
    if (number == builtin.VERTEX_INDEX) || (number == builtin.INSTANCE_INDEX) then vertex && (storage == storage_class.INPUT) && is_integer held
    else if number == builtin.POSITION then vertex && (storage == storage_class.OUTPUT) && is_position_type held
    else if number == builtin.FRAG_COORD then not vertex && (storage == storage_class.INPUT) && is_position_type held
    else if number == builtin.FRONT_FACING then not vertex && (storage == storage_class.INPUT) && is_bool held
    else false

abbrev pub takes_built_in : ModuleFacts → ℕ → Meaning → Bool
takes_built_in facts number (Variable type storage) = is_built_in number (is_vertex facts) storage (held_type facts type)
takes_built_in facts number meaning = false
