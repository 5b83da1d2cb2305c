-- What is known of the ids of a module, and what that says of types and of constants.
use Rattle.std.specs.Prelude.{ℕ, Bool, true, false, ◌||◌, ◌==◌, Option, None, Some}
use Rattle.spirv_model.specs.declared.storage_class.TheConstants.{INPUT, UNIFORM, OUTPUT, PRIVATE, FUNCTION, PUSH_CONSTANT}
use Rattle.valid_model.specs.declared.meaning.IdFacts.{IdFacts}
use Rattle.valid_model.specs.declared.meaning.Meaning.{Meaning}
use Rattle.valid_model.specs.declared.meaning.Meaning.TheVariants.{Absent, Shape as OfShape, Constant}
use Rattle.valid_model.specs.declared.meaning.Shape.{Shape}
use Rattle.valid_model.specs.declared.meaning.Shape.TheVariants.{Void, Bool as Truth, Int, Pointer, Function}

-- ---- what is known of ids

-- of each id, where it is defined
abbrev pub Knowledge : Type 0
Knowledge = ℕ → Option IdFacts

abbrev pub nothing_known : Knowledge
nothing_known id = None

abbrev pub meaning_in : Option IdFacts → Meaning
meaning_in None = Absent
meaning_in (Some known) = known.meaning

abbrev pub size_in : Option IdFacts → ℕ
size_in None = 0
size_in (Some known) = known.size

abbrev pub length_in : Option IdFacts → ℕ
length_in None = 0
length_in (Some known) = known.length

-- an id with this meaning that is no type and no length of an array
abbrev pub means : Meaning → IdFacts
means meaning = record { meaning = meaning; size = 0; length = 0 }

-- a type of this shape and so many words
abbrev pub a_type : Shape → ℕ → IdFacts
a_type shape size = record { meaning = OfShape shape; size = size; length = 0 }

-- ---- types

abbrev pub is_void : Meaning → Bool
is_void (OfShape Void) = true
is_void meaning = false

abbrev pub is_bool : Meaning → Bool
is_bool (OfShape Truth) = true
is_bool meaning = false

abbrev pub is_integer : Meaning → Bool
is_integer (OfShape (Int signed)) = true
is_integer meaning = false

-- integers, truth values, vectors, arrays and structures: what arrays, structures and variables may hold
abbrev pub is_data_shape : Shape → Bool
is_data_shape Void = false
is_data_shape (Pointer class to) = false
is_data_shape Function = false
is_data_shape shape = true

abbrev pub is_data : Meaning → Bool
is_data (OfShape shape) = is_data_shape shape
is_data meaning = false

abbrev pub is_storage_class : ℕ → Bool
is_storage_class class =
    (class == INPUT) || (class == UNIFORM) || (class == OUTPUT) || (class == PRIVATE) || (class == FUNCTION) || (class == PUSH_CONSTANT)

-- ---- constants

-- the meaning of the type of a constant
abbrev pub type_of_constant : Knowledge → Meaning → Meaning
type_of_constant known (Constant type) = (meaning_in (known type))
type_of_constant known meaning = Absent

abbrev pub constant_type : Knowledge → ℕ → Meaning
constant_type known id = type_of_constant known (meaning_in (known id))

-- a constant of the type with this id
abbrev pub is_constant_of : ℕ → Meaning → Bool
is_constant_of type (Constant own) = own == type
is_constant_of type meaning = false
