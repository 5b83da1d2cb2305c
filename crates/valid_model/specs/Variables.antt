-- Which variables are allowed by their decorations.
use Rattle.std.specs.Prelude.{ℕ, Bool, true, false, ◌&&◌, ◌||◌, ◌==◌, Option, Some, not}
use Rattle.spirv_model.specs.declared.decoration.TheConstants.{BUILT_IN, LOCATION, BINDING, DESCRIPTOR_SET}
use Rattle.valid_model.specs.Blocks.{points_to_block}
use Rattle.valid_model.specs.EarlierFacts.{EarlierFacts}
use Rattle.valid_model.specs.ModuleFacts.{ModuleFacts, has_position, is_decorated}
use Rattle.valid_model.specs.Shapes.{held_type, is_integers}
use Rattle.spirv_model.specs.declared.storage_class.TheConstants as storage_class

-- neither or both of Location and BuiltIn
abbrev pub lacks_place : Bool → Bool → Bool
lacks_place true b = b
lacks_place false b = not b

-- an Input or Output variable with neither or both of Location and BuiltIn
abbrev pub bad_interface : ModuleFacts → ℕ → ℕ → Bool
bad_interface facts id storage =
    ((storage == storage_class.INPUT) || (storage == storage_class.OUTPUT)) && lacks_place (is_decorated facts id LOCATION) (is_decorated facts id BUILT_IN)

-- a Location on anything else than an integer or a vector of integers
abbrev pub bad_location : ModuleFacts → ℕ → ℕ → Bool
bad_location facts id type = is_decorated facts id LOCATION && not (is_integers (held_type facts type))

-- no set or no binding, or those of a Uniform variable before
abbrev pub bad_slot : EarlierFacts → Option ℕ → Option ℕ → Bool
bad_slot before (Some set) (Some binding) = before.slot set binding
bad_slot before set binding = true

-- a Uniform variable without a slot of its own, or that is no block
abbrev pub bad_uniform : ModuleFacts → EarlierFacts → ℕ → ℕ → ℕ → Bool
bad_uniform facts before type id storage =
    (storage == storage_class.UNIFORM)
    && (bad_slot before (facts.decoration id DESCRIPTOR_SET) (facts.decoration id BINDING) || not (points_to_block facts type))

-- a second PushConstant variable, or one that is no block
abbrev pub bad_push : ModuleFacts → EarlierFacts → ℕ → ℕ → Bool
bad_push facts before type storage =
    (storage == storage_class.PUSH_CONSTANT) && (before.push || not (points_to_block facts type))

-- a second variable with the built-in Position
abbrev pub second_position : ModuleFacts → EarlierFacts → ℕ → Bool
second_position facts before id = has_position facts id && before.position

-- OpVariable with this type, id and class
unfoldable pub bad_variable : ModuleFacts → EarlierFacts → ℕ → ℕ → ℕ → Bool
bad_variable facts before type id storage =
    bad_interface facts id storage || bad_location facts id type || bad_uniform facts before type id storage
    || bad_push facts before type storage || second_position facts before id
