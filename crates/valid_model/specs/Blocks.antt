-- Which types are blocks whose members are laid out (SPIR-V specification, section 2.16.2 "Validation Rules for Shader
-- Capabilities").
use Rattle.std.specs.Prelude.{ℕ, Bool, true, false, ◌&&◌, ◌||◌, ◌==◌, nat_lt, List, [], ◌∷◌, Option, None, Some, not, length, ◌+◌, ◌%◌}
use Rattle.spirv_model.specs.declared.decoration.TheConstants.{BLOCK, ARRAY_STRIDE}
use Rattle.valid_model.specs.declared.meaning.Meaning.{Meaning}
use Rattle.valid_model.specs.declared.meaning.Meaning.TheVariants.{Shape as OfShape}
use Rattle.valid_model.specs.declared.meaning.Shape.TheVariants.{Array, Struct}
use Rattle.valid_model.specs.ModuleFacts.{ModuleFacts, is_decorated}
use Rattle.valid_model.specs.Shapes.{is_array, is_integers, pointee_id}

-- an integer, a vector of integers, or an array of these
abbrev pub is_block_member : ModuleFacts → Meaning → Bool
is_block_member facts (OfShape (Array element length)) = is_integers (facts.meaning element)
is_block_member facts type = is_integers type

abbrev pub is_multiple_of_four : Option ℕ → Bool
is_multiple_of_four None = false
is_multiple_of_four (Some offset) = offset % 4 == 0

abbrev pub is_stride : Option ℕ → Bool
is_stride None = false
is_stride (Some stride) = nat_lt 0 stride && (stride % 4 == 0)

-- a member of a block: its type, its offset, and an array's stride
abbrev pub is_laid_out : ModuleFacts → ℕ → ℕ → ℕ → Bool
is_laid_out facts id member type =
    is_block_member facts (facts.meaning type) && is_multiple_of_four (facts.offset id member)
    && (not (is_array (facts.meaning type)) || is_stride (facts.decoration type ARRAY_STRIDE))

-- all members from one on
abbrev pub are_laid_out : ModuleFacts → ℕ → ℕ → List ℕ → Bool
are_laid_out facts id member [] = true
are_laid_out facts id member (type ∷ types) = is_laid_out facts id member type && are_laid_out facts id (member + 1) types

-- the type with this id is a structure with Block whose members are laid out
abbrev pub is_block_type : ModuleFacts → ℕ → Meaning → Bool
is_block_type facts id (OfShape (Struct members)) = is_decorated facts id BLOCK && are_laid_out facts id 0 members.list
is_block_type facts id type = false

abbrev pub is_block : ModuleFacts → Option ℕ → Bool
is_block facts None = false
is_block facts (Some id) = is_block_type facts id (facts.meaning id)

-- a pointer to such a structure
abbrev pub points_to_block : ModuleFacts → ℕ → Bool
points_to_block facts type = is_block facts (pointee_id (facts.meaning type))
