-- Where the words of a variable come from when a run begins.
use Rattle.std.specs.Prelude.{ℕ, ◌/◌, ◌==◌, if◌then◌else◌, List, [], slice_index, slice_index_or, slice_get, Option, None, Some}
use Rattle.std.specs.Option.{option_map}
use Rattle.spirv_model.specs.declared.storage_class.TheConstants as class
use Rattle.spirv_model.specs.declared.decoration.TheConstants.{BUILT_IN, LOCATION, BINDING, DESCRIPTOR_SET}
use Rattle.state_model.specs.declared.buffers.Buffers.{Buffers}
use Rattle.valid_model.specs.DecorationWords.{both}
use Rattle.stage_model.specs.declared.inputs.Inputs.{Inputs}
use Rattle.stage_model.specs.Program.{Program}
use Rattle.stage_model.specs.Start.{bound_buffer, buffer_word, built_in_word}
use Rattle.spv_exec.specs.declared.origins.Origin.{Origin}
use Rattle.spv_exec.specs.declared.origins.Origin.TheVariants.{Cleared, BuiltIn, Location, Push, Bound}

-- set and binding, where an id has both
abbrev pub slot_in : Program → ℕ → Option (ℕ × ℕ)
slot_in program id = both (program.decoration id DESCRIPTOR_SET) (program.decoration id BINDING)

abbrev pub input_origin : Option ℕ → Option ℕ → Origin
input_origin (Some number) location = BuiltIn number
input_origin None (Some location) = Location location
input_origin None None = Cleared

abbrev pub bound_origin : Option (ℕ × ℕ) → Origin
bound_origin None = Cleared
bound_origin (Some (set, binding)) = Bound set binding

-- of a variable of this class
unfoldable pub origin_in : Program → ℕ → ℕ → Origin
origin_in program id storage =
    if storage == class.INPUT then input_origin (program.decoration id BUILT_IN) (program.decoration id LOCATION)
    else if storage == class.UNIFORM then bound_origin (slot_in program id)
    else if storage == class.PUSH_CONSTANT then Push
    else Cleared

-- the number that a word has where it comes from, by its number in the variable and the byte offsets of the variable's block
abbrev pub index_of : Origin → List ℕ → ℕ → Option ℕ
index_of Cleared offsets at = None
index_of (BuiltIn number) offsets at = Some at
index_of (Location location) offsets at = Some at
index_of Push offsets at = option_map (λ offset. offset / 4) (slice_get offsets at)
index_of (Bound set binding) offsets at = option_map (λ offset. offset / 4) (slice_get offsets at)

-- a word of what is given
abbrev pub origin_word : Inputs → Buffers → Origin → ℕ → ℕ
origin_word inputs buffers Cleared index = 0
origin_word inputs buffers (BuiltIn number) index = built_in_word inputs number index
origin_word inputs buffers (Location location) index = slice_index (slice_index_or inputs.slots location []) index
origin_word inputs buffers Push index = slice_index inputs.push index
origin_word inputs buffers (Bound set binding) index = buffer_word buffers (bound_buffer inputs (Some set) (Some binding)) index
