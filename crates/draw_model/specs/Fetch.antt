-- What a vertex attribute reads.
use Rattle.std.specs.Prelude.{ℕ, ◌+◌, ◌*◌, List, Option, map, replicate, nat_lt, slice_get, if◌then◌else◌, unwrap_or}
use Rattle.std.specs.List.{range_with_len}
use Rattle.std.specs.Option.{option_map_or, option_and_then}
use Rattle.state_model.specs.Lawful.{present_at}
use Rattle.limits.specs.declared.TheConstants.{COMPONENTS}
use Rattle.state_model.specs.declared.buffers.Buffers.{Buffers}
use Rattle.state_model.specs.declared.parts.VertexBinding.{VertexBinding}
use Rattle.state_model.specs.declared.parts.Attribute.{Attribute}
use Rattle.state_model.specs.declared.parts.VertexPart.{VertexPart}

-- the word at that place of the buffer with that number; 0 past its end, and without a buffer
abbrev pub buffer_word : Buffers → Option ℕ → ℕ → ℕ
buffer_word buffers number at =
    unwrap_or (option_and_then (λ words. slice_get words at) (option_and_then (slice_get buffers.list) number)) 0

-- where the attribute begins for a vertex of an instance, in words
abbrev pub attribute_start : VertexBinding → Attribute → ℕ → ℕ → ℕ
attribute_start b a vertex instance = b.stride * (if b.per_instance then instance else vertex) + a.offset

-- component i, which is 0 past the attribute's components
abbrev pub attribute_component : Buffers → Option ℕ → Attribute → ℕ → ℕ → ℕ
attribute_component buffers number a start i = if nat_lt i a.comps then buffer_word buffers number (start + i) else 0

abbrev pub components : (ℕ → ℕ) → List ℕ
components component = map component (range_with_len 0 COMPONENTS)

-- what the vertex shader's input at the location gets, from the bound buffers by their numbers; zeros without an attribute
unfoldable pub input_at : VertexPart → Buffers → List (Option ℕ) → ℕ → ℕ → ℕ → List ℕ
input_at part buffers bound location vertex instance = option_map_or
    (λ (a : Attribute). option_map_or
    (λ (b : VertexBinding). components (attribute_component buffers (present_at bound a.binding) a (attribute_start b a vertex instance)))
    (present_at part.bindings a.binding) (replicate COMPONENTS 0))
    (present_at part.attributes location) (replicate COMPONENTS 0)
