-- What the invocations of a draw are given, and what comes of them (Vulkan specification, "Drawing Commands", "Vertex Input
-- Description", and SPIR-V's built-ins VertexIndex, InstanceIndex, FragCoord and FrontFacing).
use Rattle.std.specs.Prelude.{ℕ, ◌+◌, Bool, true, false, List, [], ◌∷◌, map, replicate, unwrap_or}
use Rattle.std.specs.List.{range_with_len}
use Rattle.limits.specs.declared.TheConstants.{LOCATIONS, COMPONENTS}
use Rattle.basics.specs.Word.{low_bits}
use Rattle.spirv_model.specs.declared.module.Inst.{Inst}
use Rattle.state_model.specs.declared.buffers.Buffers.{Buffers}
use Rattle.state_model.specs.declared.parts.SpecValues.{SpecValues}
use Rattle.state_model.specs.declared.parts.VertexPart.{VertexPart}
use Rattle.stage_model.specs.declared.inputs.Inputs.{Inputs}
use Rattle.stage_model.specs.declared.outcome.Kind.{Kind}
use Rattle.stage_model.specs.declared.outcome.Kind.TheVariants.{Done, Killed, Lost}
use Rattle.stage_model.specs.Stage.{Outcome, stage}
use Rattle.draw_model.specs.declared.command.Dynamic.{Dynamic}
use Rattle.draw_model.specs.declared.command.DrawCall.{DrawCall}
use Rattle.draw_model.specs.Fetch.{input_at}

-- ---- how it ended

-- the invocation wasn't lost, so its primitive is drawn
abbrev pub is_drawn : Kind → Bool
is_drawn Done = true
is_drawn Killed = true
is_drawn Lost = false

-- the invocation writes what it leaves
abbrev pub writes : Kind → Bool
writes Done = true
writes Killed = false
writes Lost = false

abbrev pub no_slots : List (List ℕ)
no_slots = replicate LOCATIONS (replicate COMPONENTS 0)

-- what is taken for an invocation without an outcome, since its machine is stuck: it is lost, and took no step
abbrev pub no_outcome : Outcome
no_outcome = record { kind = Lost; position = replicate COMPONENTS 0; slots = no_slots; back_edges = 0; work = 0 }

-- the outcome of one invocation of a module
unfoldable pub invoked : List Inst → SpecValues → Buffers → Inputs → Outcome
invoked insts entries buffers inputs =
    unwrap_or (stage insts (record { entries = entries; inputs = inputs; buffers = buffers })) no_outcome

-- ---- a vertex

-- of the vertex, and of the instance, with this number in the draw
abbrev pub vertex_index : DrawCall → ℕ → ℕ
vertex_index call number = low_bits (call.first_vertex + number)

abbrev pub instance_index : DrawCall → ℕ → ℕ
instance_index call number = low_bits (call.first_instance + number)

-- what each location reads, by VertexIndex and InstanceIndex
abbrev pub attributes_at : VertexPart → Dynamic → Buffers → (vertex instance : ℕ) → List (List ℕ)
attributes_at part dynamic buffers vertex instance =
    map (λ location. input_at part buffers dynamic.vertex location vertex instance) (range_with_len 0 LOCATIONS)

unfoldable pub vertex_inputs : VertexPart → Dynamic → Buffers → (vertex instance : ℕ) → Inputs
vertex_inputs part dynamic buffers vertex instance = record {
  slots = attributes_at part dynamic buffers vertex instance;
  vertex_index = vertex;
  instance_index = instance;
  frag_coord = replicate COMPONENTS 0;
  front = false;
  push = dynamic.push;
  uniforms = dynamic.uniforms;
}

-- ---- a fragment

-- One pixel of a layer that a primitive covers, with the primitive's depth, facing and outputs.
pub record Fragment : Type 0 where
  pub layer : ℕ
  pub x : ℕ
  pub y : ℕ
  pub depth : ℕ
  pub front : Bool
  pub slots : List (List ℕ)

unfoldable pub fragment_inputs : Dynamic → Fragment → Inputs
fragment_inputs dynamic fragment = record {
  slots = fragment.slots;
  vertex_index = 0;
  instance_index = 0;
  frag_coord = fragment.x ∷ fragment.y ∷ fragment.depth ∷ 0 ∷ [];
  front = fragment.front;
  push = dynamic.push;
  uniforms = dynamic.uniforms;
}
