-- The targets after a draw, and its work: over instances, primitives, views, rows, pixels and samples, in this order (Vulkan
-- specification, "Drawing Commands", "Rasterization").
use Rattle.std.specs.Prelude.{ℕ, ◌+◌, ◌*◌, ◌/◌, ◌==◌, ℤ, pos, int_lt, Bool, true, false, not, ◌&&◌, if◌then◌else◌, List, [], ◌∷◌, map, filter, slice_index, slice_index_or, sum, Option}
use Rattle.std.specs.List.{fold, flat_map, list_all, range_with_len}
use Rattle.std.specs.Option.{option_map, option_map_or, option_and_then}
use Rattle.spirv_model.specs.declared.module.Inst.{Inst}
use Rattle.state_model.specs.declared.TheConstants.{VIEWS}
use Rattle.state_model.specs.declared.buffers.Buffers.{Buffers}
use Rattle.state_model.specs.declared.parts.Topology.{Topology}
use Rattle.state_model.specs.declared.parts.Topology.TheVariants.{Points, Triangles}
use Rattle.state_model.specs.declared.parts.State.{State}
use Rattle.stage_model.specs.Stage.{Outcome}
use Rattle.draw_model.specs.declared.command.Dynamic.{Dynamic}
use Rattle.draw_model.specs.declared.command.DrawCall.{DrawCall}
use Rattle.draw_model.specs.declared.framebuffer.Targets.{Targets}
use Rattle.draw_model.specs.Assembly.{primitive_vertices}
use Rattle.draw_model.specs.Coverage.{corner, edge_value, is_covered}
use Rattle.draw_model.specs.Pixel.{has_bit}
use Rattle.draw_model.specs.Invocation.{Fragment, is_drawn, writes, invoked, vertex_index, instance_index, vertex_inputs, fragment_inputs}
use Rattle.draw_model.specs.SampleWrites.{FragmentStage, samples_of, after_sample}

-- ---- vertices

-- the outcome of the vertex with a number, of the instance with a number
unfoldable pub vertex_outcome : List Inst → State → Dynamic → DrawCall → Buffers → (instance vertex : ℕ) → Outcome
vertex_outcome vs state dynamic call buffers instance vertex = invoked vs state.prerast.entries buffers
    (vertex_inputs state.vertex dynamic buffers (vertex_index call vertex) (instance_index call instance))

-- how many whole primitives so many vertices make; those left over do nothing
abbrev pub primitive_count : Topology → ℕ → ℕ
primitive_count topology vertices = vertices / primitive_vertices topology

-- the vertices of a primitive, by their numbers
abbrev pub vertices_of : Topology → ℕ → List ℕ
vertices_of topology primitive = range_with_len (primitive * primitive_vertices topology) (primitive_vertices topology)

-- the outcomes of each primitive's vertices, each vertex run anew: instance by instance, primitive by primitive
unfoldable pub primitives : List Inst → State → Dynamic → DrawCall → Buffers → List (List Outcome)
primitives vs state dynamic call buffers = flat_map
    (λ instance. map (λ primitive. map (vertex_outcome vs state dynamic call buffers instance) (vertices_of state.vertex.topology primitive))
    (range_with_len 0 (primitive_count state.vertex.topology call.vertices)))
    (range_with_len 0 call.instances)

-- ---- primitives

abbrev pub corners_of : List Outcome → List (List ℕ)
corners_of outcomes = map (λ outcome. outcome.position) outcomes

-- no vertex of it was lost
abbrev pub is_whole : List Outcome → Bool
is_whole outcomes = list_all (λ outcome. is_drawn outcome.kind) outcomes

-- twice the signed area: above zero where the corners go clockwise on the target
abbrev pub area_of : List (List ℕ) → ℤ
area_of corners = edge_value (corner corners 0) (corner corners 1) (corner corners 2)

-- whether it is front-facing; points are
abbrev pub is_front : Topology → Bool → List (List ℕ) → Bool
is_front Points ccw corners = true
is_front Triangles ccw corners = if ccw then int_lt (area_of corners) (pos 0) else int_lt (pos 0) (area_of corners)

-- the cull mode's bit 0 drops front-facing triangles, and bit 1 the others; points stay
abbrev pub is_culled : Topology → ℕ → Bool → Bool
is_culled Points cull front = false
is_culled Triangles cull front = has_bit cull (if front then 0 else 1)

abbrev pub faces_front : State → List Outcome → Bool
faces_front state outcomes = is_front state.vertex.topology state.prerast.ccw (corners_of outcomes)

-- it is rasterized
abbrev pub is_rasterized : State → List Outcome → Bool
is_rasterized state outcomes =
    is_whole outcomes && not (is_culled state.vertex.topology state.prerast.cull (faces_front state outcomes))

-- ---- fragments

-- the layers of a view mask, by its bits; without views it is layer 0
abbrev pub layers_of : ℕ → List ℕ
layers_of mask = if mask == 0 then 0 ∷ [] else filter (has_bit mask) (range_with_len 0 VIEWS)

-- the first vertex of a primitive gives its depth and its outputs
abbrev pub first_position : List Outcome → List ℕ
first_position outcomes = slice_index_or (corners_of outcomes) 0 []

abbrev pub first_slots : List Outcome → List (List ℕ)
first_slots outcomes = slice_index_or (map (λ outcome. outcome.slots) outcomes) 0 []

-- its fragment at a pixel
abbrev pub fragment_at : State → List Outcome → (layer y x : ℕ) → Fragment
fragment_at state outcomes layer y x = record {
  layer = layer;
  x = x;
  y = y;
  depth = slice_index (first_position outcomes) 2;
  front = faces_front state outcomes;
  slots = first_slots outcomes;
}

-- the pixels of a row of the scissor that it covers
abbrev pub covered_in : State → Dynamic → List (List ℕ) → ℕ → List ℕ
covered_in state dynamic corners y =
    filter (λ x. is_covered state.vertex.topology corners x y) (range_with_len (slice_index dynamic.scissor 0) (slice_index dynamic.scissor 2))

abbrev pub fragments_in : State → Dynamic → List Outcome → (layer y : ℕ) → List Fragment
fragments_in state dynamic outcomes layer y =
    map (fragment_at state outcomes layer y) (covered_in state dynamic (corners_of outcomes) y)

-- the rows of the scissor
abbrev pub rows_of : Dynamic → List ℕ
rows_of dynamic = range_with_len (slice_index dynamic.scissor 1) (slice_index dynamic.scissor 3)

-- the fragments of a primitive: view by view, row by row, pixel by pixel
unfoldable pub fragments_of : State → Dynamic → List Outcome → List Fragment
fragments_of state dynamic outcomes =
    if is_rasterized state outcomes
    then flat_map (λ layer. flat_map (fragments_in state dynamic outcomes layer) (rows_of dynamic)) (layers_of state.prerast.view_mask)
    else []

-- those of the draw, primitive by primitive
unfoldable pub fragments : List Inst → State → Dynamic → DrawCall → Buffers → List Fragment
fragments vs state dynamic call buffers = flat_map (fragments_of state dynamic) (primitives vs state dynamic call buffers)

-- ---- the draw

-- the fragment shader and what comes after it; there is none where rasterization is discarded
unfoldable pub fragment_stage : Option (List Inst) → State → Option FragmentStage
fragment_stage fs state =
    option_and_then (λ insts. option_and_then (λ part. option_map
    (λ output. record { insts = insts; part = part; output = output }) state.output) state.fragment) fs

-- the outcome of a fragment's invocation
unfoldable pub fragment_outcome : FragmentStage → Dynamic → Buffers → Fragment → Outcome
fragment_outcome stage dynamic buffers f = invoked stage.insts stage.part.entries buffers (fragment_inputs dynamic f)

-- after the samples that a fragment with this outcome writes: none, where it was discarded or lost
unfoldable pub after_outcome : FragmentStage → Dynamic → Fragment → Targets → Outcome → Targets
after_outcome stage dynamic f targets outcome =
    if writes outcome.kind then fold (after_sample stage dynamic f outcome.slots) targets (samples_of stage.output.multisample) else targets

abbrev pub after_fragment : FragmentStage → Dynamic → Buffers → Targets → Fragment → Targets
after_fragment stage dynamic buffers targets f = after_outcome stage dynamic f targets (fragment_outcome stage dynamic buffers f)

-- the targets after the draw
unfoldable pub image : List Inst → Option (List Inst) → State → Dynamic → DrawCall → Buffers → Targets → Targets
image vs fs state dynamic call buffers targets = option_map_or
    (λ stage. fold (after_fragment stage dynamic buffers) targets (fragments vs state dynamic call buffers))
    (fragment_stage fs state) targets

-- ---- its work

abbrev pub vertex_work : List Inst → State → Dynamic → DrawCall → Buffers → ℕ
vertex_work vs state dynamic call buffers =
    sum (flat_map (map (λ (outcome : Outcome). outcome.work)) (primitives vs state dynamic call buffers))

abbrev pub fragment_work : FragmentStage → Dynamic → Buffers → List Fragment → ℕ
fragment_work stage dynamic buffers of = sum (map (λ f. (fragment_outcome stage dynamic buffers f).work) of)

-- the steps of all its invocations, also of those whose primitive is dropped or culled and of those that are discarded or lost
unfoldable pub effort : List Inst → Option (List Inst) → State → Dynamic → DrawCall → Buffers → ℕ
effort vs fs state dynamic call buffers =
    vertex_work vs state dynamic call buffers
    + option_map_or (λ stage. fragment_work stage dynamic buffers (fragments vs state dynamic call buffers)) (fragment_stage fs state) 0
