-- Worked draws, computed: the targets and the work.
use Rattle.stage_model.specs.declared.outcome.Kind.{Kind}
use Rattle.stage_model.specs.declared.outcome.Kind.TheVariants.{Done, Killed, Lost}
use Rattle.stage_model.specs.Stage.{Outcome}
use Rattle.draw_model.specs.Invocation.{Fragment, vertex_index, instance_index}
use Rattle.draw_model.specs.SampleWrites.{FragmentStage}
use Rattle.std.proofs.Common.{Bool, length, ◌≡◌, ℕ, true, false, List, [], ◌∷◌, ◌++◌, replicate, refl}
use Rattle.spirv_model.specs.declared.module.Inst.{Inst}
use Rattle.state_model.specs.declared.parts.Topology.TheVariants.{Points, Triangles}
use Rattle.std.specs.Prelude.{Option, None, Some, map}
use Rattle.body_model.proofs.SampleModules.{v1, v2, f1}
use Rattle.state_model.specs.declared.parts.Topology.{Topology}
use Rattle.state_model.specs.declared.parts.Layout.{Layout}
use Rattle.state_model.specs.declared.parts.SpecValues.{SpecValues}
use Rattle.state_model.specs.declared.parts.VertexPart.{VertexPart}
use Rattle.state_model.specs.declared.parts.PrerastPart.{PrerastPart}
use Rattle.state_model.specs.declared.parts.FragmentPart.{FragmentPart}
use Rattle.state_model.specs.declared.parts.OutputPart.{OutputPart}
use Rattle.state_model.specs.declared.parts.State.{State}
use Rattle.state_model.specs.declared.buffers.Buffers.{Buffers}
use Rattle.scalar_model.specs.Scalars.{scalar_result, word_from_word, arithmetic, bitwise, comparison, truth_from_truth, truth_from_truths}
use Rattle.valid_model.specs.Meanings.{known_by, known_after, known_of}
use Rattle.valid_model.specs.Types.{type_of}
use Rattle.spirv_model.specs.Operands.{class_of, result, entry_of}
use Rattle.valid_model.specs.DecorationWords.{decoration_of, offset_of}
use Rattle.stage_model.specs.Program.{program_of, first_label_place, layouts_by, held_layout, block_offsets}
use Rattle.stage_model.specs.Start.{constant_of, defined_by, first_memory}
use Rattle.stage_model.specs.Operations.{operation}
use Rattle.stage_model.specs.Effect.{read_ids, result_of, effect_of}
use Rattle.stage_model.specs.Machine.{read_values, done, step}
use Rattle.stage_model.specs.Stage.{start_at, position_left, slots_left, stage}
use Rattle.draw_model.specs.declared.command.Dynamic.{Dynamic}
use Rattle.draw_model.specs.declared.command.DrawCall.{DrawCall}
use Rattle.draw_model.specs.declared.framebuffer.Target.{Target}
use Rattle.draw_model.specs.declared.framebuffer.Targets.{Targets}
use Rattle.draw_model.specs.Coverage.{is_covered, is_guarded, edge_value, is_top_or_left, is_inside, is_inside_all, triangle_covers}
use Rattle.draw_model.specs.Fetch.{input_at}
use Rattle.draw_model.specs.Pixel.{stored_pixel}
use Rattle.draw_model.specs.Invocation.{invoked, vertex_inputs, fragment_inputs}
use Rattle.draw_model.specs.TargetWords.{sample_place, sample_words, with_sample, with_target, usable}
use Rattle.draw_model.specs.SampleWrites.{depth_test, write_at, after_location, after_sample}
use Rattle.draw_model.specs.WholeDraw.{vertex_outcome, primitives, fragments_of, fragments, fragment_stage, fragment_outcome, after_outcome, image, effort}

-- ---- states and targets

abbrev no_values : SpecValues
no_values = record { entries = replicate 16 None }

abbrev no_layout : Layout
no_layout = record { independent = false; push_words = 0; sets = replicate 4 None }

-- vertices that read nothing
abbrev no_attributes : Topology → VertexPart
no_attributes topology = record { retain = true; topology = topology; bindings = replicate 4 None; attributes = replicate 8 None }

-- binding 0 of stride 4, and at location 0 four signed words of it
abbrev four_words : Topology → VertexPart
four_words topology = record (no_attributes topology) {
  bindings = Some (record { stride = 4; per_instance = false }) ∷ replicate 3 None;
  attributes = Some (record { binding = 0; comps = 4; signed = true; offset = 0 }) ∷ replicate 7 None;
}

abbrev prerast : PrerastPart
prerast = record { retain = true; «module» = 0; layout = no_layout; view_mask = 0; discard = false; cull = 0; ccw = false; entries = no_values }

abbrev fragment : FragmentPart
fragment = record { retain = true; «module» = 1; layout = no_layout; view_mask = 0; depth = None; multisample = None; entries = no_values }

-- one attachment of one unsigned component
abbrev output : OutputPart
output = record {
  retain = true;
  view_mask = 0;
  multisample = record { samples = 1; mask = 1 };
  logic = None;
  attachments = Some (record { format = 1; write_mask = 1 }) ∷ replicate 7 None;
}

abbrev state : VertexPart → State
state vertex = record { vertex = vertex; prerast = prerast; fragment = Some fragment; output = Some output }

-- a target of one unsigned component, one layer and one sample
abbrev target : (width height : ℕ) → List ℕ → Target
target width height words = record { format = 1; width = width; height = height; layers = 1; samples = 1; words = words }

-- buffer 0 and target 0 are bound, and the scissor is 2 x 2
abbrev dynamic : Dynamic
dynamic = record {
  push = replicate 32 0;
  vertex = Some 0 ∷ replicate 3 None;
  uniforms = replicate 4 (replicate 8 None);
  scissor = 0 ∷ 0 ∷ 2 ∷ 2 ∷ [];
  colour = Some 0 ∷ replicate 7 None;
  depth = None;
}

abbrev vertices : ℕ → DrawCall
vertices count = record { first_vertex = 0; vertices = count; first_instance = 0; instances = 1 }

abbrev no_buffers : Buffers
no_buffers = record { list = [] }

abbrev buffer : List ℕ → Buffers
buffer words = record { list = words ∷ [] }

abbrev one : Target → Targets
one target = record { list = target ∷ [] }

-- the words of each target
abbrev all_words : Targets → List (List ℕ)
all_words targets = map (λ (t : Target). t.words) targets.list

-- the targets' words and the work
abbrev drawn : List Inst → Option (List Inst) → State → Dynamic → DrawCall → Buffers → Targets → List (List ℕ) × ℕ
drawn vs fs state dynamic call buffers targets =
    (all_words (image vs fs state dynamic call buffers targets), effort vs fs state dynamic call buffers)

-- with a multisample state, views, culling, a depth test, and other attachments
abbrev sampled : (samples mask : ℕ) → State → State
sampled samples mask s = record s { output = Some (record output { multisample = record { samples = samples; mask = mask } }) }

abbrev viewed : ℕ → State → State
viewed mask s = record s {
  prerast = record prerast { view_mask = mask };
  fragment = Some (record fragment { view_mask = mask });
  output = Some (record output { view_mask = mask });
}

abbrev culled : ℕ → Bool → State → State
culled cull ccw s = record s { prerast = record prerast { cull = cull; ccw = ccw } }

abbrev tested : ℕ → State → State
tested compare s = record s { fragment = Some (record fragment { depth = Some (record { compare = compare; write = true }) }) }

abbrev attached : (format mask : ℕ) → State → State
attached format mask s = record s { output = Some (record output { attachments = Some (record { format = format; write_mask = mask }) ∷ replicate 7 None }) }

abbrev combined : ℕ → State → State
combined logic s = record s { output = Some (record output { logic = Some logic }) }

abbrev points : State
points = state (no_attributes Points)

abbrev read_points : State
read_points = state (four_words Points)

abbrev triangles : State
triangles = state (four_words Triangles)

-- a depth target, bound as target 1
abbrev depth_target : (width samples : ℕ) → List ℕ → Target
depth_target width samples words = record { format = 9; width = width; height = 1; layers = 1; samples = samples; words = words }

abbrev with_depth_bound : Dynamic
with_depth_bound = record dynamic { depth = Some 1 }

abbrev two : (colour depth : Target) → Targets
two colour depth = record { list = colour ∷ depth ∷ [] }

abbrev square : Buffers
square = buffer (0 ∷ 0 ∷ 0 ∷ 0 ∷ 512 ∷ 0 ∷ 0 ∷ 0 ∷ 0 ∷ 512 ∷ 0 ∷ 0 ∷ 512 ∷ 0 ∷ 0 ∷ 0 ∷ 512 ∷ 512 ∷ 0 ∷ 0 ∷ 0 ∷ 512 ∷ 0 ∷ 0 ∷ [])

abbrev black : Target
black = target 2 2 (0 ∷ 0 ∷ 0 ∷ 0 ∷ [])

abbrev i : ℕ → List ℕ → Inst
i op words = record { op = op; words = words }

-- a vertex module: the position's x is VertexIndex, and its y InstanceIndex
abbrev indices : List Inst
indices =
    i 17 (1 ∷ []) ∷ i 14 (0 ∷ 1 ∷ []) ∷ i 15 (0 ∷ 10 ∷ 1852399981 ∷ 0 ∷ 6 ∷ 20 ∷ 21 ∷ [])
    ∷ i 71 (6 ∷ 11 ∷ 0 ∷ []) ∷ i 71 (20 ∷ 11 ∷ 42 ∷ []) ∷ i 71 (21 ∷ 11 ∷ 43 ∷ [])
    ∷ i 19 (1 ∷ []) ∷ i 33 (2 ∷ 1 ∷ []) ∷ i 21 (3 ∷ 32 ∷ 1 ∷ []) ∷ i 23 (4 ∷ 3 ∷ 4 ∷ []) ∷ i 32 (5 ∷ 3 ∷ 4 ∷ []) ∷ i 59 (5 ∷ 6 ∷ 3 ∷ [])
    ∷ i 32 (7 ∷ 1 ∷ 3 ∷ []) ∷ i 59 (7 ∷ 20 ∷ 1 ∷ []) ∷ i 59 (7 ∷ 21 ∷ 1 ∷ []) ∷ i 43 (3 ∷ 8 ∷ 0 ∷ [])
    ∷ i 54 (1 ∷ 10 ∷ 0 ∷ 2 ∷ []) ∷ i 248 (11 ∷ []) ∷ i 61 (3 ∷ 12 ∷ 20 ∷ []) ∷ i 61 (3 ∷ 13 ∷ 21 ∷ [])
    ∷ i 80 (4 ∷ 9 ∷ 12 ∷ 13 ∷ 8 ∷ 8 ∷ []) ∷ i 62 (6 ∷ 9 ∷ []) ∷ i 253 [] ∷ i 56 [] ∷ []

-- a fragment module with these declarations and this body
abbrev fragments_with : (interface : List ℕ) → (decorations declarations body : List Inst) → List Inst
fragments_with interface decorations declarations body =
    i 17 (1 ∷ []) ∷ i 14 (0 ∷ 1 ∷ []) ∷ i 15 (4 ∷ 7 ∷ 1852399981 ∷ 0 ∷ interface) ∷ i 16 (7 ∷ 7 ∷ [])
    ∷ decorations ++ i 19 (1 ∷ []) ∷ i 33 (2 ∷ 1 ∷ []) ∷ i 21 (3 ∷ 32 ∷ 0 ∷ [])
    ∷ declarations ++ i 54 (1 ∷ 7 ∷ 0 ∷ 2 ∷ []) ∷ i 248 (8 ∷ []) ∷ body ++ i 56 [] ∷ []

-- it stores 42, and is discarded
abbrev discarded : List Inst
discarded = fragments_with (5 ∷ []) (i 71 (5 ∷ 30 ∷ 0 ∷ []) ∷ []) (i 32 (4 ∷ 3 ∷ 3 ∷ []) ∷ i 59 (4 ∷ 5 ∷ 3 ∷ []) ∷ i 43 (3 ∷ 6 ∷ 42 ∷ []) ∷ []) (i 62 (5 ∷ 6 ∷ []) ∷ i 252 [] ∷ [])

-- FragCoord
abbrev coordinates : List Inst
coordinates = fragments_with (5 ∷ 6 ∷ []) (i 71 (5 ∷ 30 ∷ 0 ∷ []) ∷ i 71 (6 ∷ 11 ∷ 15 ∷ []) ∷ [])
    (i 21 (9 ∷ 32 ∷ 1 ∷ []) ∷ i 23 (10 ∷ 9 ∷ 4 ∷ []) ∷ i 32 (4 ∷ 3 ∷ 10 ∷ []) ∷ i 59 (4 ∷ 5 ∷ 3 ∷ []) ∷ i 32 (11 ∷ 1 ∷ 10 ∷ []) ∷ i 59 (11 ∷ 6 ∷ 1 ∷ []) ∷ [])
    (i 61 (10 ∷ 12 ∷ 6 ∷ []) ∷ i 62 (5 ∷ 12 ∷ []) ∷ i 253 [] ∷ [])

-- 42 at location 0, and 7 at location 1
abbrev two_outputs : List Inst
two_outputs = fragments_with (5 ∷ 9 ∷ []) (i 71 (5 ∷ 30 ∷ 0 ∷ []) ∷ i 71 (9 ∷ 30 ∷ 1 ∷ []) ∷ [])
    (i 32 (4 ∷ 3 ∷ 3 ∷ []) ∷ i 59 (4 ∷ 5 ∷ 3 ∷ []) ∷ i 59 (4 ∷ 9 ∷ 3 ∷ []) ∷ i 43 (3 ∷ 6 ∷ 42 ∷ []) ∷ i 43 (3 ∷ 10 ∷ 7 ∷ []) ∷ [])
    (i 62 (5 ∷ 6 ∷ []) ∷ i 62 (9 ∷ 10 ∷ []) ∷ i 253 [] ∷ [])

-- an outcome whose first slot begins with 7
abbrev ended : Kind → Outcome
ended kind = record { kind = kind; position = replicate 4 0; slots = (7 ∷ 0 ∷ 0 ∷ 0 ∷ []) ∷ replicate 7 (replicate 4 0); back_edges = 0; work = 3 }

abbrev of_f1 : FragmentStage
of_f1 = record { insts = f1; part = fragment; output = output }

abbrev at_corner : Fragment
at_corner = record { layer = 0; x = 0; y = 0; depth = 0; front = true; slots = replicate 8 (replicate 4 0) }

-- ---- points and triangles

-- a point of a module that reads nothing
one_point : drawn v1 (Some f1) points dynamic (vertices 1) no_buffers (one (target 2 1 (0 ∷ 0 ∷ []))) ≡ ((42 ∷ 0 ∷ []) ∷ [], 6)
unfolding result entry_of first_label_place scalar_result word_from_word arithmetic bitwise comparison truth_from_truth truth_from_truths known_by known_after known_of type_of decoration_of offset_of program_of layouts_by held_layout block_offsets constant_of defined_by first_memory operation class_of read_ids result_of effect_of read_values done step start_at position_left slots_left stage is_covered is_guarded edge_value is_top_or_left is_inside is_inside_all triangle_covers input_at stored_pixel invoked vertex_inputs fragment_inputs sample_place sample_words with_sample with_target usable depth_test write_at after_location after_sample vertex_outcome primitives fragments_of fragments fragment_stage fragment_outcome after_outcome image effort
one_point = refl

-- two triangles whose shared edge holds two pixel centres: by XOR a pixel that is drawn twice would be 0
shared_edge : drawn v2 (Some f1) (combined 6 triangles) dynamic (vertices 6) square (one black) ≡ ((42 ∷ 42 ∷ 42 ∷ 42 ∷ []) ∷ [], 36)
unfolding result entry_of first_label_place scalar_result word_from_word arithmetic bitwise comparison truth_from_truth truth_from_truths known_by known_after known_of type_of decoration_of offset_of program_of layouts_by held_layout block_offsets constant_of defined_by first_memory operation class_of read_ids result_of effect_of read_values done step start_at position_left slots_left stage is_covered is_guarded edge_value is_top_or_left is_inside is_inside_all triangle_covers input_at stored_pixel invoked vertex_inputs fragment_inputs sample_place sample_words with_sample with_target usable depth_test write_at after_location after_sample vertex_outcome primitives fragments_of fragments fragment_stage fragment_outcome after_outcome image effort
shared_edge = refl

-- two vertices that make no triangle are not run
left_over : drawn v2 (Some f1) (combined 6 triangles) dynamic (vertices 5) square (one black) ≡ ((42 ∷ 0 ∷ 0 ∷ 0 ∷ []) ∷ [], 15)
unfolding result entry_of first_label_place scalar_result word_from_word arithmetic bitwise comparison truth_from_truth truth_from_truths known_by known_after known_of type_of decoration_of offset_of program_of layouts_by held_layout block_offsets constant_of defined_by first_memory operation class_of read_ids result_of effect_of read_values done step start_at position_left slots_left stage is_covered is_guarded edge_value is_top_or_left is_inside is_inside_all triangle_covers input_at stored_pixel invoked vertex_inputs fragment_inputs sample_place sample_words with_sample with_target usable depth_test write_at after_location after_sample vertex_outcome primitives fragments_of fragments fragment_stage fragment_outcome after_outcome image effort
left_over = refl

-- no instance
no_instance : drawn v1 (Some f1) points dynamic (record (vertices 1) { instances = 0 }) no_buffers (one (target 2 1 (0 ∷ 0 ∷ []))) ≡ ((0 ∷ 0 ∷ []) ∷ [], 0)
unfolding result entry_of first_label_place scalar_result word_from_word arithmetic bitwise comparison truth_from_truth truth_from_truths known_by known_after known_of type_of decoration_of offset_of program_of layouts_by held_layout block_offsets constant_of defined_by first_memory operation class_of read_ids result_of effect_of read_values done step start_at position_left slots_left stage is_covered is_guarded edge_value is_top_or_left is_inside is_inside_all triangle_covers input_at stored_pixel invoked vertex_inputs fragment_inputs sample_place sample_words with_sample with_target usable depth_test write_at after_location after_sample vertex_outcome primitives fragments_of fragments fragment_stage fragment_outcome after_outcome image effort
no_instance = refl

-- the pixels right of the scissor's left side
in_scissor : drawn v2 (Some f1) triangles (record dynamic { scissor = 1 ∷ 0 ∷ 1 ∷ 2 ∷ [] }) (vertices 6) square (one black) ≡ ((0 ∷ 42 ∷ 0 ∷ 42 ∷ []) ∷ [], 30)
unfolding result entry_of first_label_place scalar_result word_from_word arithmetic bitwise comparison truth_from_truth truth_from_truths known_by known_after known_of type_of decoration_of offset_of program_of layouts_by held_layout block_offsets constant_of defined_by first_memory operation class_of read_ids result_of effect_of read_values done step start_at position_left slots_left stage is_covered is_guarded edge_value is_top_or_left is_inside is_inside_all triangle_covers input_at stored_pixel invoked vertex_inputs fragment_inputs sample_place sample_words with_sample with_target usable depth_test write_at after_location after_sample vertex_outcome primitives fragments_of fragments fragment_stage fragment_outcome after_outcome image effort
in_scissor = refl

-- rasterization is discarded: the vertices run
without_rasterization : drawn v1 None (record points { prerast = record prerast { discard = true }; fragment = None; output = None }) dynamic (vertices 1) no_buffers (one (target 2 1 (0 ∷ 0 ∷ []))) ≡ ((0 ∷ 0 ∷ []) ∷ [], 3)
unfolding result entry_of first_label_place scalar_result word_from_word arithmetic bitwise comparison truth_from_truth truth_from_truths known_by known_after known_of type_of decoration_of offset_of program_of layouts_by held_layout block_offsets constant_of defined_by first_memory operation class_of read_ids result_of effect_of read_values done step start_at position_left slots_left stage is_covered is_guarded edge_value is_top_or_left is_inside is_inside_all triangle_covers input_at stored_pixel invoked vertex_inputs fragment_inputs sample_place sample_words with_sample with_target usable depth_test write_at after_location after_sample vertex_outcome primitives fragments_of fragments fragment_stage fragment_outcome after_outcome image effort
without_rasterization = refl

-- ---- dropped and culled triangles, whose vertices have run

-- a front-facing triangle
front_culled : drawn v2 (Some f1) (culled 1 false triangles) dynamic (vertices 3) square (one black) ≡ ((0 ∷ 0 ∷ 0 ∷ 0 ∷ []) ∷ [], 12)
unfolding result entry_of first_label_place scalar_result word_from_word arithmetic bitwise comparison truth_from_truth truth_from_truths known_by known_after known_of type_of decoration_of offset_of program_of layouts_by held_layout block_offsets constant_of defined_by first_memory operation class_of read_ids result_of effect_of read_values done step start_at position_left slots_left stage is_covered is_guarded edge_value is_top_or_left is_inside is_inside_all triangle_covers input_at stored_pixel invoked vertex_inputs fragment_inputs sample_place sample_words with_sample with_target usable depth_test write_at after_location after_sample vertex_outcome primitives fragments_of fragments fragment_stage fragment_outcome after_outcome image effort
front_culled = refl

-- the same, where the others are culled
front_stays : drawn v2 (Some f1) (culled 2 false triangles) dynamic (vertices 3) square (one black) ≡ ((42 ∷ 0 ∷ 0 ∷ 0 ∷ []) ∷ [], 15)
unfolding result entry_of first_label_place scalar_result word_from_word arithmetic bitwise comparison truth_from_truth truth_from_truths known_by known_after known_of type_of decoration_of offset_of program_of layouts_by held_layout block_offsets constant_of defined_by first_memory operation class_of read_ids result_of effect_of read_values done step start_at position_left slots_left stage is_covered is_guarded edge_value is_top_or_left is_inside is_inside_all triangle_covers input_at stored_pixel invoked vertex_inputs fragment_inputs sample_place sample_words with_sample with_target usable depth_test write_at after_location after_sample vertex_outcome primitives fragments_of fragments fragment_stage fragment_outcome after_outcome image effort
front_stays = refl

-- the same as a back-facing one, where those in front are culled
back_stays : drawn v2 (Some f1) (culled 1 true triangles) dynamic (vertices 3) square (one black) ≡ ((42 ∷ 0 ∷ 0 ∷ 0 ∷ []) ∷ [], 15)
unfolding result entry_of first_label_place scalar_result word_from_word arithmetic bitwise comparison truth_from_truth truth_from_truths known_by known_after known_of type_of decoration_of offset_of program_of layouts_by held_layout block_offsets constant_of defined_by first_memory operation class_of read_ids result_of effect_of read_values done step start_at position_left slots_left stage is_covered is_guarded edge_value is_top_or_left is_inside is_inside_all triangle_covers input_at stored_pixel invoked vertex_inputs fragment_inputs sample_place sample_words with_sample with_target usable depth_test write_at after_location after_sample vertex_outcome primitives fragments_of fragments fragment_stage fragment_outcome after_outcome image effort
back_stays = refl

-- and where the others are
back_culled : drawn v2 (Some f1) (culled 2 true triangles) dynamic (vertices 3) square (one black) ≡ ((0 ∷ 0 ∷ 0 ∷ 0 ∷ []) ∷ [], 12)
unfolding result entry_of first_label_place scalar_result word_from_word arithmetic bitwise comparison truth_from_truth truth_from_truths known_by known_after known_of type_of decoration_of offset_of program_of layouts_by held_layout block_offsets constant_of defined_by first_memory operation class_of read_ids result_of effect_of read_values done step start_at position_left slots_left stage is_covered is_guarded edge_value is_top_or_left is_inside is_inside_all triangle_covers input_at stored_pixel invoked vertex_inputs fragment_inputs sample_place sample_words with_sample with_target usable depth_test write_at after_location after_sample vertex_outcome primitives fragments_of fragments fragment_stage fragment_outcome after_outcome image effort
back_culled = refl

-- both are culled
both_culled : drawn v2 (Some f1) (culled 3 true triangles) dynamic (vertices 3) square (one black) ≡ ((0 ∷ 0 ∷ 0 ∷ 0 ∷ []) ∷ [], 12)
unfolding result entry_of first_label_place scalar_result word_from_word arithmetic bitwise comparison truth_from_truth truth_from_truths known_by known_after known_of type_of decoration_of offset_of program_of layouts_by held_layout block_offsets constant_of defined_by first_memory operation class_of read_ids result_of effect_of read_values done step start_at position_left slots_left stage is_covered is_guarded edge_value is_top_or_left is_inside is_inside_all triangle_covers input_at stored_pixel invoked vertex_inputs fragment_inputs sample_place sample_words with_sample with_target usable depth_test write_at after_location after_sample vertex_outcome primitives fragments_of fragments fragment_stage fragment_outcome after_outcome image effort
both_culled = refl

-- a corner just beyond the guard band
beyond_guard_band : drawn v2 (Some f1) triangles dynamic (vertices 3) (buffer (0 ∷ 0 ∷ 0 ∷ 0 ∷ 1048577 ∷ 0 ∷ 0 ∷ 0 ∷ 0 ∷ 512 ∷ 0 ∷ 0 ∷ [])) (one black) ≡ ((0 ∷ 0 ∷ 0 ∷ 0 ∷ []) ∷ [], 12)
unfolding result entry_of first_label_place scalar_result word_from_word arithmetic bitwise comparison truth_from_truth truth_from_truths known_by known_after known_of type_of decoration_of offset_of program_of layouts_by held_layout block_offsets constant_of defined_by first_memory operation class_of read_ids result_of effect_of read_values done step start_at position_left slots_left stage is_covered is_guarded edge_value is_top_or_left is_inside is_inside_all triangle_covers input_at stored_pixel invoked vertex_inputs fragment_inputs sample_place sample_words with_sample with_target usable depth_test write_at after_location after_sample vertex_outcome primitives fragments_of fragments fragment_stage fragment_outcome after_outcome image effort
beyond_guard_band = refl

-- a vertex that is lost drops its primitive; one that is discarded wouldn't
lost_vertex : map (λ kind. length (fragments_of points dynamic (ended kind ∷ []))) (Done ∷ Killed ∷ Lost ∷ []) ≡ 1 ∷ 1 ∷ 0 ∷ []
unfolding result entry_of first_label_place scalar_result word_from_word arithmetic bitwise comparison truth_from_truth truth_from_truths known_by known_after known_of type_of decoration_of offset_of program_of layouts_by held_layout block_offsets constant_of defined_by first_memory operation class_of read_ids result_of effect_of read_values done step start_at position_left slots_left stage is_covered is_guarded edge_value is_top_or_left is_inside is_inside_all triangle_covers input_at stored_pixel invoked vertex_inputs fragment_inputs sample_place sample_words with_sample with_target usable depth_test write_at after_location after_sample vertex_outcome primitives fragments_of fragments fragment_stage fragment_outcome after_outcome image effort
lost_vertex = refl

-- ---- depth

-- the depth of the first vertex isn't below the old one
depth_equal_fails : drawn v2 (Some f1) (tested 1 read_points) with_depth_bound (vertices 1) (buffer (128 ∷ 128 ∷ 5 ∷ 0 ∷ [])) (two (target 2 1 (0 ∷ 0 ∷ [])) (depth_target 2 1 (5 ∷ 5 ∷ []))) ≡ ((0 ∷ 0 ∷ []) ∷ (5 ∷ 5 ∷ []) ∷ [], 7)
unfolding result entry_of first_label_place scalar_result word_from_word arithmetic bitwise comparison truth_from_truth truth_from_truths known_by known_after known_of type_of decoration_of offset_of program_of layouts_by held_layout block_offsets constant_of defined_by first_memory operation class_of read_ids result_of effect_of read_values done step start_at position_left slots_left stage is_covered is_guarded edge_value is_top_or_left is_inside is_inside_all triangle_covers input_at stored_pixel invoked vertex_inputs fragment_inputs sample_place sample_words with_sample with_target usable depth_test write_at after_location after_sample vertex_outcome primitives fragments_of fragments fragment_stage fragment_outcome after_outcome image effort
depth_equal_fails = refl

-- it is above the old one, which stays
depth_above_fails : drawn v2 (Some f1) (tested 1 read_points) with_depth_bound (vertices 1) (buffer (128 ∷ 128 ∷ 5 ∷ 0 ∷ [])) (two (target 2 1 (0 ∷ 0 ∷ [])) (depth_target 2 1 (4 ∷ 4 ∷ []))) ≡ ((0 ∷ 0 ∷ []) ∷ (4 ∷ 4 ∷ []) ∷ [], 7)
unfolding result entry_of first_label_place scalar_result word_from_word arithmetic bitwise comparison truth_from_truth truth_from_truths known_by known_after known_of type_of decoration_of offset_of program_of layouts_by held_layout block_offsets constant_of defined_by first_memory operation class_of read_ids result_of effect_of read_values done step start_at position_left slots_left stage is_covered is_guarded edge_value is_top_or_left is_inside is_inside_all triangle_covers input_at stored_pixel invoked vertex_inputs fragment_inputs sample_place sample_words with_sample with_target usable depth_test write_at after_location after_sample vertex_outcome primitives fragments_of fragments fragment_stage fragment_outcome after_outcome image effort
depth_above_fails = refl

-- it is at most the old one, and is stored
depth_less_or_equal : drawn v2 (Some f1) (tested 3 read_points) with_depth_bound (vertices 1) (buffer (128 ∷ 128 ∷ 5 ∷ 0 ∷ [])) (two (target 2 1 (0 ∷ 0 ∷ [])) (depth_target 2 1 (6 ∷ 6 ∷ []))) ≡ ((42 ∷ 0 ∷ []) ∷ (5 ∷ 6 ∷ []) ∷ [], 7)
unfolding result entry_of first_label_place scalar_result word_from_word arithmetic bitwise comparison truth_from_truth truth_from_truths known_by known_after known_of type_of decoration_of offset_of program_of layouts_by held_layout block_offsets constant_of defined_by first_memory operation class_of read_ids result_of effect_of read_values done step start_at position_left slots_left stage is_covered is_guarded edge_value is_top_or_left is_inside is_inside_all triangle_covers input_at stored_pixel invoked vertex_inputs fragment_inputs sample_place sample_words with_sample with_target usable depth_test write_at after_location after_sample vertex_outcome primitives fragments_of fragments fragment_stage fragment_outcome after_outcome image effort
depth_less_or_equal = refl

-- NEVER, and a depth target of another sample count
no_depth_target : drawn v2 (Some f1) (sampled 4 5 (tested 0 read_points)) with_depth_bound (vertices 1) (buffer (128 ∷ 128 ∷ 5 ∷ 0 ∷ [])) (two (record (target 1 1 (0 ∷ 0 ∷ 0 ∷ 0 ∷ [])) { samples = 4 }) (depth_target 1 1 (9 ∷ []))) ≡ ((42 ∷ 0 ∷ 42 ∷ 0 ∷ []) ∷ (9 ∷ []) ∷ [], 7)
unfolding result entry_of first_label_place scalar_result word_from_word arithmetic bitwise comparison truth_from_truth truth_from_truths known_by known_after known_of type_of decoration_of offset_of program_of layouts_by held_layout block_offsets constant_of defined_by first_memory operation class_of read_ids result_of effect_of read_values done step start_at position_left slots_left stage is_covered is_guarded edge_value is_top_or_left is_inside is_inside_all triangle_covers input_at stored_pixel invoked vertex_inputs fragment_inputs sample_place sample_words with_sample with_target usable depth_test write_at after_location after_sample vertex_outcome primitives fragments_of fragments fragment_stage fragment_outcome after_outcome image effort
no_depth_target = refl

-- depth of each sample of the mask
depth_of_samples : drawn v2 (Some f1) (sampled 4 5 (tested 1 read_points)) with_depth_bound (vertices 1) (buffer (128 ∷ 128 ∷ 5 ∷ 0 ∷ [])) (two (record (target 1 1 (0 ∷ 0 ∷ 0 ∷ 0 ∷ [])) { samples = 4 }) (depth_target 1 4 (9 ∷ 9 ∷ 9 ∷ 9 ∷ []))) ≡ ((42 ∷ 0 ∷ 42 ∷ 0 ∷ []) ∷ (5 ∷ 9 ∷ 5 ∷ 9 ∷ []) ∷ [], 7)
unfolding result entry_of first_label_place scalar_result word_from_word arithmetic bitwise comparison truth_from_truth truth_from_truths known_by known_after known_of type_of decoration_of offset_of program_of layouts_by held_layout block_offsets constant_of defined_by first_memory operation class_of read_ids result_of effect_of read_values done step start_at position_left slots_left stage is_covered is_guarded edge_value is_top_or_left is_inside is_inside_all triangle_covers input_at stored_pixel invoked vertex_inputs fragment_inputs sample_place sample_words with_sample with_target usable depth_test write_at after_location after_sample vertex_outcome primitives fragments_of fragments fragment_stage fragment_outcome after_outcome image effort
depth_of_samples = refl

-- ---- fragments that write nothing

-- it was discarded: neither its colour nor its depth is stored, and its work counts
discarded_fragment : drawn v2 (Some discarded) (tested 7 read_points) with_depth_bound (vertices 1) (buffer (128 ∷ 128 ∷ 5 ∷ 0 ∷ [])) (two (target 2 1 (0 ∷ 0 ∷ [])) (depth_target 2 1 (9 ∷ 9 ∷ []))) ≡ ((0 ∷ 0 ∷ []) ∷ (9 ∷ 9 ∷ []) ∷ [], 7)
unfolding result entry_of first_label_place scalar_result word_from_word arithmetic bitwise comparison truth_from_truth truth_from_truths known_by known_after known_of type_of decoration_of offset_of program_of layouts_by held_layout block_offsets constant_of defined_by first_memory operation class_of read_ids result_of effect_of read_values done step start_at position_left slots_left stage is_covered is_guarded edge_value is_top_or_left is_inside is_inside_all triangle_covers input_at stored_pixel invoked vertex_inputs fragment_inputs sample_place sample_words with_sample with_target usable depth_test write_at after_location after_sample vertex_outcome primitives fragments_of fragments fragment_stage fragment_outcome after_outcome image effort
discarded_fragment = refl

-- it was lost
lost_fragment : all_words (after_outcome of_f1 dynamic at_corner (one (target 2 1 (0 ∷ 0 ∷ []))) (ended Lost)) ≡ (0 ∷ 0 ∷ []) ∷ []
unfolding result entry_of first_label_place scalar_result word_from_word arithmetic bitwise comparison truth_from_truth truth_from_truths known_by known_after known_of type_of decoration_of offset_of program_of layouts_by held_layout block_offsets constant_of defined_by first_memory operation class_of read_ids result_of effect_of read_values done step start_at position_left slots_left stage is_covered is_guarded edge_value is_top_or_left is_inside is_inside_all triangle_covers input_at stored_pixel invoked vertex_inputs fragment_inputs sample_place sample_words with_sample with_target usable depth_test write_at after_location after_sample vertex_outcome primitives fragments_of fragments fragment_stage fragment_outcome after_outcome image effort
lost_fragment = refl

-- the same outcome of one that is done
done_fragment : all_words (after_outcome of_f1 dynamic at_corner (one (target 2 1 (0 ∷ 0 ∷ []))) (ended Done)) ≡ (7 ∷ 0 ∷ []) ∷ []
unfolding result entry_of first_label_place scalar_result word_from_word arithmetic bitwise comparison truth_from_truth truth_from_truths known_by known_after known_of type_of decoration_of offset_of program_of layouts_by held_layout block_offsets constant_of defined_by first_memory operation class_of read_ids result_of effect_of read_values done step start_at position_left slots_left stage is_covered is_guarded edge_value is_top_or_left is_inside is_inside_all triangle_covers input_at stored_pixel invoked vertex_inputs fragment_inputs sample_place sample_words with_sample with_target usable depth_test write_at after_location after_sample vertex_outcome primitives fragments_of fragments fragment_stage fragment_outcome after_outcome image effort
done_fragment = refl

-- ---- views, samples and attachments

-- of the view mask 101 layers 0 and 2, a fragment for each
two_views : drawn v1 (Some f1) (viewed 5 points) dynamic (vertices 1) no_buffers (one (record (target 1 1 (0 ∷ 0 ∷ 0 ∷ [])) { layers = 3 })) ≡ ((42 ∷ 0 ∷ 42 ∷ []) ∷ [], 9)
unfolding result entry_of first_label_place scalar_result word_from_word arithmetic bitwise comparison truth_from_truth truth_from_truths known_by known_after known_of type_of decoration_of offset_of program_of layouts_by held_layout block_offsets constant_of defined_by first_memory operation class_of read_ids result_of effect_of read_values done step start_at position_left slots_left stage is_covered is_guarded edge_value is_top_or_left is_inside is_inside_all triangle_covers input_at stored_pixel invoked vertex_inputs fragment_inputs sample_place sample_words with_sample with_target usable depth_test write_at after_location after_sample vertex_outcome primitives fragments_of fragments fragment_stage fragment_outcome after_outcome image effort
two_views = refl

-- of the sample mask 101 samples 0 and 2, one fragment for all
samples_of_mask : drawn v1 (Some f1) (sampled 4 5 points) dynamic (vertices 1) no_buffers (one (record (target 1 1 (0 ∷ 0 ∷ 0 ∷ 0 ∷ [])) { samples = 4 })) ≡ ((42 ∷ 0 ∷ 42 ∷ 0 ∷ []) ∷ [], 6)
unfolding result entry_of first_label_place scalar_result word_from_word arithmetic bitwise comparison truth_from_truth truth_from_truths known_by known_after known_of type_of decoration_of offset_of program_of layouts_by held_layout block_offsets constant_of defined_by first_memory operation class_of read_ids result_of effect_of read_values done step start_at position_left slots_left stage is_covered is_guarded edge_value is_top_or_left is_inside is_inside_all triangle_covers input_at stored_pixel invoked vertex_inputs fragment_inputs sample_place sample_words with_sample with_target usable depth_test write_at after_location after_sample vertex_outcome primitives fragments_of fragments fragment_stage fragment_outcome after_outcome image effort
samples_of_mask = refl

-- the target has another format than the attachment
other_format : drawn v1 (Some f1) points dynamic (vertices 1) no_buffers (one (record (target 2 1 (0 ∷ 0 ∷ [])) { format = 5 })) ≡ ((0 ∷ 0 ∷ []) ∷ [], 6)
unfolding result entry_of first_label_place scalar_result word_from_word arithmetic bitwise comparison truth_from_truth truth_from_truths known_by known_after known_of type_of decoration_of offset_of program_of layouts_by held_layout block_offsets constant_of defined_by first_memory operation class_of read_ids result_of effect_of read_values done step start_at position_left slots_left stage is_covered is_guarded edge_value is_top_or_left is_inside is_inside_all triangle_covers input_at stored_pixel invoked vertex_inputs fragment_inputs sample_place sample_words with_sample with_target usable depth_test write_at after_location after_sample vertex_outcome primitives fragments_of fragments fragment_stage fragment_outcome after_outcome image effort
other_format = refl

-- the output lacks the second component, which is written as 0
lacking_component : drawn v1 (Some f1) (attached 2 3 points) dynamic (vertices 1) no_buffers (one (record (target 1 1 (9 ∷ 9 ∷ [])) { format = 2 })) ≡ ((42 ∷ 0 ∷ []) ∷ [], 6)
unfolding result entry_of first_label_place scalar_result word_from_word arithmetic bitwise comparison truth_from_truth truth_from_truths known_by known_after known_of type_of decoration_of offset_of program_of layouts_by held_layout block_offsets constant_of defined_by first_memory operation class_of read_ids result_of effect_of read_values done step start_at position_left slots_left stage is_covered is_guarded edge_value is_top_or_left is_inside is_inside_all triangle_covers input_at stored_pixel invoked vertex_inputs fragment_inputs sample_place sample_words with_sample with_target usable depth_test write_at after_location after_sample vertex_outcome primitives fragments_of fragments fragment_stage fragment_outcome after_outcome image effort
lacking_component = refl

-- the same, where the write mask has the second component alone
masked_component : drawn v1 (Some f1) (attached 2 2 points) dynamic (vertices 1) no_buffers (one (record (target 1 1 (9 ∷ 9 ∷ [])) { format = 2 })) ≡ ((9 ∷ 0 ∷ []) ∷ [], 6)
unfolding result entry_of first_label_place scalar_result word_from_word arithmetic bitwise comparison truth_from_truth truth_from_truths known_by known_after known_of type_of decoration_of offset_of program_of layouts_by held_layout block_offsets constant_of defined_by first_memory operation class_of read_ids result_of effect_of read_values done step start_at position_left slots_left stage is_covered is_guarded edge_value is_top_or_left is_inside is_inside_all triangle_covers input_at stored_pixel invoked vertex_inputs fragment_inputs sample_place sample_words with_sample with_target usable depth_test write_at after_location after_sample vertex_outcome primitives fragments_of fragments fragment_stage fragment_outcome after_outcome image effort
masked_component = refl

-- one target at two locations holds what the later one wrote
later_location : drawn v1 (Some two_outputs) (record points { output = Some (record output { attachments = Some (record { format = 1; write_mask = 1 }) ∷ Some (record { format = 1; write_mask = 1 }) ∷ replicate 6 None }) }) (record dynamic { colour = Some 0 ∷ Some 0 ∷ replicate 6 None }) (vertices 1) no_buffers (one (target 1 1 (0 ∷ []))) ≡ ((7 ∷ []) ∷ [], 7)
unfolding result entry_of first_label_place scalar_result word_from_word arithmetic bitwise comparison truth_from_truth truth_from_truths known_by known_after known_of type_of decoration_of offset_of program_of layouts_by held_layout block_offsets constant_of defined_by first_memory operation class_of read_ids result_of effect_of read_values done step start_at position_left slots_left stage is_covered is_guarded edge_value is_top_or_left is_inside is_inside_all triangle_covers input_at stored_pixel invoked vertex_inputs fragment_inputs sample_place sample_words with_sample with_target usable depth_test write_at after_location after_sample vertex_outcome primitives fragments_of fragments fragment_stage fragment_outcome after_outcome image effort
later_location = refl

-- ---- what invocations are given

-- VertexIndex 300 is x, and InstanceIndex 0 is y
vertex_300 : drawn indices (Some f1) points dynamic (record (vertices 1) { first_vertex = 300 }) no_buffers (one black) ≡ ((0 ∷ 42 ∷ 0 ∷ 0 ∷ []) ∷ [], 9)
unfolding result entry_of first_label_place scalar_result word_from_word arithmetic bitwise comparison truth_from_truth truth_from_truths known_by known_after known_of type_of decoration_of offset_of program_of layouts_by held_layout block_offsets constant_of defined_by first_memory operation class_of read_ids result_of effect_of read_values done step start_at position_left slots_left stage is_covered is_guarded edge_value is_top_or_left is_inside is_inside_all triangle_covers input_at stored_pixel invoked vertex_inputs fragment_inputs sample_place sample_words with_sample with_target usable depth_test write_at after_location after_sample vertex_outcome primitives fragments_of fragments fragment_stage fragment_outcome after_outcome image effort
vertex_300 = refl

-- InstanceIndex 255 and 256 are in two rows
instances_255_and_256 : drawn indices (Some f1) points dynamic (record (vertices 1) { first_instance = 255; instances = 2 }) no_buffers (one black) ≡ ((42 ∷ 0 ∷ 42 ∷ 0 ∷ []) ∷ [], 18)
unfolding result entry_of first_label_place scalar_result word_from_word arithmetic bitwise comparison truth_from_truth truth_from_truths known_by known_after known_of type_of decoration_of offset_of program_of layouts_by held_layout block_offsets constant_of defined_by first_memory operation class_of read_ids result_of effect_of read_values done step start_at position_left slots_left stage is_covered is_guarded edge_value is_top_or_left is_inside is_inside_all triangle_covers input_at stored_pixel invoked vertex_inputs fragment_inputs sample_place sample_words with_sample with_target usable depth_test write_at after_location after_sample vertex_outcome primitives fragments_of fragments fragment_stage fragment_outcome after_outcome image effort
instances_255_and_256 = refl

-- the attribute of vertex 1
second_vertex : drawn v2 (Some f1) read_points dynamic (record (vertices 1) { first_vertex = 1 }) (buffer (128 ∷ 128 ∷ 0 ∷ 0 ∷ 384 ∷ 128 ∷ 0 ∷ 0 ∷ [])) (one (target 2 1 (0 ∷ 0 ∷ []))) ≡ ((0 ∷ 42 ∷ []) ∷ [], 7)
unfolding result entry_of first_label_place scalar_result word_from_word arithmetic bitwise comparison truth_from_truth truth_from_truths known_by known_after known_of type_of decoration_of offset_of program_of layouts_by held_layout block_offsets constant_of defined_by first_memory operation class_of read_ids result_of effect_of read_values done step start_at position_left slots_left stage is_covered is_guarded edge_value is_top_or_left is_inside is_inside_all triangle_covers input_at stored_pixel invoked vertex_inputs fragment_inputs sample_place sample_words with_sample with_target usable depth_test write_at after_location after_sample vertex_outcome primitives fragments_of fragments fragment_stage fragment_outcome after_outcome image effort
second_vertex = refl

-- FragCoord is the pixel, the depth and 0
fragment_coordinates : drawn v2 (Some coordinates) (attached 8 15 read_points) dynamic (vertices 1) (buffer (384 ∷ 128 ∷ 5 ∷ 7 ∷ [])) (one (record (target 2 1 (replicate 8 0)) { format = 8 })) ≡ ((0 ∷ 0 ∷ 0 ∷ 0 ∷ 1 ∷ 0 ∷ 5 ∷ 0 ∷ []) ∷ [], 8)
unfolding result entry_of first_label_place scalar_result word_from_word arithmetic bitwise comparison truth_from_truth truth_from_truths known_by known_after known_of type_of decoration_of offset_of program_of layouts_by held_layout block_offsets constant_of defined_by first_memory operation class_of read_ids result_of effect_of read_values done step start_at position_left slots_left stage is_covered is_guarded edge_value is_top_or_left is_inside is_inside_all triangle_covers input_at stored_pixel invoked vertex_inputs fragment_inputs sample_place sample_words with_sample with_target usable depth_test write_at after_location after_sample vertex_outcome primitives fragments_of fragments fragment_stage fragment_outcome after_outcome image effort
fragment_coordinates = refl

-- the indices are modulo 2^32
indices_wrap : vertex_index (record (vertices 3) { first_vertex = 0xffff_ffff }) 2 ∷ instance_index (record (vertices 3) { first_instance = 0xffff_fffe }) 1 ∷ [] ≡ 1 ∷ 0xffff_ffff ∷ []
unfolding result entry_of first_label_place scalar_result word_from_word arithmetic bitwise comparison truth_from_truth truth_from_truths known_by known_after known_of type_of decoration_of offset_of program_of layouts_by held_layout block_offsets constant_of defined_by first_memory operation class_of read_ids result_of effect_of read_values done step start_at position_left slots_left stage is_covered is_guarded edge_value is_top_or_left is_inside is_inside_all triangle_covers input_at stored_pixel invoked vertex_inputs fragment_inputs sample_place sample_words with_sample with_target usable depth_test write_at after_location after_sample vertex_outcome primitives fragments_of fragments fragment_stage fragment_outcome after_outcome image effort
indices_wrap = refl
