-- A lawful draw gives the same image, by the same work, with the canonical form of its state.
use Rattle.std.proofs.Common.{◌≡◌, ℕ, ◌+◌, ◌<◌, Bool, true, false, cond, List, [], ◌∷◌, map, sum, refl, ap, sym, ◌∙◌, subst, arith}
use Rattle.std.proofs.Math.Path.{fun_ext}
use Rattle.std.specs.Prelude.{Option, None, Some, zero, suc, ◌==◌, ◌&&◌, ◌||◌, not, if◌then◌else◌, slice_get, slice_index, slice_index_or, replicate, IfSome, unwrap_or}
use Rattle.std.specs.Option.{option_map, option_map_or, option_and_then}
use Rattle.std.specs.List.{fold, flat_map, range_with_len}
use Rattle.std.proofs.lemmas.Option.{slice_get_within, unwrap_or-slice_get}
use Rattle.std.proofs.lemmas.Bool.Decides.{nat_tests}
use Rattle.limits.specs.declared.TheConstants.{VERTEX_BINDINGS, COMPONENTS, ATTACHMENTS, LOCATIONS}
use Rattle.spirv_model.specs.declared.module.Inst.{Inst}
use Rattle.state_model.specs.declared.vulkan.TheConstants.{LOGIC_OP_COPY}
use Rattle.state_model.specs.declared.buffers.Buffers.{Buffers}
use Rattle.state_model.specs.declared.parts.Topology.{Topology}
use Rattle.state_model.specs.declared.parts.Topology.TheVariants.{Points, Triangles}
use Rattle.state_model.specs.declared.parts.VertexBinding.{VertexBinding}
use Rattle.state_model.specs.declared.parts.Attribute.{Attribute}
use Rattle.state_model.specs.declared.parts.SpecValues.{SpecValues}
use Rattle.state_model.specs.declared.parts.VertexPart.{VertexPart}
use Rattle.state_model.specs.declared.parts.PrerastPart.{PrerastPart}
use Rattle.state_model.specs.declared.parts.FragmentPart.{FragmentPart}
use Rattle.state_model.specs.declared.parts.OutputPart.{OutputPart}
use Rattle.state_model.specs.declared.parts.State.{State}
use Rattle.state_model.specs.Lawful.{present_at, IsAttribute, IsVertexPart, IsSpecValues, IsFragmentPart, IsLawful}
use Rattle.state_model.specs.Canonical.{is_named, canonical_entries, canonical_vertex, canonical_prerast, canonical_fragment, canonical_output, without_copy, canonical}
use Rattle.stage_model.specs.Stage.{Outcome}
use Rattle.draw_model.specs.declared.command.Dynamic.{Dynamic}
use Rattle.draw_model.specs.declared.command.DrawCall.{DrawCall}
use Rattle.draw_model.specs.declared.framebuffer.Targets.{Targets}
use Rattle.draw_model.specs.Fetch.{input_at, components, attribute_component, attribute_start}
use Rattle.draw_model.specs.Pixel.{has_bit, stored_pixel, written_component, logic_result}
use Rattle.draw_model.specs.Invocation.{Fragment, writes, invoked, vertex_inputs, fragment_inputs, vertex_index, instance_index}
use Rattle.draw_model.specs.TargetWords.{sample_words, with_sample, with_target}
use Rattle.draw_model.specs.SampleWrites.{FragmentStage, Write, depth_test, write_at, with_write, after_location, after_sample, samples_of, goes_on, with_depth}
use Rattle.draw_model.specs.WholeDraw.{vertex_outcome, vertices_of, primitive_count, primitives, corners_of, is_whole, is_front, is_culled, faces_front, layers_of, first_position, first_slots, covered_in, rows_of, fragments_of, fragments, fragment_stage, fragment_outcome, after_outcome, after_fragment, image, effort, vertex_work, fragment_work}
use Rattle.draw_model.specs.LawfulDraw.{LawfulDraw, DeclaresAmong}
use Rattle.draw_model.proofs.Entries.{canonical_word, same_number}
use Rattle.draw_model.proofs.StageGiven.{SaySame, entries_same}

-- ---- entries

say_same : (ids : List ℕ) (insts : List Inst) (v : SpecValues) → IsSpecValues v → DeclaresAmong ids insts → SaySame insts (canonical_entries ids v) v
say_same ids insts v lawful among = λ id word declared. canonical_word ids v word lawful.distinct (among id word declared)

prerast_entries : (ids : List ℕ) (t : Topology) (p : PrerastPart) → (canonical_prerast ids t p).entries ≡ canonical_entries ids p.entries
prerast_entries ids Points p = refl
prerast_entries ids Triangles p = refl

-- ---- vertex bindings

present_slot : {X : Type 0} (xs : List (Option X)) (n : ℕ) (x : X) → present_at xs n ≡ Some x → slice_get xs n ≡ Some (Some x)
present_slot {X = X} xs n x h = by_slot (slice_get xs n) h
  where
    by_slot : (o : Option (Option X)) → option_and_then (λ y. y) o ≡ Some x → o ≡ Some (Some x)
    by_slot None h = absurd (cc)
    by_slot (Some o) h = ap Some h

named_by : (attributes : List (Option Attribute)) (location : ℕ) (a : Attribute) → slice_get attributes location ≡ Some (Some a) → is_named attributes a.binding ≡ true
named_by [] location a h = absurd (cc)
named_by (o ∷ attributes) zero a h =
    let e : o ≡ Some a = cc in
    rw e (rw (itself a.binding) refl)
  where
    itself : (n : ℕ) → (n == n) ≡ true
    itself n = grind (arith, nat_tests)
named_by (o ∷ attributes) (suc location) a h = rw (named_by attributes location a h) (either (option_map_or (λ b. b.binding == a.binding) o false))
  where
    either : (b : Bool) → (b || true) ≡ true
    either true = refl
    either false = refl

kept_binding : (v : VertexPart) (n : ℕ) → n < VERTEX_BINDINGS → is_named v.attributes n ≡ true → present_at (canonical_vertex v).bindings n ≡ present_at v.bindings n
kept_binding v zero low h = rw h refl
kept_binding v (suc zero) low h = rw h refl
kept_binding v (suc (suc zero)) low h = rw h refl
kept_binding v (suc (suc (suc zero))) low h = rw h refl
kept_binding v (suc (suc (suc (suc n)))) low h = absurd (omega (arith, low))

attribute_at : (v : VertexPart) → IsVertexPart v → (location : ℕ) (a : Attribute) → slice_get v.attributes location ≡ Some (Some a) → IsAttribute a
attribute_at v lawful location a h =
    let within = slice_get_within v.attributes location (Some a) h in
    let there : slice_index_or v.attributes location None ≡ Some a = sym (unwrap_or-slice_get v.attributes location None) ∙ ap (λ (o : Option (Option Attribute)). unwrap_or o None) h in
    subst (λ (o : Option Attribute). IfSome o IsAttribute) there (lawful.attributes location None within)

-- what an attribute reads, by its binding
abbrev read_by : VertexPart → Buffers → List (Option ℕ) → (vertex instance : ℕ) → Attribute → Option VertexBinding → List ℕ
read_by part buffers bound vertex instance a binding = option_map_or
    (λ (b : VertexBinding). components (attribute_component buffers (present_at bound a.binding) a (attribute_start b a vertex instance))) binding (replicate COMPONENTS 0)

input_same : (v : VertexPart) → IsVertexPart v → (buffers : Buffers) (bound : List (Option ℕ)) (location vertex instance : ℕ) →
    input_at (canonical_vertex v) buffers bound location vertex instance ≡ input_at v buffers bound location vertex instance
unfolding input_at
input_same v lawful buffers bound location vertex instance = by_attribute (present_at v.attributes location) refl
  where
    by_attribute : (o : Option Attribute) → present_at v.attributes location ≡ o →
        option_map_or (λ (a : Attribute). read_by v buffers bound vertex instance a (present_at (canonical_vertex v).bindings a.binding)) o (replicate COMPONENTS 0)
        ≡ option_map_or (λ (a : Attribute). read_by v buffers bound vertex instance a (present_at v.bindings a.binding)) o (replicate COMPONENTS 0)
    by_attribute None h = refl
    by_attribute (Some a) h =
        let there = present_slot v.attributes location a h in
        ap (read_by v buffers bound vertex instance a)
        (kept_binding v a.binding (attribute_at v lawful location a there).binding (named_by v.attributes location a there))

inputs_same : (v : VertexPart) → IsVertexPart v → (dynamic : Dynamic) (buffers : Buffers) (vertex instance : ℕ) →
    vertex_inputs (canonical_vertex v) dynamic buffers vertex instance ≡ vertex_inputs v dynamic buffers vertex instance
unfolding vertex_inputs
inputs_same v lawful dynamic buffers vertex instance =
    ap (λ (input : ℕ → List ℕ). record {
      slots = map input (range_with_len 0 LOCATIONS);
      vertex_index = vertex;
      instance_index = instance;
      frag_coord = replicate COMPONENTS 0;
      front = false;
      push = dynamic.push;
      uniforms = dynamic.uniforms;
    })
    (fun_ext (λ location. input_same v lawful buffers dynamic.vertex location vertex instance))

-- ---- vertices and fragments

vertex_same : (vs : List Inst) (ids fs_ids : List ℕ) (state : State) → IsLawful state → DeclaresAmong ids vs → (dynamic : Dynamic) (call : DrawCall) (buffers : Buffers) (instance vertex : ℕ) →
    vertex_outcome vs (canonical ids fs_ids state) dynamic call buffers instance vertex ≡ vertex_outcome vs state dynamic call buffers instance vertex
unfolding vertex_outcome canonical
vertex_same vs ids fs_ids state lawful among dynamic call buffers instance vertex =
    let v = vertex_index call vertex in
    let i = instance_index call instance in
    ap (λ (e : SpecValues). invoked vs e buffers (vertex_inputs (canonical_vertex state.vertex) dynamic buffers v i)) (prerast_entries ids state.vertex.topology state.prerast)
    ∙ ap (invoked vs (canonical_entries ids state.prerast.entries) buffers) (inputs_same state.vertex lawful.vertex dynamic buffers v i)
    ∙ entries_same vs (canonical_entries ids state.prerast.entries) state.prerast.entries buffers (vertex_inputs state.vertex dynamic buffers v i)
    (say_same ids vs state.prerast.entries lawful.prerast.entries among)

primitives_same : (vs : List Inst) (ids fs_ids : List ℕ) (state : State) → IsLawful state → DeclaresAmong ids vs → (dynamic : Dynamic) (call : DrawCall) (buffers : Buffers) →
    primitives vs (canonical ids fs_ids state) dynamic call buffers ≡ primitives vs state dynamic call buffers
unfolding primitives canonical
primitives_same vs ids fs_ids state lawful among dynamic call buffers =
    ap (λ (outcome : ℕ → ℕ → Outcome). flat_map
    (λ instance. map (λ primitive. map (outcome instance) (vertices_of state.vertex.topology primitive)) (range_with_len 0 (primitive_count state.vertex.topology call.vertices)))
    (range_with_len 0 call.instances))
    (fun_ext (λ instance. fun_ext (λ vertex. vertex_same vs ids fs_ids state lawful among dynamic call buffers instance vertex)))

front_same : (ids : List ℕ) (t : Topology) (p : PrerastPart) (corners : List (List ℕ)) → is_front t (canonical_prerast ids t p).ccw corners ≡ is_front t p.ccw corners
front_same ids Points p corners = refl
front_same ids Triangles p corners = refl

culled_same : (ids : List ℕ) (t : Topology) (p : PrerastPart) (front : Bool) → is_culled t (canonical_prerast ids t p).cull front ≡ is_culled t p.cull front
culled_same ids Points p front = refl
culled_same ids Triangles p front = refl

views_same : (ids : List ℕ) (t : Topology) (p : PrerastPart) → (canonical_prerast ids t p).view_mask ≡ p.view_mask
views_same ids Points p = refl
views_same ids Triangles p = refl

-- the fragments of a primitive by its facing, whether it is culled, and the view mask
abbrev fragments_by : State → Dynamic → List Outcome → (front culled : Bool) → ℕ → List Fragment
fragments_by state dynamic outcomes front culled mask =
    if is_whole outcomes && not culled
    then flat_map (λ layer. flat_map (λ y. map (λ x. record {
      layer = layer;
      x = x;
      y = y;
      depth = slice_index (first_position outcomes) 2;
      front = front;
      slots = first_slots outcomes;
    }) (covered_in state dynamic (corners_of outcomes) y)) (rows_of dynamic)) (layers_of mask)
    else []

fragments_are : (state : State) (dynamic : Dynamic) (outcomes : List Outcome) → fragments_of state dynamic outcomes
    ≡ fragments_by state dynamic outcomes (faces_front state outcomes) (is_culled state.vertex.topology state.prerast.cull (faces_front state outcomes)) state.prerast.view_mask
unfolding fragments_of
fragments_are state dynamic outcomes = refl

fragments_same : (ids fs_ids : List ℕ) (state : State) (dynamic : Dynamic) (outcomes : List Outcome) →
    fragments_of (canonical ids fs_ids state) dynamic outcomes ≡ fragments_of state dynamic outcomes
unfolding canonical
fragments_same ids fs_ids state dynamic outcomes =
    let t = state.vertex.topology in
    let p = state.prerast in
    let q = canonical_prerast ids t p in
    let corners = corners_of outcomes in
    fragments_are (canonical ids fs_ids state) dynamic outcomes
    ∙ ap (λ (front : Bool). fragments_by state dynamic outcomes front (is_culled t q.cull front) q.view_mask) (front_same ids t p corners)
    ∙ ap (λ (culled : Bool). fragments_by state dynamic outcomes (is_front t p.ccw corners) culled q.view_mask) (culled_same ids t p (is_front t p.ccw corners))
    ∙ ap (fragments_by state dynamic outcomes (is_front t p.ccw corners) (is_culled t p.cull (is_front t p.ccw corners))) (views_same ids t p)
    ∙ sym (fragments_are state dynamic outcomes)

all_fragments_same : (vs : List Inst) (ids fs_ids : List ℕ) (state : State) → IsLawful state → DeclaresAmong ids vs → (dynamic : Dynamic) (call : DrawCall) (buffers : Buffers) →
    fragments vs (canonical ids fs_ids state) dynamic call buffers ≡ fragments vs state dynamic call buffers
unfolding fragments
all_fragments_same vs ids fs_ids state lawful among dynamic call buffers =
    ap (λ (of : List Outcome → List Fragment). flat_map of (primitives vs (canonical ids fs_ids state) dynamic call buffers)) (fun_ext (fragments_same ids fs_ids state dynamic))
    ∙ ap (flat_map (fragments_of state dynamic)) (primitives_same vs ids fs_ids state lawful among dynamic call buffers)

-- ---- samples

component_same : (op : Option ℕ) (s d : ℕ) → written_component (without_copy op) s d ≡ written_component op s d
component_same None s d = refl
component_same (Some op) s d = by_copy (op == LOGIC_OP_COPY) refl
  where
    by_copy : (copy : Bool) → (op == LOGIC_OP_COPY) ≡ copy → written_component (cond copy None (Some op)) s d ≡ logic_result op s d
    by_copy true h = let e : LOGIC_OP_COPY ≡ op = sym (same_number op LOGIC_OP_COPY h) in subst (λ (n : ℕ). s ≡ logic_result n s d) e refl
    by_copy false h = refl

stored_same : (op : Option ℕ) (mask : ℕ) (s d : List ℕ) → stored_pixel (without_copy op) mask s d ≡ stored_pixel op mask s d
unfolding stored_pixel
stored_same op mask s d =
    ap (λ (written : ℕ → ℕ → ℕ). map (λ i. if has_bit mask i then written (slice_index s i) (slice_index d i) else slice_index d i) (range_with_len 0 COMPONENTS))
    (fun_ext (λ a. fun_ext (component_same op a)))

write_same : (op : Option ℕ) (write : Option Write) (f : Fragment) (words : List ℕ) (sample : ℕ) (targets : Targets) →
    with_write (without_copy op) write f words sample targets ≡ with_write op write f words sample targets
write_same op None f words sample targets = refl
write_same op (Some write) f words sample targets =
    ap (λ (stored : List ℕ). with_target write.number (with_sample write.target f sample stored) targets)
    (stored_same op write.attachment.write_mask words (sample_words write.target f sample))

-- a fragment stage in its canonical form
abbrev canonical_stage : List ℕ → FragmentStage → FragmentStage
canonical_stage ids stage = record { insts = stage.insts; part = canonical_fragment ids stage.part; output = canonical_output stage.output }

location_same : (ids : List ℕ) (stage : FragmentStage) (dynamic : Dynamic) (f : Fragment) (slots : List (List ℕ)) (sample : ℕ) (targets : Targets) (location : ℕ) →
    after_location (canonical_stage ids stage) dynamic f slots sample targets location ≡ after_location stage dynamic f slots sample targets location
unfolding after_location write_at
location_same ids stage dynamic f slots sample targets location =
    write_same stage.output.logic (write_at stage dynamic f targets location) f (slice_index_or slots location []) sample targets

sample_same : (ids : List ℕ) (stage : FragmentStage) (dynamic : Dynamic) (f : Fragment) (slots : List (List ℕ)) (targets : Targets) (sample : ℕ) →
    after_sample (canonical_stage ids stage) dynamic f slots targets sample ≡ after_sample stage dynamic f slots targets sample
unfolding after_sample depth_test
sample_same ids stage dynamic f slots targets sample =
    let test = depth_test stage dynamic f targets in
    ap (λ (at : Targets → ℕ → Targets). if goes_on test f sample then fold at (with_depth test f sample targets) (range_with_len 0 ATTACHMENTS) else targets)
    (fun_ext (λ now. fun_ext (location_same ids stage dynamic f slots sample now)))

outcome_same : (ids : List ℕ) (stage : FragmentStage) → IsFragmentPart stage.part → DeclaresAmong ids stage.insts → (dynamic : Dynamic) (buffers : Buffers) (f : Fragment) →
    fragment_outcome (canonical_stage ids stage) dynamic buffers f ≡ fragment_outcome stage dynamic buffers f
unfolding fragment_outcome
outcome_same ids stage lawful among dynamic buffers f =
    entries_same stage.insts (canonical_entries ids stage.part.entries) stage.part.entries buffers (fragment_inputs dynamic f)
    (say_same ids stage.insts stage.part.entries lawful.entries among)

fragment_same : (ids : List ℕ) (stage : FragmentStage) → IsFragmentPart stage.part → DeclaresAmong ids stage.insts → (dynamic : Dynamic) (buffers : Buffers) (targets : Targets) (f : Fragment) →
    after_fragment (canonical_stage ids stage) dynamic buffers targets f ≡ after_fragment stage dynamic buffers targets f
unfolding after_outcome
fragment_same ids stage lawful among dynamic buffers targets f =
    ap (after_outcome (canonical_stage ids stage) dynamic f targets) (outcome_same ids stage lawful among dynamic buffers f)
    ∙ (let outcome = fragment_outcome stage dynamic buffers f in
    ap (λ (at : Targets → ℕ → Targets). if writes outcome.kind then fold at targets (samples_of stage.output.multisample) else targets)
    (fun_ext (λ now. fun_ext (sample_same ids stage dynamic f outcome.slots now))))

-- ---- the draw

-- the stage by its three parts
abbrev stage_of : Option (List Inst) → Option FragmentPart → Option OutputPart → Option FragmentStage
stage_of fs fragment output = option_and_then (λ insts. option_and_then (λ part. option_map
    (λ output. record { insts = insts; part = part; output = output }) output) fragment) fs

stages_same : {X : Type 0} (of : FragmentStage → X) (none : X) (ids : List ℕ) →
    ((stage : FragmentStage) → IsFragmentPart stage.part → DeclaresAmong ids stage.insts → of (canonical_stage ids stage) ≡ of stage) →
    (fs : Option (List Inst)) (fragment : Option FragmentPart) (output : Option OutputPart) → IfSome fs (DeclaresAmong ids) → IfSome fragment IsFragmentPart →
    option_map_or of (stage_of fs (option_map (canonical_fragment ids) fragment) (option_map canonical_output output)) none
    ≡ option_map_or of (stage_of fs fragment output) none
stages_same of none ids same None fragment output among lawful = refl
stages_same of none ids same (Some insts) None output among lawful = refl
stages_same of none ids same (Some insts) (Some part) None among lawful = refl
stages_same of none ids same (Some insts) (Some part) (Some output) among lawful = same (record { insts = insts; part = part; output = output }) lawful among

pub image_canonical : (vs : List Inst) (fs : Option (List Inst)) (state : State) (dynamic : Dynamic) (call : DrawCall) (buffers : Buffers) (targets : Targets) →
    LawfulDraw vs fs state dynamic call buffers targets → (vs_ids fs_ids : List ℕ) → DeclaresAmong vs_ids vs → IfSome fs (DeclaresAmong fs_ids) →
    image vs fs (canonical vs_ids fs_ids state) dynamic call buffers targets ≡ image vs fs state dynamic call buffers targets
unfolding image fragment_stage canonical
image_canonical vs fs state dynamic call buffers targets lawful vs_ids fs_ids vs_among fs_among =
    ap (λ (fragments : List Fragment). option_map_or (λ (stage : FragmentStage). fold (after_fragment stage dynamic buffers) targets fragments)
    (fragment_stage fs (canonical vs_ids fs_ids state)) targets)
    (all_fragments_same vs vs_ids fs_ids state lawful.lawful vs_among dynamic call buffers)
    ∙ stages_same (λ (stage : FragmentStage). fold (after_fragment stage dynamic buffers) targets (fragments vs state dynamic call buffers)) targets fs_ids
    (λ stage part among. ap (λ (at : Targets → Fragment → Targets). fold at targets (fragments vs state dynamic call buffers))
    (fun_ext (λ now. fun_ext (fragment_same fs_ids stage part among dynamic buffers now))))
    fs state.fragment state.output fs_among lawful.lawful.fragment

pub effort_canonical : (vs : List Inst) (fs : Option (List Inst)) (state : State) (dynamic : Dynamic) (call : DrawCall) (buffers : Buffers) (targets : Targets) →
    LawfulDraw vs fs state dynamic call buffers targets → (vs_ids fs_ids : List ℕ) → DeclaresAmong vs_ids vs → IfSome fs (DeclaresAmong fs_ids) →
    effort vs fs (canonical vs_ids fs_ids state) dynamic call buffers ≡ effort vs fs state dynamic call buffers
unfolding effort fragment_stage canonical
effort_canonical vs fs state dynamic call buffers targets lawful vs_ids fs_ids vs_among fs_among =
    ap (λ (outcomes : List (List Outcome)). sum (flat_map (map (λ (outcome : Outcome). outcome.work)) outcomes)
    + option_map_or (λ (stage : FragmentStage). fragment_work stage dynamic buffers (fragments vs (canonical vs_ids fs_ids state) dynamic call buffers)) (fragment_stage fs (canonical vs_ids fs_ids state)) 0)
    (primitives_same vs vs_ids fs_ids state lawful.lawful vs_among dynamic call buffers)
    ∙ ap (λ (fragments : List Fragment). vertex_work vs state dynamic call buffers
    + option_map_or (λ (stage : FragmentStage). fragment_work stage dynamic buffers fragments) (fragment_stage fs (canonical vs_ids fs_ids state)) 0)
    (all_fragments_same vs vs_ids fs_ids state lawful.lawful vs_among dynamic call buffers)
    ∙ ap (λ (n : ℕ). vertex_work vs state dynamic call buffers + n)
    (stages_same (λ (stage : FragmentStage). fragment_work stage dynamic buffers (fragments vs state dynamic call buffers)) 0 fs_ids
    (λ stage part among. ap (λ (of : Fragment → Outcome). sum (map (λ f. (of f).work) (fragments vs state dynamic call buffers)))
    (fun_ext (outcome_same fs_ids stage part among dynamic buffers)))
    fs state.fragment state.output fs_among lawful.lawful.fragment)
