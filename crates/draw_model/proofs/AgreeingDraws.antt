-- Modules that agree with a pipeline's own ones, and have no specialization constants, give the same image.
use Rattle.std.proofs.Common.{◌≡◌, ℕ, Bool, true, false, cond, List, [], ◌∷◌, map, refl, ap, sym, ◌∙◌, subst}
use Rattle.std.proofs.Math.Path.{fun_ext}
use Rattle.std.specs.Prelude.{Option, None, Some, zero, suc, ◌&&◌, not, if◌then◌else◌, is_some, slice_index, slice_index_or, replicate, unwrap_or, IfSome}
use Rattle.std.specs.Option.{option_map, option_map_or, option_and_then}
use Rattle.std.specs.List.{fold, flat_map, range_with_len}
use Rattle.limits.specs.declared.TheConstants.{LOCATIONS, COMPONENTS, ATTACHMENTS}
use Rattle.spirv_model.specs.declared.module.Inst.{Inst}
use Rattle.spirv_model.specs.declared.decoration.TheConstants.{LOCATION}
use Rattle.state_model.specs.declared.buffers.Buffers.{Buffers}
use Rattle.state_model.specs.declared.parts.SpecValues.{SpecValues}
use Rattle.state_model.specs.declared.parts.FragmentPart.{FragmentPart}
use Rattle.state_model.specs.declared.parts.OutputPart.{OutputPart}
use Rattle.state_model.specs.declared.parts.State.{State}
use Rattle.state_model.specs.Lawful.{present_at}
use Rattle.stage_model.specs.declared.inputs.Inputs.{Inputs}
use Rattle.stage_model.specs.declared.outcome.Kind.{Kind}
use Rattle.stage_model.specs.Program.{program_of}
use Rattle.stage_model.specs.Start.{Memory}
use Rattle.stage_model.specs.Machine.{State as MachineState, run}
use Rattle.stage_model.specs.Stage.{Outcome, stage, start_at, first_label, outcome_of, enough_steps, output_with, components_left, slots_left, left_by}
use Rattle.draw_model.specs.declared.command.Dynamic.{Dynamic}
use Rattle.draw_model.specs.declared.command.DrawCall.{DrawCall}
use Rattle.draw_model.specs.declared.framebuffer.Targets.{Targets}
use Rattle.draw_model.specs.Invocation.{Fragment, is_drawn, writes, invoked, no_outcome, vertex_inputs, fragment_inputs, vertex_index, instance_index}
use Rattle.draw_model.specs.TargetWords.{usable, sample_words, with_sample}
use Rattle.draw_model.specs.SampleWrites.{FragmentStage, DepthTest, Write, has_output, depth_test, goes_on, with_depth, write_at, with_write, after_location, after_sample, samples_of}
use Rattle.draw_model.specs.WholeDraw.{vertex_outcome, vertices_of, primitive_count, primitives, corners_of, is_whole, is_front, is_culled, layers_of, first_slots, covered_in, rows_of, fragments_of, fragments, fragment_stage, fragment_outcome, after_outcome, after_fragment, image}
use Rattle.draw_model.specs.LawfulDraw.{DeclaresAmong}
use Rattle.draw_model.specs.Agreement.{no_entries, HasInput, slot, AgreeVertex, AreFed, AgreeFragment, fragment_values, Agree}
use Rattle.draw_model.proofs.Pairs.{Pairs, pairs_map, pairs_each, pairs_flat, pairs_fold}
use Rattle.draw_model.proofs.StageGiven.{SaySame, entries_same, slots_same}

-- ---- entries say nothing to a module without specialization constants

says_nothing : (insts : List Inst) (a b : SpecValues) → DeclaresAmong [] insts → SaySame insts a b
says_nothing insts a b among = λ id word declared. let no : false ≡ true = among id word declared in absurd (cc)

-- ---- slots are zeros where a module has no output

zero_at : (at : ℕ) → slice_index (replicate COMPONENTS 0) at ≡ 0
zero_at zero = refl
zero_at (suc zero) = refl
zero_at (suc (suc zero)) = refl
zero_at (suc (suc (suc zero))) = refl
zero_at (suc (suc (suc (suc at)))) = refl

-- the words of each location are zeros, if these are
zeros_of : (words : ℕ → List ℕ) (location at : ℕ) → slice_index (words location) at ≡ 0 → slice_index (slot (map words (range_with_len 0 LOCATIONS)) location) at ≡ 0
zeros_of words zero at h = h
zeros_of words (suc zero) at h = h
zeros_of words (suc (suc zero)) at h = h
zeros_of words (suc (suc (suc zero))) at h = h
zeros_of words (suc (suc (suc (suc zero)))) at h = h
zeros_of words (suc (suc (suc (suc (suc zero))))) at h = h
zeros_of words (suc (suc (suc (suc (suc (suc zero)))))) at h = h
zeros_of words (suc (suc (suc (suc (suc (suc (suc zero))))))) at h = h
zeros_of words (suc (suc (suc (suc (suc (suc (suc (suc location)))))))) at h = refl

abbrev Fed : List Inst → List (List ℕ) → Type 0
Fed vs slots = (location at : ℕ) → has_output vs location ≡ false → slice_index (slot slots location) at ≡ 0

is_missing : (o : Option ℕ) → is_some o ≡ false → o ≡ None
is_missing None h = refl
is_missing (Some x) h = absurd (cc)

left_fed : (vs : List Inst) (memory : Memory) → Fed vs (slots_left (program_of vs) memory)
unfolding slots_left
left_fed vs memory = λ location at lacks.
    zeros_of (λ l. components_left (program_of vs) memory (output_with (program_of vs) LOCATION l)) location at
    (subst (λ (o : Option ℕ). slice_index (components_left (program_of vs) memory o) at ≡ 0) (sym (is_missing (output_with (program_of vs) LOCATION location) lacks)) (zero_at at))

none_fed : (vs : List Inst) → Fed vs no_outcome.slots
none_fed vs = λ location at lacks. zeros_of (λ l. replicate COMPONENTS 0) location at (zero_at at)

ended_fed : (vs : List Inst) (o : Option (Kind × MachineState)) → Fed vs (unwrap_or (option_map (outcome_of (program_of vs)) o) no_outcome).slots
ended_fed vs None = none_fed vs
ended_fed vs (Some (kind, state)) = left_fed vs (left_by kind state.memory)

invoked_fed : (vs : List Inst) (entries : SpecValues) (buffers : Buffers) (inputs : Inputs) → Fed vs (invoked vs entries buffers inputs).slots
unfolding invoked stage
invoked_fed vs entries buffers inputs = by_label (first_label vs)
  where
    by_label : (o : Option ℕ) → Fed vs (unwrap_or (option_and_then
        (λ first. option_map (outcome_of (program_of vs)) (run (enough_steps vs) (program_of vs) (start_at (program_of vs) (record { entries = entries; inputs = inputs; buffers = buffers }) first))) o) no_outcome).slots
    by_label None = none_fed vs
    by_label (Some first) = ended_fed vs (run (enough_steps vs) (program_of vs) (start_at (program_of vs) (record { entries = entries; inputs = inputs; buffers = buffers }) first))

-- ---- vertices

-- slots that are the same where they are read, the second ones being zeros where the own vertex module has no output
pub record AlikeSlots (vs fs : List Inst) (a b : List (List ℕ)) : Type 0 where
  pub read : (location : ℕ) → HasInput fs location → slot a location ≡ slot b location
  pub fed : Fed vs b

pub record AlikeOutcomes (vs fs : List Inst) (a b : Outcome) : Type 0 where
  pub kind : a.kind ≡ b.kind
  pub position : a.position ≡ b.position
  pub slots : AlikeSlots vs fs a.slots b.slots

vertex_alike : (vs fs new_vs : List Inst) (state : State) → AgreeVertex (HasInput fs) vs state.prerast.entries new_vs → DeclaresAmong [] new_vs →
    (dynamic : Dynamic) (call : DrawCall) (buffers : Buffers) (instance vertex : ℕ) →
    AlikeOutcomes vs fs (vertex_outcome new_vs state dynamic call buffers instance vertex) (vertex_outcome vs state dynamic call buffers instance vertex)
unfolding vertex_outcome
vertex_alike vs fs new_vs state agree among dynamic call buffers instance vertex =
    let inputs = vertex_inputs state.vertex dynamic buffers (vertex_index call vertex) (instance_index call instance) in
    let same = entries_same new_vs state.prerast.entries no_entries buffers inputs (says_nothing new_vs state.prerast.entries no_entries among) in
    record {
      kind = ap (λ (o : Outcome). o.kind) same ∙ agree.kind buffers inputs;
      position = ap (λ (o : Outcome). o.position) same ∙ agree.position buffers inputs;
      slots = record {
        read = λ location has. ap (λ (o : Outcome). slot o.slots location) same ∙ agree.slots buffers inputs location has;
        fed = invoked_fed vs state.prerast.entries buffers inputs;
      };
    }

primitives_alike : (vs fs new_vs : List Inst) (state : State) → AgreeVertex (HasInput fs) vs state.prerast.entries new_vs → DeclaresAmong [] new_vs →
    (dynamic : Dynamic) (call : DrawCall) (buffers : Buffers) →
    Pairs (Pairs (AlikeOutcomes vs fs)) (primitives new_vs state dynamic call buffers) (primitives vs state dynamic call buffers)
unfolding primitives
primitives_alike vs fs new_vs state agree among dynamic call buffers =
    pairs_each (Pairs (AlikeOutcomes vs fs)) _ _ (range_with_len 0 call.instances) (λ instance.
    pairs_map (Pairs (AlikeOutcomes vs fs)) _ _ (range_with_len 0 (primitive_count state.vertex.topology call.vertices)) (λ primitive.
    pairs_map (AlikeOutcomes vs fs) (vertex_outcome new_vs state dynamic call buffers instance) (vertex_outcome vs state dynamic call buffers instance)
    (vertices_of state.vertex.topology primitive) (vertex_alike vs fs new_vs state agree among dynamic call buffers instance)))

-- ---- primitives

same_corners : (vs fs : List Inst) (xs ys : List Outcome) → Pairs (AlikeOutcomes vs fs) xs ys → corners_of xs ≡ corners_of ys
same_corners vs fs [] [] h = refl
same_corners vs fs [] (y ∷ ys) h = absurd h
same_corners vs fs (x ∷ xs) [] h = absurd h
same_corners vs fs (x ∷ xs) (y ∷ ys) h =
    ap (λ (p : List ℕ). p ∷ corners_of xs) h.0.position ∙ ap (λ (ps : List (List ℕ)). y.position ∷ ps) (same_corners vs fs xs ys h.1)

same_wholeness : (vs fs : List Inst) (xs ys : List Outcome) → Pairs (AlikeOutcomes vs fs) xs ys → is_whole xs ≡ is_whole ys
same_wholeness vs fs [] [] h = refl
same_wholeness vs fs [] (y ∷ ys) h = absurd h
same_wholeness vs fs (x ∷ xs) [] h = absurd h
same_wholeness vs fs (x ∷ xs) (y ∷ ys) h =
    ap (λ (kind : Kind). is_drawn kind && is_whole xs) h.0.kind ∙ ap (λ (whole : Bool). is_drawn y.kind && whole) (same_wholeness vs fs xs ys h.1)

nothing_there : (location at : ℕ) → slice_index (slot [] location) at ≡ 0
nothing_there zero at = refl
nothing_there (suc location) at = refl

first_alike : (vs fs : List Inst) (xs ys : List Outcome) → Pairs (AlikeOutcomes vs fs) xs ys → AlikeSlots vs fs (first_slots xs) (first_slots ys)
first_alike vs fs [] [] h = record { read = λ location has. refl; fed = λ location at lacks. nothing_there location at }
first_alike vs fs [] (y ∷ ys) h = absurd h
first_alike vs fs (x ∷ xs) [] h = absurd h
first_alike vs fs (x ∷ xs) (y ∷ ys) h = h.0.slots

-- ---- fragments

pub record AlikeFragments (vs fs : List Inst) (f g : Fragment) : Type 0 where
  pub same : f ≡ record g { slots = f.slots }
  pub slots : AlikeSlots vs fs f.slots g.slots

-- the fragments of a primitive by its corners, whether it is whole, and its slots
abbrev fragments_with : State → Dynamic → (corners : List (List ℕ)) → (whole : Bool) → (slots : List (List ℕ)) → List Fragment
fragments_with state dynamic corners whole slots =
    let front = is_front state.vertex.topology state.prerast.ccw corners in
    if whole && not (is_culled state.vertex.topology state.prerast.cull front)
    then flat_map (λ layer. flat_map (λ y. map (λ x. record {
      layer = layer;
      x = x;
      y = y;
      depth = slice_index (slice_index_or corners 0 []) 2;
      front = front;
      slots = slots;
    }) (covered_in state dynamic corners y)) (rows_of dynamic)) (layers_of state.prerast.view_mask)
    else []

fragments_are : (state : State) (dynamic : Dynamic) (outcomes : List Outcome) →
    fragments_of state dynamic outcomes ≡ fragments_with state dynamic (corners_of outcomes) (is_whole outcomes) (first_slots outcomes)
unfolding fragments_of
fragments_are state dynamic outcomes = refl

with_alike : (vs fs : List Inst) (state : State) (dynamic : Dynamic) (corners : List (List ℕ)) (whole : Bool) (a b : List (List ℕ)) → AlikeSlots vs fs a b →
    Pairs (AlikeFragments vs fs) (fragments_with state dynamic corners whole a) (fragments_with state dynamic corners whole b)
with_alike vs fs state dynamic corners whole a b alike =
    by_test (whole && not (is_culled state.vertex.topology state.prerast.cull (is_front state.vertex.topology state.prerast.ccw corners)))
  where
    at : (slots : List (List ℕ)) (layer y x : ℕ) → Fragment
    at slots layer y x = record {
      layer = layer;
      x = x;
      y = y;
      depth = slice_index (slice_index_or corners 0 []) 2;
      front = is_front state.vertex.topology state.prerast.ccw corners;
      slots = slots;
    }

    by_test : (drawn : Bool) → Pairs (AlikeFragments vs fs)
        (cond drawn (flat_map (λ layer. flat_map (λ y. map (at a layer y) (covered_in state dynamic corners y)) (rows_of dynamic)) (layers_of state.prerast.view_mask)) [])
        (cond drawn (flat_map (λ layer. flat_map (λ y. map (at b layer y) (covered_in state dynamic corners y)) (rows_of dynamic)) (layers_of state.prerast.view_mask)) [])
    by_test true =
        pairs_each (AlikeFragments vs fs) _ _ (layers_of state.prerast.view_mask) (λ layer.
        pairs_each (AlikeFragments vs fs) _ _ (rows_of dynamic) (λ y.
        pairs_map (AlikeFragments vs fs) (at a layer y) (at b layer y) (covered_in state dynamic corners y) (λ x. record { same = refl; slots = alike })))
    by_test false = tt

fragments_alike : (vs fs : List Inst) (state : State) (dynamic : Dynamic) (xs ys : List Outcome) → Pairs (AlikeOutcomes vs fs) xs ys →
    Pairs (AlikeFragments vs fs) (fragments_of state dynamic xs) (fragments_of state dynamic ys)
fragments_alike vs fs state dynamic xs ys h =
    let same : fragments_of state dynamic xs ≡ fragments_with state dynamic (corners_of ys) (is_whole ys) (first_slots xs) =
    fragments_are state dynamic xs
    ∙ ap (λ (corners : List (List ℕ)). fragments_with state dynamic corners (is_whole xs) (first_slots xs)) (same_corners vs fs xs ys h)
    ∙ ap (λ (whole : Bool). fragments_with state dynamic (corners_of ys) whole (first_slots xs)) (same_wholeness vs fs xs ys h) in
    let alike = with_alike vs fs state dynamic (corners_of ys) (is_whole ys) (first_slots xs) (first_slots ys) (first_alike vs fs xs ys h) in
    let first = subst (λ (of : List Fragment). Pairs (AlikeFragments vs fs) of (fragments_with state dynamic (corners_of ys) (is_whole ys) (first_slots ys))) (sym same) alike in
    subst (λ (of : List Fragment). Pairs (AlikeFragments vs fs) (fragments_of state dynamic xs) of) (sym (fragments_are state dynamic ys)) first

-- ---- samples

-- the samples of a fragment don't depend on its slots
usable_unread : (f : Fragment) (slots : List (List ℕ)) (targets : Targets) (format samples number : ℕ) →
    usable targets format samples (record f { slots = slots }) number ≡ usable targets format samples f number
unfolding usable
usable_unread f slots targets format samples number = refl

test_unread : (stage : FragmentStage) (dynamic : Dynamic) (f : Fragment) (slots : List (List ℕ)) (targets : Targets) →
    depth_test stage dynamic (record f { slots = slots }) targets ≡ depth_test stage dynamic f targets
unfolding depth_test usable
test_unread stage dynamic f slots targets = refl

write_unread : (logic : Option ℕ) (write : Option Write) (f : Fragment) (slots : List (List ℕ)) (words : List ℕ) (sample : ℕ) (targets : Targets) →
    with_write logic write (record f { slots = slots }) words sample targets ≡ with_write logic write f words sample targets
unfolding sample_words with_sample
write_unread logic None f slots words sample targets = refl
write_unread logic (Some write) f slots words sample targets = refl

write_at_unread : (stage : FragmentStage) (dynamic : Dynamic) (f : Fragment) (slots : List (List ℕ)) (targets : Targets) (location : ℕ) →
    write_at stage dynamic (record f { slots = slots }) targets location ≡ write_at stage dynamic f targets location
unfolding write_at usable
write_at_unread stage dynamic f slots targets location = refl

location_unread : (stage : FragmentStage) (dynamic : Dynamic) (f : Fragment) (slots left : List (List ℕ)) (sample : ℕ) (targets : Targets) (location : ℕ) →
    after_location stage dynamic (record f { slots = slots }) left sample targets location ≡ after_location stage dynamic f left sample targets location
unfolding after_location
location_unread stage dynamic f slots left sample targets location =
    ap (λ (write : Option Write). with_write stage.output.logic write (record f { slots = slots }) (slice_index_or left location []) sample targets)
    (write_at_unread stage dynamic f slots targets location)
    ∙ write_unread stage.output.logic (write_at stage dynamic f targets location) f slots (slice_index_or left location []) sample targets

-- before the attachments
abbrev before_writes : Option DepthTest → Fragment → ℕ → Targets → (Targets → ℕ → Targets) → Targets
before_writes test f sample targets at = if goes_on test f sample then fold at (with_depth test f sample targets) (range_with_len 0 ATTACHMENTS) else targets

before_unread : (test : Option DepthTest) (f : Fragment) (slots : List (List ℕ)) (sample : ℕ) (targets : Targets) (at : Targets → ℕ → Targets) →
    before_writes test (record f { slots = slots }) sample targets at ≡ before_writes test f sample targets at
unfolding sample_words with_sample
before_unread None f slots sample targets at = refl
before_unread (Some test) f slots sample targets at = refl

slots_unread : (stage : FragmentStage) (dynamic : Dynamic) (f : Fragment) (slots left : List (List ℕ)) (targets : Targets) (sample : ℕ) →
    after_sample stage dynamic (record f { slots = slots }) left targets sample ≡ after_sample stage dynamic f left targets sample
unfolding after_sample
slots_unread stage dynamic f slots left targets sample =
    ap (λ (at : Targets → ℕ → Targets). before_writes (depth_test stage dynamic (record f { slots = slots }) targets) (record f { slots = slots }) sample targets at)
    (fun_ext (λ now. fun_ext (location_unread stage dynamic f slots left sample now)))
    ∙ ap (λ (test : Option DepthTest). before_writes test (record f { slots = slots }) sample targets (after_location stage dynamic f left sample)) (test_unread stage dynamic f slots targets)
    ∙ before_unread (depth_test stage dynamic f targets) f slots sample targets (after_location stage dynamic f left sample)

-- two stages with the same outputs
abbrev stage_with : FragmentPart → OutputPart → List Inst → FragmentStage
stage_with part output insts = record { insts = insts; part = part; output = output }

location_same : (part : FragmentPart) (output : OutputPart) (a b : List Inst) → ((location : ℕ) → has_output a location ≡ has_output b location) →
    (dynamic : Dynamic) (f : Fragment) (left : List (List ℕ)) (sample : ℕ) (targets : Targets) (location : ℕ) →
    after_location (stage_with part output a) dynamic f left sample targets location ≡ after_location (stage_with part output b) dynamic f left sample targets location
unfolding after_location write_at
location_same part output a b same dynamic f left sample targets location =
    ap (λ (has : Bool). with_write output.logic (if has then
    option_and_then (λ attachment. option_and_then (λ number. option_map
    (λ target. record { attachment = attachment; number = number; target = target })
    (usable targets attachment.format output.multisample.samples f number)) (present_at dynamic.colour location))
    (present_at output.attachments location)
    else None) f (slice_index_or left location []) sample targets) (same location)

sample_same : (part : FragmentPart) (output : OutputPart) (a b : List Inst) → ((location : ℕ) → has_output a location ≡ has_output b location) →
    (dynamic : Dynamic) (f : Fragment) (left : List (List ℕ)) (targets : Targets) (sample : ℕ) →
    after_sample (stage_with part output a) dynamic f left targets sample ≡ after_sample (stage_with part output b) dynamic f left targets sample
unfolding after_sample depth_test
sample_same part output a b same dynamic f left targets sample =
    let test = depth_test (stage_with part output b) dynamic f targets in
    ap (λ (at : Targets → ℕ → Targets). if goes_on test f sample then fold at (with_depth test f sample targets) (range_with_len 0 ATTACHMENTS) else targets)
    (fun_ext (λ now. fun_ext (location_same part output a b same dynamic f left sample now)))

-- ---- a fragment

abbrev written : FragmentStage → Dynamic → Fragment → Targets → Kind → List (List ℕ) → Targets
written stage dynamic f targets kind left =
    if writes kind then fold (after_sample stage dynamic f left) targets (samples_of stage.output.multisample) else targets

outcome_written : (stage : FragmentStage) (dynamic : Dynamic) (f : Fragment) (targets : Targets) (o : Outcome) → after_outcome stage dynamic f targets o ≡ written stage dynamic f targets o.kind o.slots
unfolding after_outcome
outcome_written stage dynamic f targets o = refl

written_same : (part : FragmentPart) (output : OutputPart) (a b : List Inst) → ((location : ℕ) → has_output a location ≡ has_output b location) →
    (dynamic : Dynamic) (f g : Fragment) → f ≡ record g { slots = f.slots } → (targets : Targets) (kind : Kind) (left : List (List ℕ)) →
    written (stage_with part output a) dynamic f targets kind left ≡ written (stage_with part output b) dynamic g targets kind left
written_same part output a b same dynamic f g alike targets kind left =
    ap (λ (h : Fragment). written (stage_with part output a) dynamic h targets kind left) alike
    ∙ ap (λ (at : Targets → ℕ → Targets). if writes kind then fold at targets (samples_of output.multisample) else targets)
    (fun_ext (λ now. fun_ext (λ sample. slots_unread (stage_with part output a) dynamic g f.slots left now sample ∙ sample_same part output a b same dynamic g left now sample)))

fragment_inputs_with : (dynamic : Dynamic) (g : Fragment) (slots : List (List ℕ)) → fragment_inputs dynamic (record g { slots = slots }) ≡ record (fragment_inputs dynamic g) { slots = slots }
unfolding fragment_inputs
fragment_inputs_with dynamic g slots = refl

slots_given : (dynamic : Dynamic) (g : Fragment) → (fragment_inputs dynamic g).slots ≡ g.slots
unfolding fragment_inputs
slots_given dynamic g = refl

fragment_same : (part : FragmentPart) (output : OutputPart) (vs own new : List Inst) → AgreeFragment vs own part.entries new → DeclaresAmong [] new →
    (dynamic : Dynamic) (buffers : Buffers) (targets : Targets) (f g : Fragment) → AlikeFragments vs new f g →
    after_fragment (stage_with part output new) dynamic buffers targets f ≡ after_fragment (stage_with part output own) dynamic buffers targets g
unfolding fragment_outcome
fragment_same part output vs own new agree among dynamic buffers targets f g alike =
    let inputs = fragment_inputs dynamic g in
    let given = slots_given dynamic g in
    let fed : AreFed vs inputs = subst (Fed vs) (sym given) alike.slots.fed in
    let outcome : invoked new part.entries buffers (fragment_inputs dynamic f) ≡ invoked new no_entries buffers inputs =
    entries_same new part.entries no_entries buffers (fragment_inputs dynamic f) (says_nothing new part.entries no_entries among)
    ∙ ap (invoked new no_entries buffers) (ap (fragment_inputs dynamic) alike.same ∙ fragment_inputs_with dynamic g f.slots)
    ∙ sym (slots_same new no_entries buffers inputs f.slots (λ location has. ap (λ (s : List (List ℕ)). slot s location) given ∙ sym (alike.slots.read location has))) in
    outcome_written (stage_with part output new) dynamic f targets (invoked new part.entries buffers (fragment_inputs dynamic f))
    ∙ ap (λ (kind : Kind). written (stage_with part output new) dynamic f targets kind (invoked new part.entries buffers (fragment_inputs dynamic f)).slots)
    (ap (λ (o : Outcome). o.kind) outcome ∙ agree.kind buffers inputs fed)
    ∙ ap (written (stage_with part output new) dynamic f targets (invoked own part.entries buffers inputs).kind)
    (ap (λ (o : Outcome). o.slots) outcome ∙ agree.slots buffers inputs fed)
    ∙ written_same part output new own agree.outputs dynamic f g alike.same targets (invoked own part.entries buffers inputs).kind (invoked own part.entries buffers inputs).slots
    ∙ sym (outcome_written (stage_with part output own) dynamic g targets (invoked own part.entries buffers inputs))

-- ---- the draw

abbrev image_with : Option FragmentPart → Option OutputPart → Dynamic → Buffers → Targets → List Inst → List Fragment → Targets
image_with fragment output dynamic buffers targets insts of = option_map_or
    (λ (stage : FragmentStage). fold (after_fragment stage dynamic buffers) targets of)
    (option_and_then (λ part. option_map (λ output. record { insts = insts; part = part; output = output }) output) fragment) targets

with_same : (fragment : Option FragmentPart) (output : Option OutputPart) (vs own new : List Inst) → AgreeFragment vs own (fragment_values fragment) new → DeclaresAmong [] new →
    (dynamic : Dynamic) (buffers : Buffers) (targets : Targets) (xs ys : List Fragment) → Pairs (AlikeFragments vs new) xs ys →
    image_with fragment output dynamic buffers targets new xs ≡ image_with fragment output dynamic buffers targets own ys
with_same None output vs own new agree among dynamic buffers targets xs ys h = refl
with_same (Some part) None vs own new agree among dynamic buffers targets xs ys h = refl
with_same (Some part) (Some output) vs own new agree among dynamic buffers targets xs ys h =
    pairs_fold (AlikeFragments vs new) (after_fragment (stage_with part output new) dynamic buffers) (after_fragment (stage_with part output own) dynamic buffers) xs ys targets h
    (λ now f g alike. fragment_same part output vs own new agree among dynamic buffers now f g alike)

pub image_agrees : (vs : List Inst) (fs : Option (List Inst)) (new_vs : List Inst) (new_fs : Option (List Inst)) (state : State)
    (dynamic : Dynamic) (call : DrawCall) (buffers : Buffers) (targets : Targets) →
    Agree state vs fs new_vs new_fs → DeclaresAmong [] new_vs → IfSome new_fs (DeclaresAmong []) →
    image new_vs new_fs state dynamic call buffers targets ≡ image vs fs state dynamic call buffers targets
unfolding image fragment_stage fragments
image_agrees vs None new_vs None state dynamic call buffers targets agree among fs_among = refl
image_agrees vs None new_vs (Some new_fs) state dynamic call buffers targets agree among fs_among = absurd agree
image_agrees vs (Some fs) new_vs None state dynamic call buffers targets agree among fs_among = absurd agree
image_agrees vs (Some fs) new_vs (Some new_fs) state dynamic call buffers targets agree among fs_among =
    with_same state.fragment state.output vs fs new_fs agree.1 fs_among dynamic buffers targets
    (flat_map (fragments_of state dynamic) (primitives new_vs state dynamic call buffers)) (flat_map (fragments_of state dynamic) (primitives vs state dynamic call buffers))
    (pairs_flat (Pairs (AlikeOutcomes vs new_fs)) (AlikeFragments vs new_fs) (fragments_of state dynamic) (fragments_of state dynamic)
    (primitives new_vs state dynamic call buffers) (primitives vs state dynamic call buffers)
    (primitives_alike vs new_fs new_vs state agree.0 among dynamic call buffers)
    (λ xs ys h. fragments_alike vs new_fs state dynamic xs ys h))
