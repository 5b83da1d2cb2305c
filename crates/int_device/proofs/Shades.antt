-- Invocations of a fragment shader, and what they leave.
use Rattle.std.proofs.Common.{◌≡◌, ℕ, ◌+◌, ◌*◌, ◌^◌, ◌≤◌, ◌⊎◌, Bool, true, false, cond, List, [], ◌∷◌, ◌++◌, length, refl, ap, sym, ◌∙◌, subst, arith, append-nil, zero-add}
use Rattle.std.specs.Prelude.{Option, None, Some, ◌==◌, sum, map, unwrap_or, slice_index, IfSome}
use Rattle.std.specs.Option.{option_map}
use Rattle.std.specs.List.{fold, filter, flat_map, range_with_len}
use Rattle.std.proofs.Math.Nat.{mul-le-mul_left}
use Rattle.std.proofs.lemmas.List.{map-append}
use Rattle.std.proofs.lemmas.Grind.{flat_map-append}
use Rattle.std.proofs.lemmas.List.Sums.{fold-append, sum_by-append}
use Rattle.limits.specs.declared.TheConstants.{MODULE_WORDS, BACK_EDGES}
use Rattle.spirv_model.specs.declared.module.Inst.{Inst}
use Rattle.state_model.specs.declared.TheConstants.{VIEWS}
use Rattle.state_model.specs.declared.vulkan.TheConstants.{COMPARE_OP_ALWAYS}
use Rattle.state_model.specs.declared.buffers.Buffers.{Buffers}
use Rattle.state_model.specs.declared.parts.Depth.{Depth}
use Rattle.state_model.specs.declared.parts.SpecValues.{SpecValues}
use Rattle.state_model.specs.declared.parts.FragmentPart.{FragmentPart}
use Rattle.state_model.specs.declared.parts.OutputPart.{OutputPart}
use Rattle.state_model.specs.Lawful.{IsDepth, IsFragmentPart, IsOutputPart}
use Rattle.stage_model.specs.declared.inputs.Inputs.{Inputs}
use Rattle.stage_model.specs.declared.outcome.Ended.{Ended}
use Rattle.stage_model.specs.Stage.{Outcome, stage, ended_of, enough_steps}
use Rattle.stage_model.proofs.WorkCounts.{stage_work}
use Rattle.draw_model.specs.declared.command.Dynamic.{Dynamic}
use Rattle.draw_model.specs.declared.framebuffer.Targets.{Targets}
use Rattle.draw_model.specs.Coverage.{is_covered}
use Rattle.draw_model.specs.Pixel.{has_bit}
use Rattle.draw_model.specs.Invocation.{Fragment, invoked, no_outcome, writes, fragment_inputs}
use Rattle.draw_model.specs.SampleWrites.{after_sample, samples_of}
use Rattle.draw_model.specs.WholeDraw.{layers_of, fragment_outcome, after_outcome, after_fragment, fragment_work}
use Rattle.spv_exec.specs.PreparedFor.{PreparedFor}
use Rattle.int_device.specs.SampleRules.{AreRules, bound_depth, rules_of, samples_by}
use Rattle.int_device.specs.declared.primitive.Primitive.{Primitive}
use Rattle.int_device.specs.declared.sample_rules.SampleRules.{SampleRules}
use Rattle.int_device.specs.Draws.{Shade, Draws, IsShading, given_by, fragment_by, fragments_at, fragments_in_row, fragments_in_layer, fragments_if_masked, fragments_in_layers, some_mask, fragments_by}
use Rattle.int_device.proofs.DrawRules.{samples_law}
use Rattle.int_device.proofs.Ranges.{range_from_more, filtered_more}

-- ---- invocations

ended_is : (o : Option Outcome) (e : Ended) → option_map ended_of o ≡ Some e → e ≡ ended_of (unwrap_or o no_outcome)
ended_is None e h = absurd (cc)
ended_is (Some o) e h = sym (ap (λ (r : Option Ended). unwrap_or r e) h)

pub invoked_is : (insts : List Inst) (entries : SpecValues) (buffers : Buffers) (inputs : Inputs) (e : Ended) →
    option_map ended_of (stage insts (record { entries = entries; inputs = inputs; buffers = buffers })) ≡ Some e → e ≡ ended_of (invoked insts entries buffers inputs)
unfolding invoked
invoked_is insts entries buffers inputs e h = ended_is (stage insts (record { entries = entries; inputs = inputs; buffers = buffers })) e h

few_steps : (count steps : ℕ) → count ≤ MODULE_WORDS → steps ≤ (BACK_EDGES + 1) * count → steps ≤ 2 ^ 27
few_steps count steps few h =
    let k : (BACK_EDGES + 1) * count ≤ (BACK_EDGES + 1) * MODULE_WORDS = mul-le-mul_left (BACK_EDGES + 1) few in
    omega (arith, k)

work_of : (insts : List Inst) (o : Option Outcome) → length insts ≤ MODULE_WORDS → ((p : Outcome) → o ≡ Some p → p.work ≤ enough_steps insts) → (unwrap_or o no_outcome).work ≤ 2 ^ 27
work_of insts None few h = omega arith
work_of insts (Some o) few h = few_steps (length insts) o.work few (h o refl)

-- an invocation takes few steps
pub invoked_few : (insts : List Inst) (entries : SpecValues) (buffers : Buffers) (inputs : Inputs) → length insts ≤ MODULE_WORDS → (invoked insts entries buffers inputs).work ≤ 2 ^ 27
unfolding invoked
invoked_few insts entries buffers inputs few =
    work_of insts (stage insts (record { entries = entries; inputs = inputs; buffers = buffers })) few
    (λ o is. stage_work insts (record { entries = entries; inputs = inputs; buffers = buffers }) o is)

-- ---- rules

depth_limited : (depth : Option Depth) (number : Option ℕ) → IfSome depth IsDepth → IfSome (bound_depth depth number) (λ bound. bound.depth.compare ≤ COMPARE_OP_ALWAYS)
depth_limited None number h = h
depth_limited (Some depth) None h = tt
depth_limited (Some depth) (Some number) h = h

count_limited : (samples : ℕ) → (samples ≡ 1) ⊎ (samples ≡ 2) ⊎ (samples ≡ 4) → samples ≤ 4
count_limited samples h = omega (arith, h)

pub rules_limited : (insts : List Inst) (part : FragmentPart) (output : OutputPart) (dynamic : Dynamic) → IsFragmentPart part → IsOutputPart output →
    AreRules (rules_of (record { insts = insts; part = part; output = output }) dynamic)
unfolding rules_of
rules_limited insts part output dynamic h k = record {
  samples = count_limited output.multisample.samples k.multisample.samples;
  compare = depth_limited part.depth dynamic.depth h.depth;
  logic = k.logic;
}

-- ---- one fragment

sum_one : (n : ℕ) → sum (n ∷ []) ≡ n
sum_one n = omega arith

pub fragment_told : (for : PreparedFor) (part : FragmentPart) (output : OutputPart) (dynamic : Dynamic) (buffers : Buffers) (f : Fragment) (e : Ended) → for.entries ≡ part.entries →
    option_map ended_of (stage for.words.insts (record { entries = for.entries; inputs = fragment_inputs dynamic f; buffers = buffers })) ≡ Some e →
    e ≡ ended_of (fragment_outcome (record { insts = for.words.insts; part = part; output = output }) dynamic buffers f)
unfolding fragment_outcome
fragment_told for part output dynamic buffers f e same h =
    invoked_is for.words.insts for.entries buffers (fragment_inputs dynamic f) e h
    ∙ ap (λ (entries : SpecValues). ended_of (invoked for.words.insts entries buffers (fragment_inputs dynamic f))) same

pub fragment_few : (s : Shade) (f : Fragment) → length s.stage.insts ≤ MODULE_WORDS → (fragment_outcome s.stage s.dynamic s.buffers f).work ≤ 2 ^ 27
unfolding fragment_outcome
fragment_few s f few = invoked_few s.stage.insts s.stage.part.entries s.buffers (fragment_inputs s.dynamic f) few

-- one that is ready stays so where a fragment's own is given
pub still_ready : (for after : PreparedFor) (part : FragmentPart) (output : OutputPart) (dynamic : Dynamic) (rules : SampleRules) (inputs now : Inputs) (f : Fragment) → after ≡ for →
    now ≡ given_by inputs f → IsShading for part output dynamic rules inputs → IsShading after part output dynamic rules now
still_ready for after part output dynamic rules inputs now f same own h =
    subst (λ (p : PreparedFor). IsShading p part output dynamic rules now) (sym same)
    (record {
      entries = h.entries;
      few = h.few;
      ruled = h.ruled;
      limited = h.limited;
      scissor_x = h.scissor_x;
      scissor_y = h.scissor_y;
      given = λ g. ap (λ (i : Inputs). given_by i g) own ∙ h.given g;
    })

outcome_by : (s : Shade) (before : Targets) (f : Fragment) (e : Ended) (o : Outcome) (w : Bool) → e ≡ ended_of o → writes e.kind ≡ w →
    cond w (samples_by (rules_of s.stage s.dynamic) f e.slots before) before ≡ after_outcome s.stage s.dynamic f before o
unfolding after_outcome
outcome_by s before f e o w is kind =
    let same : writes o.kind ≡ w = ap (λ (x : Ended). writes x.kind) (sym is) ∙ kind in
    rw same (by_kind w)
  where
    by_kind : (w : Bool) → cond w (samples_by (rules_of s.stage s.dynamic) f e.slots before) before
        ≡ cond w (fold (after_sample s.stage s.dynamic f o.slots) before (samples_of s.stage.output.multisample)) before
    by_kind true =
        ap (λ (x : Ended). samples_by (rules_of s.stage s.dynamic) f x.slots before) is ∙ samples_law s.stage s.dynamic f o.slots before
    by_kind false = refl

pub drawn_one : (s : Shade) (before after : Targets) (work : ℕ) (f : Fragment) (e : Ended) → e ≡ ended_of (fragment_outcome s.stage s.dynamic s.buffers f) → work ≡ e.work →
    after ≡ cond (writes e.kind) (samples_by (rules_of s.stage s.dynamic) f e.slots before) before → Draws s before after work (f ∷ [])
drawn_one s before after work f e is steps written = record {
  image = written ∙ outcome_by s before f e (fragment_outcome s.stage s.dynamic s.buffers f) (writes e.kind) is refl;
  steps = steps ∙ ap (λ (x : Ended). x.work) is ∙ sym (sum_one (fragment_outcome s.stage s.dynamic s.buffers f).work);
}

-- ---- one after another

pub draws_none : (s : Shade) (t : Targets) → Draws s t t 0 []
draws_none s t = record { image = refl; steps = refl }

pub draws_more : (s : Shade) (a b c : Targets) (w v : ℕ) (xs ys : List Fragment) → Draws s a b w xs → Draws s b c v ys → Draws s a c (w + v) (xs ++ ys)
draws_more s a b c w v xs ys h k =
    let work = λ (f : Fragment). (fragment_outcome s.stage s.dynamic s.buffers f).work in
    record {
      image = k.image ∙ ap (λ (t : Targets). fold (after_fragment s.stage s.dynamic s.buffers) t ys) h.image ∙ sym (fold-append (after_fragment s.stage s.dynamic s.buffers) a xs ys);
      steps = ap (λ (n : ℕ). n + v) h.steps ∙ ap (λ (n : ℕ). fragment_work s.stage s.dynamic s.buffers xs + n) k.steps
          ∙ sym (sum_by-append (λ (n : ℕ). n) (map work xs) (map work ys)) ∙ ap sum (sym (map-append work xs ys));
    }

-- the next ones, by a stage that is the same
pub draws_next : (s now : Shade) (a b c : Targets) (w v : ℕ) (xs ys zs : List Fragment) → now ≡ s → Draws s a b w xs → Draws now b c v ys → zs ≡ xs ++ ys → Draws s a c (w + v) zs
draws_next s now a b c w v xs ys zs same h k e =
    subst (λ (fs : List Fragment). Draws s a c (w + v) fs) (sym e) (draws_more s a b c w v xs ys h (subst (λ (of : Shade). Draws of b c v ys) same k))

-- ---- lists of fragments

chosen_map : (f : ℕ → Fragment) (x : ℕ) (b : Bool) → map f (cond b (x ∷ []) []) ≡ cond b (f x ∷ []) []
chosen_map f x true = refl
chosen_map f x false = refl

pub row_more : (p : Primitive) (left i layer y : ℕ) → fragments_in_row p left (i + 1) layer y ≡ fragments_in_row p left i layer y ++ fragments_at p layer y (left + i)
row_more p left i layer y =
    let test = λ (x : ℕ). is_covered p.topology p.corners x y in
    ap (map (fragment_by p layer y)) (filtered_more test left i)
    ∙ map-append (fragment_by p layer y) (filter test (range_with_len left i)) (cond (test (left + i)) ((left + i) ∷ []) [])
    ∙ ap (λ (fs : List Fragment). fragments_in_row p left i layer y ++ fs) (chosen_map (fragment_by p layer y) (left + i) (test (left + i)))

flat_one : {A : Type 0} (f : ℕ → List A) (n : ℕ) → flat_map f (n ∷ []) ≡ f n
flat_one f n = append-nil (f n)

pub layer_more : (p : Primitive) (left width top i layer : ℕ) →
    fragments_in_layer p left width top (i + 1) layer ≡ fragments_in_layer p left width top i layer ++ fragments_in_row p left width layer (top + i)
layer_more p left width top i layer =
    let row = fragments_in_row p left width layer in
    ap (flat_map row) (range_from_more top i)
    ∙ flat_map-append row (range_with_len top i) ((top + i) ∷ [])
    ∙ ap (λ (fs : List Fragment). fragments_in_layer p left width top i layer ++ fs) (flat_one row (top + i))

chosen_flat : {A : Type 0} (f : ℕ → List A) (n : ℕ) (b : Bool) → flat_map f (cond b (n ∷ []) []) ≡ cond b (f n) []
chosen_flat f n true = flat_one f n
chosen_flat f n false = refl

pub layers_more : (p : Primitive) (left width top height mask n : ℕ) →
    fragments_in_layers p left width top height mask (n + 1)
    ≡ fragments_in_layers p left width top height mask n ++ fragments_if_masked p left width top height mask n
layers_more p left width top height mask n =
    let layer = fragments_in_layer p left width top height in
    ap (flat_map layer) (filtered_more (has_bit mask) 0 n)
    ∙ ap (λ (m : ℕ). flat_map layer (filter (has_bit mask) (range_with_len 0 n) ++ cond (has_bit mask m) (m ∷ []) [])) (zero-add n)
    ∙ flat_map-append layer (filter (has_bit mask) (range_with_len 0 n)) (cond (has_bit mask n) (n ∷ []) [])
    ∙ ap (λ (fs : List Fragment). fragments_in_layers p left width top height mask n ++ fs) (chosen_flat layer n (has_bit mask n))

masked_layers : (mask : ℕ) (none : Bool) → (mask == 0) ≡ none → layers_of mask ≡ filter (has_bit (some_mask mask)) (range_with_len 0 VIEWS)
masked_layers mask true h = rw h refl
masked_layers mask false h = rw h refl

pub fragments_are : (p : Primitive) (dynamic : Dynamic) (mask : ℕ) →
    fragments_in_layers p (slice_index dynamic.scissor 0) (slice_index dynamic.scissor 2) (slice_index dynamic.scissor 1) (slice_index dynamic.scissor 3) (some_mask mask) VIEWS
    ≡ fragments_by p dynamic mask
unfolding fragments_by
fragments_are p dynamic mask =
    ap (flat_map (fragments_in_layer p (slice_index dynamic.scissor 0) (slice_index dynamic.scissor 2) (slice_index dynamic.scissor 1) (slice_index dynamic.scissor 3)))
    (sym (masked_layers mask (mask == 0) refl))

-- the same of a stage that is this one
pub draws_by : (s of : Shade) (before after : Targets) (work : ℕ) (p : Primitive) (mask some : ℕ) → of ≡ s → some ≡ some_mask mask →
    Draws s before after work (fragments_in_layers p (slice_index of.dynamic.scissor 0) (slice_index of.dynamic.scissor 2) (slice_index of.dynamic.scissor 1) (slice_index of.dynamic.scissor 3) some VIEWS) →
    Draws s before after work (fragments_by p s.dynamic mask)
draws_by s of before after work p mask some same masked h =
    subst (Draws s before after work)
    (ap (λ (m : ℕ). fragments_in_layers p (slice_index of.dynamic.scissor 0) (slice_index of.dynamic.scissor 2) (slice_index of.dynamic.scissor 1) (slice_index of.dynamic.scissor 3) m VIEWS) masked
    ∙ fragments_are p of.dynamic mask ∙ ap (λ (u : Shade). fragments_by p u.dynamic mask) same) h
