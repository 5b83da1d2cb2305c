-- A whole draw is what its primitives make.
use Rattle.std.proofs.Common.{◌≡◌, ℕ, ◌+◌, List, refl, ap, sym, ◌∙◌, subst}
use Rattle.std.specs.Prelude.{Option, None, Some}
use Rattle.std.specs.Option.{option_map, option_map_or, option_and_then}
use Rattle.std.specs.List.{fold}
use Rattle.spirv_model.specs.declared.module.Inst.{Inst}
use Rattle.spirv_model.specs.declared.module.Words.{Words}
use Rattle.state_model.specs.declared.buffers.Buffers.{Buffers}
use Rattle.state_model.specs.declared.parts.FragmentPart.{FragmentPart}
use Rattle.state_model.specs.declared.parts.OutputPart.{OutputPart}
use Rattle.state_model.specs.declared.parts.State.{State}
use Rattle.stage_model.specs.Stage.{Outcome}
use Rattle.draw_model.specs.declared.command.Dynamic.{Dynamic}
use Rattle.draw_model.specs.declared.command.DrawCall.{DrawCall}
use Rattle.draw_model.specs.declared.framebuffer.Targets.{Targets}
use Rattle.draw_model.specs.Invocation.{Fragment}
use Rattle.draw_model.specs.SampleWrites.{FragmentStage}
use Rattle.draw_model.specs.WholeDraw.{primitive_count, primitives, fragments, fragment_stage, after_fragment, fragment_work, vertex_work, image, effort}
use Rattle.int_device.specs.Modules.{Modules, fragment_insts}
use Rattle.int_device.specs.Draws.{Shade}
use Rattle.int_device.specs.Scenes.{Scene, DrawsAll, HasDynamic, shade_of, targets_after, work_after, primitives_until}
use Rattle.int_device.proofs.DrawLaws.{all_none, no_primitives}

-- ---- the fragment stage

pub no_shader : (modules : Modules) (state : State) (dynamic : Dynamic) (buffers : Buffers) → modules.fragment ≡ None → None ≡ shade_of (fragment_insts modules) state dynamic buffers
unfolding fragment_stage
no_shader modules state dynamic buffers h = rw h refl

without_part : (fs : Option (List Inst)) (state : State) (dynamic : Dynamic) (buffers : Buffers) → state.fragment ≡ None → None ≡ shade_of fs state dynamic buffers
unfolding fragment_stage
without_part None state dynamic buffers h = refl
without_part (Some insts) state dynamic buffers h = rw h refl

pub no_part : (modules : Modules) (state : State) (dynamic : Dynamic) (buffers : Buffers) → state.fragment ≡ None → None ≡ shade_of (fragment_insts modules) state dynamic buffers
no_part modules state dynamic buffers h = without_part (fragment_insts modules) state dynamic buffers h

without_output : (fs : Option (List Inst)) (part : Option FragmentPart) (output : Option OutputPart) → output ≡ None →
    None ≡ option_and_then (λ (insts : List Inst). option_and_then (λ (part : FragmentPart). option_map
    (λ (output : OutputPart). let stage : FragmentStage = record { insts = insts; part = part; output = output } in stage) output) part) fs
without_output None part output h = refl
without_output (Some insts) None output h = refl
without_output (Some insts) (Some part) output h = rw h refl

pub no_output : (modules : Modules) (state : State) (dynamic : Dynamic) (buffers : Buffers) → state.output ≡ None → None ≡ shade_of (fragment_insts modules) state dynamic buffers
unfolding fragment_stage
no_output modules state dynamic buffers h =
    ap (option_map (λ (stage : FragmentStage). let s : Shade = record { stage = stage; dynamic = dynamic; buffers = buffers } in s))
    (without_output (fragment_insts modules) state.fragment state.output h)

pub shaded : (modules : Modules) (state : State) (dynamic : Dynamic) (buffers : Buffers) (words : Words) (part : FragmentPart) (output : OutputPart) →
    modules.fragment ≡ Some words → state.fragment ≡ Some part → state.output ≡ Some output →
    Some (record { stage = record { insts = words.insts; part = part; output = output }; dynamic = dynamic; buffers = buffers }) ≡ shade_of (fragment_insts modules) state dynamic buffers
unfolding fragment_stage
shaded modules state dynamic buffers words part output h k l = rw (h, k, l) refl

with_dynamic : (stage : Option FragmentStage) (dynamic : Dynamic) (buffers : Buffers) → HasDynamic (option_map (λ stage. record { stage = stage; dynamic = dynamic; buffers = buffers }) stage) dynamic
with_dynamic None dynamic buffers = tt
with_dynamic (Some stage) dynamic buffers = refl

pub given_dynamic : (fs : Option (List Inst)) (state : State) (dynamic : Dynamic) (buffers : Buffers) → HasDynamic (shade_of fs state dynamic buffers) dynamic
given_dynamic fs state dynamic buffers = with_dynamic (fragment_stage fs state) dynamic buffers

-- ---- primitives

abbrev all_of : Scene → List (List Outcome)
all_of s = primitives s.vs s.state s.dynamic s.call s.buffers

until_all : (s : Scene) → primitives_until s (primitive_count s.state.vertex.topology s.call.vertices) s.call.instances ≡ all_of s
unfolding primitives
until_all s = refl

counted : (s : Scene) (state : State) (call : DrawCall) (count : ℕ) → state ≡ s.state → call ≡ s.call → count ≡ primitive_count state.vertex.topology call.vertices →
    primitives_until s count call.instances ≡ all_of s
counted s state call count same alike is =
    ap (λ (n : ℕ). primitives_until s n call.instances) is
    ∙ ap (λ (u : State). primitives_until s (primitive_count u.vertex.topology call.vertices) call.instances) same
    ∙ ap (λ (c : DrawCall). primitives_until s (primitive_count s.state.vertex.topology c.vertices) c.instances) alike
    ∙ until_all s

pub draws_all : (s : Scene) (shade : Option Shade) (before after : Targets) (work : ℕ) (state : State) (call : DrawCall) (count : ℕ) → state ≡ s.state → call ≡ s.call →
    count ≡ primitive_count state.vertex.topology call.vertices → DrawsAll s shade before after work (primitives_until s count call.instances) → DrawsAll s shade before after work (all_of s)
draws_all s shade before after work state call count same alike is h = subst (DrawsAll s shade before after work) (counted s state call count same alike is) h

pub draws_none : (s : Scene) (shade : Option Shade) (t : Targets) (state : State) (call : DrawCall) (count : ℕ) → state ≡ s.state → call ≡ s.call →
    count ≡ primitive_count state.vertex.topology call.vertices → count ≡ 0 → DrawsAll s shade t t 0 (all_of s)
draws_none s shade t state call count same alike is none =
    subst (DrawsAll s shade t t 0)
    (sym (no_primitives s call.instances) ∙ ap (λ (n : ℕ). primitives_until s n call.instances) (sym none) ∙ counted s state call count same alike is)
    (all_none s shade t)

-- ---- the draw

image_by : (stage : Option FragmentStage) (dynamic : Dynamic) (buffers : Buffers) (before : Targets) (fs : List Fragment) →
    targets_after (option_map (λ stage. record { stage = stage; dynamic = dynamic; buffers = buffers }) stage) before fs
    ≡ option_map_or (λ stage. fold (after_fragment stage dynamic buffers) before fs) stage before
image_by None dynamic buffers before fs = refl
image_by (Some stage) dynamic buffers before fs = refl

work_by : (stage : Option FragmentStage) (dynamic : Dynamic) (buffers : Buffers) (fs : List Fragment) →
    work_after (option_map (λ stage. record { stage = stage; dynamic = dynamic; buffers = buffers }) stage) fs ≡ option_map_or (λ stage. fragment_work stage dynamic buffers fs) stage 0
work_by None dynamic buffers fs = refl
work_by (Some stage) dynamic buffers fs = refl

-- the fields of a draw, with its targets and its work
pub record IsDrawn (vs : List Inst) (fs : Option (List Inst)) (state : State) (dynamic : Dynamic) (call : DrawCall) (buffers : Buffers) (before after : Targets) (work : ℕ) : Type 0 where
  pub image : after ≡ image vs fs state dynamic call buffers before
  pub steps : work ≡ effort vs fs state dynamic call buffers

is_drawn : (vs : List Inst) (fs : Option (List Inst)) (state : State) (dynamic : Dynamic) (call : DrawCall) (buffers : Buffers) (before after : Targets) (work : ℕ) →
    DrawsAll (record { vs = vs; state = state; dynamic = dynamic; call = call; buffers = buffers }) (shade_of fs state dynamic buffers) before after work (primitives vs state dynamic call buffers) →
    IsDrawn vs fs state dynamic call buffers before after work
unfolding image effort fragments
is_drawn vs fs state dynamic call buffers before after work h = record {
  image = h.image ∙ image_by (fragment_stage fs state) dynamic buffers before (fragments vs state dynamic call buffers);
  steps = h.steps ∙ ap (λ (n : ℕ). vertex_work vs state dynamic call buffers + n) (work_by (fragment_stage fs state) dynamic buffers (fragments vs state dynamic call buffers));
}

scene_with : (words own : Words) (state : State) (dynamic : Dynamic) (call : DrawCall) (buffers : Buffers) (s : Scene) →
    s ≡ record { vs = words.insts; state = state; dynamic = dynamic; call = call; buffers = buffers } → words ≡ own →
    s ≡ record { vs = own.insts; state = state; dynamic = dynamic; call = call; buffers = buffers }
scene_with words own state dynamic call buffers s h same =
    h ∙ ap (λ (w : Words). let of : Scene = record { vs = w.insts; state = state; dynamic = dynamic; call = call; buffers = buffers } in of) same

pub whole : (modules : Modules) (state : State) (dynamic : Dynamic) (call : DrawCall) (buffers : Buffers) (before after : Targets) (work : ℕ)
    (words : Words) (s : Scene) (shade : Option Shade) (canvas : Targets) →
    s ≡ record { vs = words.insts; state = state; dynamic = dynamic; call = call; buffers = buffers } → words ≡ modules.vertex →
    shade ≡ shade_of (fragment_insts modules) state dynamic buffers → canvas ≡ before →
    DrawsAll s shade canvas after work (all_of s) → IsDrawn modules.vertex.insts (fragment_insts modules) state dynamic call buffers before after work
whole modules state dynamic call buffers before after work words s shade canvas same own alike there h =
    is_drawn modules.vertex.insts (fragment_insts modules) state dynamic call buffers before after work
    (subst (λ (u : Scene). DrawsAll u (shade_of (fragment_insts modules) state dynamic buffers) before after work (all_of u)) (scene_with words modules.vertex state dynamic call buffers s same own)
    (subst (λ (o : Option Shade). DrawsAll s o before after work (all_of s)) alike
    (subst (λ (t : Targets). DrawsAll s shade t after work (all_of s)) there h)))
