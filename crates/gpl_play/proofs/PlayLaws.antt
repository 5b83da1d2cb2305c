-- Single draws of lawful traces: what they are made from, and what they leave.
use Rattle.std.proofs.Common.{◌≡◌, ℕ, ◌<◌, List, [], ◌∷◌, ◌++◌, length, ap, sym, ◌∙◌, subst, append-nil, Option, None, Some, Ok}
use Rattle.std.proofs.lemmas.Option.{slice_get_within}
use Rattle.std.specs.List.{All}
use Rattle.std.specs.Option.{option_map, option_map_or}
use Rattle.std.specs.Prelude.{slice_get, false, IfSome}
use Rattle.spirv_model.specs.declared.execution_model.TheConstants.{FRAGMENT}
use Rattle.spirv_model.specs.declared.module.Inst.{Inst}
use Rattle.spirv_model.specs.declared.module.Words.{Words}
use Rattle.state_model.specs.declared.buffers.Buffers.{Buffers}
use Rattle.state_model.specs.declared.parts.FragmentPart.{FragmentPart}
use Rattle.state_model.specs.declared.parts.State.{State}
use Rattle.state_model.specs.declared.rule.Rule.{Rule}
use Rattle.state_model.specs.Link.{failed_rule}
use Rattle.state_model.specs.PipeKey.{state_if_linked}
use Rattle.draw_model.specs.declared.command.Dynamic.{Dynamic}
use Rattle.draw_model.specs.declared.command.DrawCall.{DrawCall}
use Rattle.draw_model.specs.declared.framebuffer.Targets.{Targets}
use Rattle.draw_model.specs.LawfulDraw.{LawfulDraw}
use Rattle.draw_model.specs.WholeDraw.{image}
use Rattle.trace_model.specs.declared.whole.Trace.{Trace}
use Rattle.trace_model.specs.LawfulPlay.{NamesModule, counts_of}
use Rattle.trace_model.specs.Pipes.{pipe_libraries, pipe_state, vertex_insts, fragment_insts}
use Rattle.trace_model.specs.Playing.{RecordedDraw, after_linked}
use Rattle.trace_model.proofs.LawfulDynamics.{IsDrawn, draws-lawful}
use Rattle.trace_model.proofs.LawfulPlays.{lawful-may-be-drawn}
use Rattle.gpl_play.specs.Links.{with_modules}
use Rattle.gpl_play.specs.Plays.{Drawables, AreOf, AreLeftBy, IsDraw, IsDrawOf}
use Rattle.gpl_play.proofs.LinkLaws.{middle}
use Rattle.gpl_play.proofs.DrawSteps.{one_more, refused_targets, refused_more, linked_targets, linked_more}

-- ---- what a draw leaves

pub linked_left : (trace : Trace) (front : List RecordedDraw) (drawn : RecordedDraw) (before after : Targets) (refused : List (ℕ × Rule)) (state : State)
    → state_if_linked (pipe_libraries trace drawn.pipe) ≡ Some state → AreLeftBy trace front before refused → after ≡ after_linked trace before drawn state
    → AreLeftBy trace (front ++ drawn ∷ []) after refused
linked_left trace front drawn before after refused state links left is =
    let more = one_more trace front drawn before refused left in
    record {
      targets_are = is ∙ sym (linked_targets trace drawn before state links) ∙ more.targets_are;
      refused_are =
          sym (append-nil refused)
          ∙ ap (λ (r : List (ℕ × Rule)). refused ++ r) (sym (linked_more trace drawn (length front) state links))
          ∙ more.refused_are;
    }

pub refused_left : (trace : Trace) (front : List RecordedDraw) (drawn : RecordedDraw) (targets : Targets) (refused : List (ℕ × Rule)) (number : ℕ) (rule : Rule)
    → failed_rule (pipe_libraries trace drawn.pipe) false ≡ Some rule → number ≡ length front → AreLeftBy trace front targets refused
    → AreLeftBy trace (front ++ drawn ∷ []) targets (refused ++ (number, rule) ∷ [])
refused_left trace front drawn targets refused number rule fails is left =
    let more = one_more trace front drawn targets refused left in
    record {
      targets_are = sym (refused_targets trace drawn targets rule fails) ∙ more.targets_are;
      refused_are =
          ap (λ (n : ℕ). refused ++ (n, rule) ∷ []) is
          ∙ ap (λ (r : List (ℕ × Rule)). refused ++ r) (sym (refused_more trace drawn (length front) rule fails))
          ∙ more.refused_are;
    }

-- ---- what it is made from

pub pipe_within : (objects : Drawables) (number : ℕ) (drawn : RecordedDraw) (targets : Targets) (refused : List (ℕ × Rule)) → IsDrawOf objects number drawn targets refused → drawn.pipe < length objects.links
pipe_within objects number drawn targets refused d =
    let is = middle (IsDrawn (counts_of d.trace)) d.front drawn d.rest (subst (All (IsDrawn (counts_of d.trace))) d.split (draws-lawful d.trace d.lawful)) in
    subst (λ (n : ℕ). drawn.pipe < n) (sym d.of.links.count) is.pipe

within_if : (modules : List Words) (o : Option FragmentPart) → IfSome o (λ part. NamesModule modules FRAGMENT part.«module») → IfSome o (λ part. part.«module» < length modules)
within_if modules None h = tt
within_if modules (Some part) h = slice_get_within modules part.«module» h.read h.there

pub drawable : (objects : Drawables) (number : ℕ) (drawn : RecordedDraw) (targets : Targets) (refused : List (ℕ × Rule)) (state : State) → (d : IsDrawOf objects number drawn targets refused)
    → slice_get objects.links drawn.pipe ≡ Some (Ok state) → IsDraw d.trace state drawn.dynamic drawn.call targets
unfolding pipe_state
drawable objects number drawn targets refused state d links =
    let of = d.trace in
    let is = lawful-may-be-drawn of d.lawful d.front drawn d.rest state d.split (d.of.links.each drawn.pipe (Ok state) links) in
    record {
      vertex = slice_get_within of.modules (state.prerast).«module» is.vertex.read is.vertex.there;
      fragment = within_if of.modules state.fragment is.fragment;
      lawful =
          subst (λ (t : Targets). LawfulDraw (vertex_insts of state) (fragment_insts of state) state drawn.dynamic drawn.call of.buffers t)
          (sym d.left.targets_are) is.lawful;
    }

-- ---- with these modules

same_vertex : (trace : Trace) (modules : List Words) (state : State) → trace.modules ≡ modules → vertex_insts trace state ≡ vertex_insts (with_modules modules) state
same_vertex trace modules state h = ap (λ (ms : List Words). option_map_or (λ (m : Words). m.insts) (slice_get ms (state.prerast).«module») []) h

same_fragment : (trace : Trace) (modules : List Words) (state : State) → trace.modules ≡ modules → fragment_insts trace state ≡ fragment_insts (with_modules modules) state
same_fragment trace modules state h =
    ap (λ (ms : List Words). option_map (λ (part : FragmentPart). option_map_or (λ (m : Words). m.insts) (slice_get ms part.«module») []) state.fragment) h

pub vertex_is : (modules : List Words) (state : State) (shader : Words) → slice_get modules (state.prerast).«module» ≡ Some shader → vertex_insts (with_modules modules) state ≡ shader.insts
vertex_is modules state shader h = ap (λ (o : Option Words). option_map_or (λ (m : Words). m.insts) o []) h

pub drawn_lawful : (trace : Trace) (objects : Drawables) (state : State) (dynamic : Dynamic) (call : DrawCall) (targets : Targets) (vs : List Inst) (fs : Option (List Inst)) → AreOf trace objects
    → vertex_insts (with_modules objects.modules) state ≡ vs → fs ≡ fragment_insts (with_modules objects.modules) state → IsDraw trace state dynamic call targets
    → LawfulDraw vs fs state dynamic call objects.buffers targets
drawn_lawful trace objects state dynamic call targets vs fs of first second is =
    subst (λ (insts : List Inst). LawfulDraw insts fs state dynamic call objects.buffers targets) (same_vertex trace objects.modules state of.modules ∙ first)
    (subst (λ (insts : Option (List Inst)). LawfulDraw (vertex_insts trace state) insts state dynamic call objects.buffers targets) (same_fragment trace objects.modules state of.modules ∙ sym second)
    (subst (λ (bound : Buffers). LawfulDraw (vertex_insts trace state) (fragment_insts trace state) state dynamic call bound targets) of.buffers is.lawful))

pub drawn_image : (trace : Trace) (objects : Drawables) (state : State) (drawn : RecordedDraw) (before after : Targets) (vs : List Inst) (fs : Option (List Inst)) → AreOf trace objects
    → vertex_insts (with_modules objects.modules) state ≡ vs → fs ≡ fragment_insts (with_modules objects.modules) state → after ≡ image vs fs state drawn.dynamic drawn.call objects.buffers before
    → after ≡ after_linked trace before drawn state
unfolding after_linked
drawn_image trace objects state drawn before after vs fs of first second is =
    is
    ∙ ap (λ (insts : List Inst). image insts fs state drawn.dynamic drawn.call objects.buffers before) (sym (same_vertex trace objects.modules state of.modules ∙ first))
    ∙ ap (λ (insts : Option (List Inst)). image (vertex_insts trace state) insts state drawn.dynamic drawn.call objects.buffers before) (second ∙ sym (same_fragment trace objects.modules state of.modules))
    ∙ ap (λ (bound : Buffers). image (vertex_insts trace state) (fragment_insts trace state) state drawn.dynamic drawn.call bound before) (sym of.buffers)
