use Rattle.std.proofs.Common.{List, [], refl, sym, ap, ◌∙◌, ◌≡◌, subst, Result}
use Rattle.std.specs.Prelude.{IfOk}
use Rattle.state_model.specs.declared.parts.State.{State}
use Rattle.state_model.specs.declared.rule.Rule.{Rule}
use Rattle.draw_model.specs.declared.framebuffer.Target.{Target}
use Rattle.draw_model.specs.declared.framebuffer.Targets.{Targets}
use Rattle.trace_model.specs.declared.whole.Trace.{Trace}
use Rattle.trace_model.specs.PlayText.{play_text}
use Rattle.trace_model.specs.Playing.{final_targets, refused_draws}
use Rattle.gpl_play.specs.Links.{HasObjects, AreLinks}
use Rattle.gpl_play.specs.Plays.{AreOf, AreLeftBy}
use Rattle.gpl_play.proofs.play.text_of_play.Goals as goal

pub returns : goal.returns
unfolding final_targets refused_draws
returns c =
    let i = c.trace.inside in
    let trace : Trace = record { modules = i.modules; buffers = i.buffers; libs = i.libs; pipes = i.pipes; targets = i.targets; steps = i.steps } in
    let has : HasObjects trace c.as_slice.result.now c.as_slice-2.result.now c.as_slice-3.result.now = record {
      modules_are = sym c.as_slice.ensures;
      libs_are = sym c.as_slice-2.ensures;
      pipes_are = sym c.as_slice-3.ensures;
    } in
    let of : AreOf trace (record { modules = c.as_slice-4.result.now; buffers = trace.buffers; links = c.as_slice-5.result.now }) = record {
      modules = sym c.as_slice-4.ensures;
      buffers = refl;
      links = subst (λ (links : List (Result State Rule)). AreLinks trace links) (sym c.as_slice-5.ensures.value) (c.in_ok-links.ensures trace has);
    } in
    let begins : AreLeftBy trace [] c.in_ok-bare_targets.field-0 c.new.result.items = record {
      targets_are = ap (λ (list : List Target). let of : Targets = record { list = list } in of) c.in_ok-bare_targets.ensures;
      refused_are = c.new.ensures.items;
    } in
    let left = c.in_ok-play_steps.ensures trace of (sym c.as_slice-6.ensures) begins in
    subst (λ (t : Trace). IfOk c.play_text.result (λ text. text.items ≡ play_text t)) c.trace.view_is
    (c.play_text.ensures.plays trace left.targets_are (c.as_slice-7.ensures.value ∙ left.refused_are))
