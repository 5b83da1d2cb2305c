use Rattle.std.proofs.Common.{◌≡◌, refl, sym, ap, ◌∙◌, subst, cond}
use Rattle.stage_model.specs.Stage.{ended_of}
use Rattle.draw_model.specs.Invocation.{writes}
use Rattle.draw_model.specs.WholeDraw.{fragment_outcome}
use Rattle.int_device.specs.declared.sample_rules.SampleRules.{SampleRules}
use Rattle.int_device.specs.SampleRules.{told, samples_by}
use Rattle.int_device.specs.Draws.{Shade, Draws}
use Rattle.std.proofs.Common.{[], ◌∷◌}
use Rattle.int_device.proofs.Shades.{drawn_one}
use Rattle.int_device.proofs.shading.Shading.shade.Goals as goal

pub returns-clause-draws : goal.returns-clause-draws
returns-clause-draws c =
    let i = c.self.inside in
    let f = told c.args.f.now in
    let e = c.outcome-ended.result in
    let of : Shade = record { stage = record { insts = i.run.words.insts; part = i.part; output = i.output }; dynamic = i.dynamic.now; buffers = i.buffers.now } in
    let same : of ≡ c.args.self.now = c.self.view_is ∙ c.outcome-ended.ensures.same in
    subst (λ (s : Shade). Draws s c.args.canvas.now c.write_outcome.new.canvas e.work (f ∷ [])) same
    (drawn_one of c.args.canvas.now c.write_outcome.new.canvas e.work f e
    (subst (λ (s : Shade). e ≡ ended_of (fragment_outcome s.stage s.dynamic s.buffers f)) (sym same) c.outcome-ended.ensures.is) refl
    (c.write_outcome.ensures ∙ ap (λ (r : SampleRules). cond (writes e.kind) (samples_by r f e.slots c.args.canvas.now) c.args.canvas.now) c.self.invariant.ruled))
