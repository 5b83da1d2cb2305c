use Rattle.std.proofs.Common.{◌≡◌, ◌≤◌, ◌^◌, ap, sym, subst, ◌∙◌, ℕ}
use Rattle.std.specs.Prelude.{Some}
use Rattle.std.specs.Option.{option_map}
use Rattle.stage_model.specs.declared.inputs.Inputs.{Inputs}
use Rattle.stage_model.specs.declared.outcome.Ended.{Ended}
use Rattle.stage_model.specs.Stage.{stage, ended_of}
use Rattle.int_device.specs.SampleRules.{told}
use Rattle.int_device.specs.Draws.{Shade}
use Rattle.int_device.proofs.Shades.{fragment_told, fragment_few, still_ready}
use Rattle.int_device.proofs.shading.Shading.outcome.Goals as goal

pub returns-clause-is : goal.returns-clause-is
returns-clause-is c =
    let s = c.self.inside in
    rw (← c.self.view_is)
    (fragment_told s.run s.part s.output s.dynamic.now s.buffers.now (told c.args.f.now) c.run.result c.self.invariant.entries
    (subst (λ (inputs : Inputs). option_map ended_of (stage s.run.words.insts (record { entries = s.run.entries; inputs = inputs; buffers = s.buffers.now })) ≡ Some c.run.result)
    (c.give.ensures ∙ c.self.invariant.given (told c.args.f.now)) c.run.ensures.outcome))

pub returns-clause-bound : goal.returns-clause-bound
returns-clause-bound c =
    let s = c.self.inside in
    let of : Shade = record { stage = record { insts = s.run.words.insts; part = s.part; output = s.output }; dynamic = s.dynamic.now; buffers = s.buffers.now } in
    let is = fragment_told s.run s.part s.output s.dynamic.now s.buffers.now (told c.args.f.now) c.run.result c.self.invariant.entries
    (subst (λ (inputs : Inputs). option_map ended_of (stage s.run.words.insts (record { entries = s.run.entries; inputs = inputs; buffers = s.buffers.now })) ≡ Some c.run.result)
    (c.give.ensures ∙ c.self.invariant.given (told c.args.f.now)) c.run.ensures.outcome) in
    subst (λ (n : ℕ). n ≤ 2 ^ 27) (sym (ap (λ (e : Ended). e.work) is)) (fragment_few of (told c.args.f.now) c.self.invariant.few)

pub invariant_of-self : goal.invariant_of-self
invariant_of-self c =
    let s = c.self.inside in
    still_ready s.run c.run.new.self s.part s.output s.dynamic.now s.rules s.inputs c.give.new.inputs (told c.args.f.now) c.run.ensures.same c.give.ensures c.self.invariant
