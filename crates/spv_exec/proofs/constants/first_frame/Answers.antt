use Rattle.std.proofs.Common.{ℕ, length, ap, ◌∙◌, subst, arith}
use Rattle.std.proofs.lemmas.List.{length-replicate}
use Rattle.frame_model.specs.Frame.{frame_place}
use Rattle.stage_model.specs.Program.{program_of}
use Rattle.spv_exec.specs.FirstFrames.{IsFirstFrame}
use Rattle.spv_exec.proofs.DefinedValues.{defined_none, front_here}
use Rattle.spv_exec.proofs.constants.first_frame.Goals as goal

pub loop-place-init : goal.loop-place-init
loop-place-init c =
    defined_none c.args.of.now.insts c.args.values.now c.in_ok-frame.frame.items
    (ap length c.in_ok-frame.ensures ∙ length-replicate c.frame_place.result 0 ∙ c.frame_place.ensures ∙ ap (frame_place (program_of c.args.of.now.insts)) c.count.ensures)

pub define-requires-clause-front : goal.define-requires-clause-front
define-requires-clause-front c = front_here c.args.of.now c.module-module.ensures.valid c.args.first c.loop-place.place c.requires c.loop-place-test.true

pub returns : goal.returns
returns c =
    subst (λ (n : ℕ). IsFirstFrame (program_of c.args.of.now.insts) c.args.values.now n c.loop-place.frame.items)
    {x = c.loop-place.place} {y = c.args.first} (omega (arith, c.loop-place.auto.place-end, c.loop-place-test.false)) c.loop-place.invariant.is
