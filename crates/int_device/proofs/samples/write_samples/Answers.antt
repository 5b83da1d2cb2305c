use Rattle.std.proofs.Common.{◌≡◌, ℕ, sym, ap, ◌∙◌, arith}
use Rattle.std.specs.Prelude.{filter}
use Rattle.std.specs.List.{fold, range_with_len}
use Rattle.draw_model.specs.declared.framebuffer.Targets.{Targets}
use Rattle.draw_model.specs.Pixel.{has_bit}
use Rattle.int_device.specs.SampleRules.{told, sample_by, samples_by}
use Rattle.int_device.proofs.Ranges.{fold_taken, fold_left_out}
use Rattle.int_device.proofs.samples.write_samples.Goals as goal
use Rattle.int_device.proofs.samples.write_samples.Goals.{then-is_in_mask, else-is_in_mask}

pub loop-sample-preserved : goal.loop-sample-preserved
loop-sample-preserved c =
    let after = sample_by c.args.rules.now (told c.args.f.now) c.args.slots.now in
    let test = has_bit c.args.rules.now.mask in
    elim c.if-is_in_mask.branch [
      | then-is_in_mask w ↦
          w.canvas-is ∙ w.write_sample.ensures
          ∙ ap (λ (ts : Targets). after ts c.loop-sample.sample) c.loop-sample.invariant
          ∙ sym (fold_taken after c.args.canvas.now test c.loop-sample.sample (sym c.is_in_mask.ensures ∙ w.if-is_in_mask.true))
      | else-is_in_mask w ↦
          w.canvas-is ∙ c.loop-sample.invariant
          ∙ sym (fold_left_out after c.args.canvas.now test c.loop-sample.sample (sym c.is_in_mask.ensures ∙ w.if-is_in_mask.false))
    ]

pub returns : goal.returns
unfolding samples_by
returns c =
    let all : c.loop-sample.sample ≡ c.args.rules.now.samples = omega arith in
    c.loop-sample.invariant
    ∙ ap (λ (n : ℕ). fold (sample_by c.args.rules.now (told c.args.f.now) c.args.slots.now) c.args.canvas.now (filter (has_bit c.args.rules.now.mask) (range_with_len 0 n))) all
