use Rattle.std.proofs.Common.{ℕ, ◌++◌, ap, ◌∙◌}
use Rattle.trace_model.specs.PlayText.{sample_text}
use Rattle.trace_text.specs.Printed.{between}
use Rattle.trace_text.proofs.Pieces.{piece_next}
use Rattle.trace_text.proofs.print_targets.push_pixel.Goals as goal

pub loop-number-preserved : goal.loop-number-preserved
loop-number-preserved c =
    piece_next sample_text 47 c.loop-number.number c.args.target.now.samples c.sample_size-size.result c.loop-number.rest.now
    c.cut.result.0.now c.cut.result.1.now c.loop-number.text.items c.push_between.new.text.items c.push_sample.new.text.items
    c.loop-number-test.true c.cut.ensures.front c.cut.ensures.back
    (c.in_ok-push_between.ensures ∙ ap (λ (n : ℕ). c.loop-number.text.items ++ between 47 n) c.from.ensures) c.in_ok-push_sample.ensures
    ∙ c.loop-number.invariant
