use Rattle.std.proofs.Common.{ℕ, ◌++◌, ap, ◌∙◌, arith}
use Rattle.std.specs.Prelude.{codes}
use Rattle.std.specs.List.{join_by}
use Rattle.trace_model.specs.PlayText.{pieces, pixel_text}
use Rattle.trace_text.proofs.Pieces.{line_done, piece_next}
use Rattle.trace_text.proofs.print_targets.push_row.Goals as goal

pub loop-x-preserved : goal.loop-x-preserved
loop-x-preserved c =
    piece_next (pixel_text c.args.target.now) 32 c.loop-x.x c.args.target.now.width c.pixel_size-size.result c.loop-x.rest.now
    c.cut.result.0.now c.cut.result.1.now c.loop-x.text.items c.push_between.new.text.items c.push_pixel.new.text.items
    c.loop-x-test.true c.cut.ensures.front c.cut.ensures.back c.in_ok-push_between.ensures c.in_ok-push_pixel.ensures
    ∙ c.loop-x.invariant

pub returns : goal.returns
returns c =
    let t = c.args.target.now in
    line_done (pixel_text t) 32 c.loop-x.x t.width c.pixel_size-size.result c.loop-x.rest.now c.args.words.now c.args.text.now.items
    c.loop-x.text.items c.push.new.self.items (omega (arith, c.loop-x-test.false)) c.loop-x.invariant c.in_ok-push.ensures.items
    ∙ ap (λ (size : ℕ). c.args.text.now.items ++ (join_by (pixel_text t) (codes " ") (pieces t.width size c.args.words.now) ++ codes "\n"))
    c.pixel_size-size.ensures.is
