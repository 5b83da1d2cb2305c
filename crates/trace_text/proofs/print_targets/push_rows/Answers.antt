use Rattle.std.proofs.Common.{◌*◌, ◌∙◌}
use Rattle.trace_model.specs.PlayText.{row_text}
use Rattle.trace_text.proofs.Pieces.{row_of_pieces}
use Rattle.trace_text.proofs.print_targets.push_rows.Goals as goal

pub loop-preserved : goal.loop-preserved
loop-preserved c =
    row_of_pieces (row_text c.args.target.now) c.loop.counter c.row_count-rows.result (c.args.target.now.width * c.pixel_size.result)
    c.loop.rest.now c.cut.result.0.now c.cut.result.1.now c.loop.text.items c.push_row.new.text.items c.loop-test.true
    c.cut.ensures.front c.cut.ensures.back c.in_ok-push_row.ensures
    ∙ c.loop.invariant
