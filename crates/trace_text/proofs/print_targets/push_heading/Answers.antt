use Rattle.std.specs.Fmt.{decimal}
use Rattle.std.specs.Prelude.{codes}
use Rattle.trace_model.specs.PlayText.{format_text}
use Rattle.trace_text.proofs.PrintedLines.{named, numbered, six_fields}
use Rattle.trace_text.proofs.print_targets.push_heading.Goals as goal

pub returns : goal.returns
returns c =
    let t = c.args.target.now in
    six_fields c.args.text.now.items (codes "target") (decimal c.args.number) (format_text t.format) (decimal t.width) (decimal t.height)
    (decimal t.layers) (decimal t.samples) _ _ _ _ _ _ _ _ c.in_ok-extend_from_slice.ensures.items c.in_ok-push_number.ensures
    (named _ c.in_ok-push_field.ensures c.format_name.ensures) (numbered _ c.in_ok-push_number-2.ensures c.from.ensures)
    (numbered _ c.in_ok-push_number-3.ensures c.from-2.ensures) (numbered _ c.in_ok-push_number-4.ensures c.from-3.ensures)
    (numbered _ c.in_ok-push_number-5.ensures c.from-4.ensures) c.in_ok-push.ensures.items
