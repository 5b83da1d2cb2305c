use Rattle.std.proofs.Common.{◌≡◌, ◌++◌, ◌-◌}
use Rattle.trace_model.specs.PlayText.{pieces, pixel_text}
use Rattle.trace_text.specs.Printed.{joined}
use Rattle.trace_text.proofs.print_targets.push_row.Given as goal

-- what is printed, and the pixels that are left
abbrev pub invariant-loop-x : goal.invariant-loop-x
invariant-loop-x l =
    l.text.items ++ joined (pixel_text l.target) 32 l.x (pieces (l.x-end - l.x) l.size l.rest)
    ≡ l.fn.text.items ++ joined (pixel_text l.target) 32 0 (pieces l.x-end l.size l.words)
