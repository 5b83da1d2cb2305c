use Rattle.std.proofs.Common.{◌≡◌, ◌++◌, ◌-◌}
use Rattle.trace_model.specs.PlayText.{pieces, sample_text}
use Rattle.trace_text.specs.Printed.{joined}
use Rattle.trace_text.proofs.print_targets.push_pixel.Given as goal

-- what is printed, and the samples that are left
abbrev pub invariant-loop-number : goal.invariant-loop-number
invariant-loop-number l =
    l.text.items ++ joined sample_text 47 l.number (pieces (l.number-end - l.number) l.size l.rest)
    ≡ l.fn.text.items ++ joined sample_text 47 0 (pieces l.number-end l.size l.words)
