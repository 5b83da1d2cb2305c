use Rattle.std.proofs.Common.{◌≡◌, ◌+◌, ◌++◌, length}
use Rattle.std.specs.List.{flat_map, enumerate_from}
use Rattle.trace_text.specs.Printed.{pipe_line, pipe_lines}
use Rattle.trace_text.proofs.print_rules.push_pipes.Given as goal

-- what is printed, and the pipes that are left
abbrev pub invariant-loop-link : goal.invariant-loop-link
invariant-loop-link l = record {
  same : l.text.items ++ flat_map pipe_line (enumerate_from l.pipe l.rest) ≡ l.fn.text.items ++ pipe_lines l.links;
  place : l.pipe + length l.rest ≡ length l.links;
}

abbrev pub decreases-loop-link : goal.decreases-loop-link
decreases-loop-link l = length l.rest
