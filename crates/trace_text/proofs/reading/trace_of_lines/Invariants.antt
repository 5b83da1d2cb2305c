use Rattle.std.proofs.Common.{◌≡◌, ◌∷◌, ◌+◌, ◌≤◌, length}
use Rattle.trace_model.specs.Reading.{body_gives, lines_give}
use Rattle.trace_model.proofs.ReadingLaws.{verdict_of}
use Rattle.trace_text.specs.Taking.{before_of}
use Rattle.trace_text.proofs.reading.trace_of_lines.Given as goal

-- what is left gives what all lines give, and there are fewer lines than 2 ^ 32
abbrev pub invariant-loop-next : goal.invariant-loop-next
invariant-loop-next l = record {
  same : lines_give verdict_of l.version l.number (before_of l.made) (l.line ∷ l.lines) ≡ body_gives verdict_of l.version l.fn.lines;
  few : l.number + length l.lines ≤ 16777220;
}

abbrev pub decreases-loop-next : goal.decreases-loop-next
decreases-loop-next l = length l.lines
