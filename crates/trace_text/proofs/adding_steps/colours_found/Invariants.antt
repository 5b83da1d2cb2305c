use Rattle.std.proofs.Common.{◌≡◌, drop}
use Rattle.trace_text.specs.Steps.{colours_found}
use Rattle.trace_text.proofs.EachField.{behind}
use Rattle.trace_text.proofs.adding_steps.colours_found.Given as goal

abbrev pub invariant-loop-number : goal.invariant-loop-number
invariant-loop-number l = behind l.known (colours_found l.targets (drop l.number-index l.numbers)) ≡ colours_found l.targets l.numbers
