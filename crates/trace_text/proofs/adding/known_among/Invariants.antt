use Rattle.std.proofs.Common.{◌≡◌, drop}
use Rattle.trace_text.specs.Taking.{known_among}
use Rattle.trace_text.proofs.EachField.{behind}
use Rattle.trace_text.proofs.adding.known_among.Given as goal

abbrev pub invariant-loop-number : goal.invariant-loop-number
invariant-loop-number l = behind l.known (known_among l.count (drop l.number-index l.numbers)) ≡ known_among l.count l.numbers
