use Rattle.std.proofs.Common.{◌≡◌, ◌≤◌, drop}
use Rattle.trace_text.specs.Numbers.{MOST, capped_onto}
use Rattle.trace_text.proofs.number.capped.Given as goal

abbrev pub invariant-loop-b : goal.invariant-loop-b
invariant-loop-b l = record {
  low : l.value ≤ MOST;
  same : capped_onto l.value (drop l.b-index l.digits) ≡ capped_onto 0 l.digits;
}
