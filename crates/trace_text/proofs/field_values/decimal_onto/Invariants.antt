use Rattle.std.proofs.Common.{◌≡◌, ◌≤◌, drop}
use Rattle.trace_model.specs.Text.{decimal_onto}
use Rattle.trace_text.proofs.field_values.decimal_onto.Given as goal

abbrev pub invariant-loop-b : goal.invariant-loop-b
invariant-loop-b l = record {
  small : l.value ≤ l.limit;
  same : decimal_onto l.limit l.value (drop l.b-index l.digits) ≡ decimal_onto l.limit 0 l.digits;
}
