use Rattle.std.proofs.Common.{◌≡◌, ◌^◌, ◌<◌, length, drop}
use Rattle.trace_model.specs.Text.{hex_onto}
use Rattle.trace_text.proofs.numbers.hex_word.Given as goal

abbrev pub invariant-loop-b : goal.invariant-loop-b
invariant-loop-b l = record {
  eight : length l.field ≡ 8;
  small : l.value < 16 ^ l.b-index;
  same : hex_onto l.value (drop l.b-index l.field) ≡ hex_onto 0 l.field;
}
