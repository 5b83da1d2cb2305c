use Rattle.std.proofs.Common.{arith}
use Rattle.trace_text.proofs.Values.{hex_fits}
use Rattle.trace_text.proofs.numbers.hex_word.Goals as goal

pub overflow_add-value : goal.overflow_add-value
overflow_add-value c =
    omega (arith, hex_fits c.loop-b.value c.in_ok-digit.digit c.loop-b.b-index c.loop-b.invariant.small c.in_ok-digit.ensures.digit (omega arith))
