use Rattle.std.proofs.Common.{◌≤◌, ◌*◌, arith}
use Rattle.std.proofs.Math.Nat.{mul-le-mul}
use Rattle.trace_text.proofs.print_targets.row_count.Goals as goal

pub overflow_mul-result : goal.overflow_mul-result
overflow_mul-result c =
    let layers : c.from.result ≤ 255 = omega (arith, c.from.ensures) in
    let height : c.from-2.result ≤ 4294967295 = omega (arith, c.from-2.ensures) in
    let rows : c.from.result * c.from-2.result ≤ 255 * 4294967295 = mul-le-mul layers height in
    omega (arith, rows)
