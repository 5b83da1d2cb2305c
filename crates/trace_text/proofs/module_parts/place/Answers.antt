use Rattle.std.proofs.Common.{ℕ, ◌*◌, ◌≤◌, arith}
use Rattle.std.proofs.Math.Nat.{mul-le-mul}
use Rattle.trace_text.proofs.module_parts.place.Goals as goal

product : (a b : ℕ) → a ≤ 4294967295 → b ≤ 4294967295 → a * b ≤ 4294967295 * 4294967295
product a b p q = mul-le-mul p q

pub returns-clause-low : goal.returns-clause-low
returns-clause-low c =
    let p : c.from-2.result * c.from-3.result ≤ 4294967295 * 4294967295 = product c.from-2.result c.from-3.result (omega arith) (omega arith) in
    omega (arith, p)
