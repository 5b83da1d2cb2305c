use Rattle.std.proofs.Common.{ℕ, ◌*◌, ◌≤◌, arith}
use Rattle.std.proofs.Math.Nat.{mul-le-mul}
use Rattle.trace_text.proofs.kept_targets.target_size.Goals as goal

sizes : (l h w s k : ℕ) → l ≤ 4 → h ≤ 256 → w ≤ 256 → s ≤ 4 → k ≤ 4 → (l * h * w * s ≤ 1048576) × (l * h * w * s * k ≤ 4194304)
sizes l h w s k a b c d e =
    let p : l * h ≤ 4 * 256 = mul-le-mul a b in
    let q : l * h * w ≤ 4 * 256 * 256 = mul-le-mul p c in
    let r : l * h * w * s ≤ 4 * 256 * 256 * 4 = mul-le-mul q d in
    let t : l * h * w * s * k ≤ 4 * 256 * 256 * 4 * 4 = mul-le-mul r e in
    (omega (arith, r), omega (arith, t))

pub overflow_mul-result-2 : goal.overflow_mul-result-2
overflow_mul-result-2 c =
    let fits = sizes c.from.result c.args.line.now.height c.args.line.now.width c.from-samples.result 0 (omega arith) (omega arith) (omega arith) (omega arith) (omega arith) in
    omega (arith, fits.0)

pub overflow_mul-result-3 : goal.overflow_mul-result-3
overflow_mul-result-3 c =
    let fits = sizes c.from.result c.args.line.now.height c.args.line.now.width c.from-samples.result c.from-2.result
    (omega arith) (omega arith) (omega arith) (omega arith) (omega arith) in
    omega (arith, fits.1)

pub returns-clause-few : goal.returns-clause-few
returns-clause-few c =
    let fits = sizes c.from.result c.args.line.now.height c.args.line.now.width c.from-samples.result c.from-2.result
    (omega arith) (omega arith) (omega arith) (omega arith) (omega arith) in
    fits.1
