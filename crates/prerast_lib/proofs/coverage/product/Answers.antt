use Rattle.std.proofs.Common.{◌*◌, ◌*ℤ◌, w64, lit<}
use Rattle.std.proofs.lemmas.Int.{to_z-of_z, fits_signed_mul, unsigned_abs-mul}
use Rattle.std.proofs.Math.Nat.{mul-le-mul}
use Rattle.limits.specs.declared.TheConstants.{GUARD_BAND}
use Rattle.prerast_lib.proofs.coverage.product.Goals as goal

pub returns-clause-value : goal.returns-clause-value
returns-clause-value c =
    let fits = fits_signed_mul w64 c.args.a c.args.b (2 * GUARD_BAND) (2 * GUARD_BAND) c.requires.a c.requires.b (lit< tt) in
    rw (to_z-of_z w64 c.args.a c.ranges.a, to_z-of_z w64 c.args.b c.ranges.b, to_z-of_z w64 (c.args.a *ℤ c.args.b) fits)

pub returns-clause-bound : goal.returns-clause-bound
returns-clause-bound c =
    let value = returns-clause-value c in
    rw (value, unsigned_abs-mul) (mul-le-mul c.requires.a c.requires.b)
