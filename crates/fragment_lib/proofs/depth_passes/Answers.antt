use Rattle.std.proofs.Common.{◌≡◌, ℕ, ◌<◌, ◌^◌, ◌||◌, arith, nat_eq, to_z, w32}
use Rattle.std.proofs.lemmas.Int.{ints, of_z-to_z}
use Rattle.std.proofs.lemmas.Bool.Decides.{nat_tests}
use lib.Signed.{lt_z, le_z}
use Rattle.fragment_lib.proofs.depth_passes.Goals as goal

-- at most is below or equal
le_z-split : (m n : ℕ) → m < 2 ^ 32 → n < 2 ^ 32 → le_z (to_z w32 m) (to_z w32 n) ≡ lt_z (to_z w32 m) (to_z w32 n) || nat_eq m n
le_z-split m n p q = grind (arith, ints, nat_tests)

-- at least is above or equal
le_z-split_turned : (m n : ℕ) → m < 2 ^ 32 → n < 2 ^ 32 → le_z (to_z w32 m) (to_z w32 n) ≡ lt_z (to_z w32 m) (to_z w32 n) || nat_eq n m
le_z-split_turned m n p q = grind (arith, ints, nat_tests)

pub returns-in-2 : goal.returns-in-2
returns-in-2 c = rw (c.in-2.is, c.cast_signed-new.ensures, c.cast_signed-old.ensures, of_z-to_z w32 c.args.new c.ranges.new.fits, of_z-to_z w32 c.args.old c.ranges.old.fits)

pub returns-in-3 : goal.returns-in-3
returns-in-3 c = rw (c.in-3.is, c.cast_signed-new.ensures, c.cast_signed-old.ensures, of_z-to_z w32 c.args.new c.ranges.new.fits, of_z-to_z w32 c.args.old c.ranges.old.fits) (le_z-split c.args.new c.args.old c.ranges.new.fits c.ranges.old.fits)

pub returns-in-6 : goal.returns-in-6
returns-in-6 c = rw (c.in-6.is, c.cast_signed-new.ensures, c.cast_signed-old.ensures, of_z-to_z w32 c.args.new c.ranges.new.fits, of_z-to_z w32 c.args.old c.ranges.old.fits) (le_z-split_turned c.args.old c.args.new c.ranges.old.fits c.ranges.new.fits)
