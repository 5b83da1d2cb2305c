use Rattle.std.proofs.Common.{◌≡◌, ℕ, zero, suc, ◌<◌, ◌^◌, ◌∙◌, ◌≢◌, ap, rules, arith, to_z, of_z, w32, ℤ, pos, negsuc, neg_ℤ, int_div, FitsSigned}
use Rattle.std.proofs.Math.Nat.{div-le_self}
use Rattle.std.proofs.lemmas.Int.{of_z-to_z}
use Rattle.std.proofs.lemmas.Bool.Decides.{nat_tests}
use Rattle.scalar_model.specs.Scalars.{divided, signed_quotient}
use Rattle.spv_ops.proofs.words.signed_quotient.Goals as goal

-- the quotient of -2^31 by -1 has the low bits that the definition takes
without_least : (a b : ℕ) → of_z w32 (int_div (to_z w32 a) (to_z w32 b)) ≡ signed_quotient a b
without_least a b = grind (arith, nat_tests)

of-neg : (n : ℕ) → of_z w32 (neg_ℤ (pos n)) < 2 ^ 32
of-neg zero = omega arith
of-neg (suc n) = omega arith

quotient_bits : (a b : ℤ) → FitsSigned w32 a → of_z w32 (int_div a b) < 2 ^ 32
quotient_bits (pos a) (pos b) f = omega (arith, div-le_self a b, f.sfits)
quotient_bits (pos a) (negsuc b) f = of-neg _
quotient_bits (negsuc a) (pos b) f = of-neg _
quotient_bits (negsuc a) (negsuc b) f = omega (arith, div-le_self (suc a) (suc b), f.sfits)

from_bits : (m : ℕ) → m < 2 ^ 32 → (x : ℤ) → x ≡ to_z w32 m → to_z w32 (of_z w32 x) ≡ to_z w32 m
from_bits m h x e = ap (λ z. to_z w32 (of_z w32 z)) e ∙ ap (to_z w32) (of_z-to_z w32 m h)

to_bits_again : (z : ℤ) → of_z w32 z < 2 ^ 32 → of_z w32 (to_z w32 (of_z w32 (to_z w32 (of_z w32 z)))) ≡ of_z w32 z
to_bits_again z h = ap (λ n. of_z w32 (to_z w32 n)) (of_z-to_z w32 _ h) ∙ of_z-to_z w32 _ h

by_nonzero : (m n r : ℕ) → n ≢ 0 → r ≡ signed_quotient m n → r ≡ divided signed_quotient m n
by_nonzero m n r h e = grind (arith, nat_tests)

pub returns : goal.returns
returns c =
    let dividend = from_bits c.args.dividend c.ranges.dividend.fits _ c.cast_signed.ensures in
    let divisor = from_bits c.args.divisor c.ranges.divisor.fits _ c.cast_signed-2.ensures in
    let fits : FitsSigned w32 (to_z w32 c.args.dividend) = search rules in
    by_nonzero c.args.dividend c.args.divisor _ c.if-divisor-eq0.false
    (rw (c.cast_unsigned.ensures, c.wrapping_div.ensures, dividend, divisor) (to_bits_again (int_div (to_z w32 c.args.dividend) (to_z w32 c.args.divisor)) (quotient_bits _ _ fits) ∙ without_least c.args.dividend c.args.divisor))
