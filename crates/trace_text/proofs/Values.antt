-- Digits read one by one.
use Rattle.std.proofs.Common.{◌≡◌, ℕ, ◌+◌, ◌*◌, ◌^◌, ◌<◌, ◌≤◌, List, [], ◌∷◌, ◌++◌, length, drop, get_or, refl, ap, sym, ◌∙◌, arith, add-one, append_assoc, lit<, Option, None, Some}
use Rattle.std.specs.Option.{option_and_then}
use Rattle.std.proofs.Math.Nat.{pow-suc, pow-le-pow_right}
use Rattle.basics.proofs.Lists.{drop_first}
use Rattle.trace_model.specs.Text.{hex_value, hex_onto}

-- hexadecimal digits
pub hex_next : (field : List ℕ) (i value digit : ℕ) → i < length field → Some digit ≡ hex_value (get_or field i 0)
    → hex_onto (16 * value + digit) (drop (i + 1) field) ≡ hex_onto value (drop i field)
hex_next field i value digit within h =
    ap (option_and_then (λ (d : ℕ). hex_onto (16 * value + d) (drop (i + 1) field))) h ∙ ap (hex_onto value) (sym (drop_first field i within))

pub hex_none : (field : List ℕ) (i value : ℕ) → i < length field → None ≡ hex_value (get_or field i 0) → hex_onto value (drop i field) ≡ None
hex_none field i value within h =
    ap (hex_onto value) (drop_first field i within)
    ∙ ap (option_and_then (λ (d : ℕ). hex_onto (16 * value + d) (drop (i + 1) field))) (sym h)

pub hex_small : (value digit i : ℕ) → value < 16 ^ i → digit < 16 → 16 * value + digit < 16 ^ (i + 1)
hex_small value digit i low small = rw (add-one, pow-suc 16 i) (omega (arith, low, small))

pub hex_fits : (value digit i : ℕ) → value < 16 ^ i → digit < 16 → i < 8 → 16 * value + digit < 2 ^ 32
hex_fits value digit i low small within =
    let s : 16 * value + digit < 16 ^ (i + 1) = hex_small value digit i low small in
    let e : i + 1 ≤ 8 = omega arith in
    let p : 16 ^ (i + 1) ≤ 16 ^ 8 = pow-le-pow_right (lit< tt) e in
    omega (arith, s, p)
