-- Each value is read back from the word into which a list was packed.
use Rattle.std.proofs.Common.{◌≡◌, ℕ, zero, suc, ◌+◌, ◌*◌, ◌/◌, ◌%◌, ◌^◌, ◌<◌, List, [], ◌∷◌, map, length, get_or, ◌∙◌, arith}
use Rattle.std.specs.List.{All}
use Rattle.std.proofs.lemmas.List.Elements.{All-head, All-tail}
use Rattle.std.proofs.lemmas.Nat.{shr-shr, shr_high, mod_low}
use Rattle.state_model.specs.Key.{packed_word}
use Rattle.state_key.specs.Unpacked.{digit}

low : (bits v p : ℕ) → v < 2 ^ bits → (v + 2 ^ bits * p) % 2 ^ bits ≡ v
low bits v p small = let turned : v + 2 ^ bits * p ≡ p * 2 ^ bits + v = omega arith in rw turned (mod_low p bits v small)

high : (bits v p : ℕ) → v < 2 ^ bits → (v + 2 ^ bits * p) / 2 ^ bits ≡ p
high bits v p small = let turned : v + 2 ^ bits * p ≡ p * 2 ^ bits + v = omega arith in rw turned (shr_high p bits v small)

first_digit : (bits v p : ℕ) → v < 2 ^ bits → digit bits (v + 2 ^ bits * p) 0 ≡ v
first_digit bits v p small =
    let none : bits * 0 ≡ 0 = omega arith in
    let whole : (v + 2 ^ bits * p) / 2 ^ 0 ≡ v + 2 ^ bits * p = omega arith in
    rw (none, whole) (low bits v p small)

later_digit : (bits v p i : ℕ) → v < 2 ^ bits → digit bits (v + 2 ^ bits * p) (suc i) ≡ digit bits p i
later_digit bits v p i small =
    let more : bits * suc i ≡ bits + bits * i = omega arith in
    rw (more, ← shr-shr (v + 2 ^ bits * p) bits (bits * i), high bits v p small)

pub digit-packed_word : {X : Type 0} (bits : ℕ) (f : X → ℕ) (xs : List X) (i : ℕ) (d : X) → All (λ x. f x < 2 ^ bits) xs → i < length xs → digit bits (packed_word bits (map f xs)) i ≡ f (get_or xs i d)
digit-packed_word bits f [] i d small within = absurd (omega arith)
digit-packed_word bits f (x ∷ xs) zero d small within =
    first_digit bits (f x) (packed_word bits (map f xs)) (All-head (λ x. f x < 2 ^ bits) x xs small)
digit-packed_word bits f (x ∷ xs) (suc i) d small within =
    later_digit bits (f x) (packed_word bits (map f xs)) i (All-head (λ x. f x < 2 ^ bits) x xs small) ∙ digit-packed_word bits f xs i d (All-tail (λ x. f x < 2 ^ bits) x xs small) (omega arith)
