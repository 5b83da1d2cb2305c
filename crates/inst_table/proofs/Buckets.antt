-- The exclusive or of all bytes, word by word.
use Rattle.std.proofs.Common.{◌≡◌, ℕ, zero, suc, ◌+◌, ◌*◌, ◌/◌, ◌%◌, ◌^◌, List, [], ◌∷◌, fold, flat_map, sym, refl, ap, ◌∙◌, subst, arith, pow-suc, pow-add}
use Rattle.std.specs.Int.{to_le_bytes, byte_at, bytes_low_first}
use Rattle.std.specs.Int.RustNames.{bit_xor}
use lib.Bits.{xor_zero_l, xor_zero_r, xor_assoc, xor_comm, xor_shr, xor_mod}
use mir.Syntax.{w64}
use Rattle.std.proofs.lemmas.List.Sums.{fold-append}
use Rattle.inst_table.specs.Bucket.{bucket_of}

abbrev sum_of : List ℕ → ℕ
sum_of xs = fold bit_xor 0 xs

fold_from : (a b : ℕ) (xs : List ℕ) → fold bit_xor (bit_xor a b) xs ≡ bit_xor a (fold bit_xor b xs)
fold_from a b [] = refl
fold_from a b (x ∷ xs) = ap (λ (c : ℕ). fold bit_xor c xs) (xor_assoc a b x) ∙ fold_from a (bit_xor b x) xs

pub fold-start : (a : ℕ) (xs : List ℕ) → fold bit_xor a xs ≡ bit_xor a (sum_of xs)
fold-start a xs = ap (λ (c : ℕ). fold bit_xor c xs) (sym (xor_zero_r a)) ∙ fold_from a 0 xs

-- (a + b) + (c + d) as (a + c) + (b + d)
mixed : (a b c d : ℕ) → bit_xor (bit_xor a b) (bit_xor c d) ≡ bit_xor (bit_xor a c) (bit_xor b d)
mixed a b c d = xor_assoc a b (bit_xor c d) ∙ ap (λ (x : ℕ). bit_xor a x) (sym (xor_assoc b c d) ∙ ap (λ (x : ℕ). bit_xor x d) (xor_comm b c) ∙ xor_assoc c b d) ∙ sym (xor_assoc a c (bit_xor b d))

pow_bytes : (n : ℕ) → 256 ^ n ≡ 2 ^ (8 * n)
pow_bytes zero = refl
pow_bytes (suc n) = pow-suc 256 n ∙ ap (λ (x : ℕ). x * 256) (pow_bytes n) ∙ sym (pow-add 2 (8 * n) 8) ∙ ap (λ (e : ℕ). 2 ^ e) (let e : 8 * n + 8 ≡ 8 * suc n = omega arith in e)

byte-xor : (i a b : ℕ) → byte_at i (bit_xor a b) ≡ bit_xor (byte_at i a) (byte_at i b)
byte-xor zero a b = xor_mod a b 8
byte-xor (suc i) a b = subst (λ (p : ℕ). bit_xor a b / p % 256 ≡ bit_xor (a / p % 256) (b / p % 256)) (sym (pow_bytes (suc i)))
    (ap (λ (x : ℕ). x % 256) (xor_shr a b (8 * suc i)) ∙ xor_mod (a / 2 ^ (8 * suc i)) (b / 2 ^ (8 * suc i)) 8)

bytes-xor : (k i a b : ℕ) → sum_of (bytes_low_first i k (bit_xor a b)) ≡ bit_xor (sum_of (bytes_low_first i k a)) (sum_of (bytes_low_first i k b))
bytes-xor zero i a b = sym (xor_zero_r 0)
bytes-xor (suc k) i a b =
    let step : (x : ℕ) → sum_of (bytes_low_first i (suc k) x) ≡ bit_xor (byte_at i x) (sum_of (bytes_low_first (suc i) k x)) =
    λ x. ap (λ (c : ℕ). fold bit_xor c (bytes_low_first (suc i) k x)) (xor_zero_l (byte_at i x)) ∙ fold-start (byte_at i x) (bytes_low_first (suc i) k x) in
    step (bit_xor a b) ∙ (λ j. bit_xor (byte-xor i a b j) (bytes-xor k (suc i) a b j)) ∙ mixed (byte_at i a) (byte_at i b) (sum_of (bytes_low_first (suc i) k a)) (sum_of (bytes_low_first (suc i) k b))
    ∙ sym (λ j. bit_xor (step a j) (step b j))

sum_of_word : ℕ → ℕ
sum_of_word w = sum_of (to_le_bytes w64 w)

words : (a : ℕ) (key : List ℕ) → sum_of (to_le_bytes w64 (fold bit_xor a key)) ≡ bit_xor (sum_of (to_le_bytes w64 a)) (sum_of (flat_map (to_le_bytes w64) key))
words a [] = sym (xor_zero_r (sum_of (to_le_bytes w64 a)))
words a (w ∷ ws) = words (bit_xor a w) ws ∙ ap (λ (x : ℕ). bit_xor x (sum_of (flat_map (to_le_bytes w64) ws))) (bytes-xor 8 0 a w)
    ∙ xor_assoc (sum_of (to_le_bytes w64 a)) (sum_of (to_le_bytes w64 w)) (sum_of (flat_map (to_le_bytes w64) ws))
    ∙ ap (λ (x : ℕ). bit_xor (sum_of (to_le_bytes w64 a)) x) (sym (fold-append bit_xor 0 (to_le_bytes w64 w) (flat_map (to_le_bytes w64) ws) ∙ fold-start (sum_of (to_le_bytes w64 w)) (flat_map (to_le_bytes w64) ws)))

pub bucket_by_words : (key : List ℕ) → sum_of (to_le_bytes w64 (fold bit_xor 0 key)) ≡ bucket_of key
unfolding bucket_of
bucket_by_words key = words 0 key
