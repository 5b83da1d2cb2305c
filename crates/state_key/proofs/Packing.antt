-- Values packed into a word.
use Rattle.std.proofs.Common.{◌≡◌, ℕ, ◌+◌, ◌-◌, ◌*◌, ◌^◌, ◌<◌, ◌≤◌, List, map, length, get_or, drop, arith, sym, ap, ◌∙◌, lit<, add-one}
use Rattle.std.proofs.lemmas.Nat.{pow-add, mul-add-lt}
use Rattle.std.proofs.Math.Pow.{pow_mono}
use Rattle.std.proofs.Math.Nat.{mul-le-mul_left}
use Rattle.std.proofs.Math.ListN.{drop_of_length-le}
use Rattle.std.proofs.Math.Seq.{drop-cons}
use Rattle.state_model.specs.Lawful.{IsAttachment, format_components}
use Rattle.state_model.specs.Key.{packed_word}
use Rattle.state_model.specs.declared.parts.Attachment.{Attachment}

pub packed_word-drop : {X : Type 0} (bits : ℕ) (f : X → ℕ) (xs : List X) (i : ℕ) (d : X) → i < length xs → packed_word bits (map f (drop i xs)) ≡ f (get_or xs i d) + 2 ^ bits * packed_word bits (map f (drop (i + 1) xs))
packed_word-drop bits f xs i d within = rw (drop-cons xs i d within, add-one)

pub packed_word-drop_all : {X : Type 0} (bits : ℕ) (f : X → ℕ) (xs : List X) (n : ℕ) → length xs ≡ n → packed_word bits (map f (drop n xs)) ≡ 0
packed_word-drop_all bits f xs n whole = rw (drop_of_length-le xs {i = n} (omega arith))

-- a value of so many bits below n of them makes one more
pub next_fits : (bits n word value : ℕ) → value < 2 ^ bits → word < 2 ^ (bits * n) → value + 2 ^ bits * word < 2 ^ (bits * (n + 1))
next_fits bits n word value small below =
    let more : bits * (n + 1) ≡ bits + bits * n = omega arith in
    rw (more, pow-add) (omega (arith, mul-add-lt word (2 ^ bits) value (2 ^ (bits * n)) below small))

-- and it is within the word where there is room
pub next_room : (bits n whole word value : ℕ) → value < 2 ^ bits → word < 2 ^ (bits * n) → n < whole → bits * whole ≤ 64 → value + 2 ^ bits * word < 2 ^ 64
next_room bits n whole word value small below within room =
    let next : value + 2 ^ bits * word < 2 ^ (bits * (n + 1)) = next_fits bits n word value small below in
    let digits : bits * (n + 1) ≤ bits * whole = mul-le-mul_left bits (omega arith) in
    let all : 2 ^ (bits * (n + 1)) ≤ 2 ^ 64 = pow_mono {i = bits * (n + 1)} {j = 64} (omega arith) in
    omega arith

pub write_mask_small : (a : Attachment) → IsAttachment a → a.write_mask < 2 ^ 4
write_mask_small a h =
    let few : format_components a.format ≤ 4 = omega arith in
    let bound : 2 ^ format_components a.format ≤ 2 ^ 4 = pow_mono {i = format_components a.format} {j = 4} few in
    let mask = h.write_mask in
    omega arith

-- the word holds the values from a place on
pub record Packs {X : Type 0} (bits count : ℕ) (f : X → ℕ) (xs : List X) (at word : ℕ) : Type 0 where
  pub within : at ≤ count
  pub value : word ≡ packed_word bits (map f (drop at xs))
  pub bound : word < 2 ^ (bits * (count - at))

module _ {X : Type 0} (bits count : ℕ) (f : X → ℕ) (xs : List X) (whole : length xs ≡ count) where
  pub Packs-start : Packs bits count f xs count 0
  Packs-start = record {
    within = omega arith;
    value = sym (packed_word-drop_all bits f xs count whole);
    bound = let none : bits * (count - count) ≡ 0 = none_left count in rw none (lit< tt);
  }
    where
      none_left : (n : ℕ) → bits * (n - n) ≡ 0
      none_left n = let gone : n - n ≡ 0 = omega arith in rw gone (omega arith)

  pub Packs-next : (at word value new : ℕ) (d : X) → 0 < at → Packs bits count f xs at word → value ≡ f (get_or xs (at - 1) d) → value < 2 ^ bits → new ≡ value + 2 ^ bits * word → Packs bits count f xs (at - 1) new
  Packs-next at word value new d some so_far is small made =
      let back : at - 1 + 1 ≡ at = omega arith in
      let left : count - (at - 1) ≡ count - at + 1 = omega (arith, so_far.within) in
      record {
        within = omega (arith, so_far.within);
        value = made ∙ ap (λ v. v + 2 ^ bits * word) is ∙ ap (λ w. f (get_or xs (at - 1) d) + 2 ^ bits * w) (so_far.value ∙ ap (λ i. packed_word bits (map f (drop i xs))) (sym back)) ∙ sym (packed_word-drop bits f xs (at - 1) d (omega (arith, so_far.within)));
        bound = rw (made, left) (next_fits bits (count - at) word value small so_far.bound);
      }

  pub Packs-room : (at word value : ℕ) → 0 < at → Packs bits count f xs at word → value < 2 ^ bits → bits * count ≤ 64 → value + 2 ^ bits * word < 2 ^ 64
  Packs-room at word value some so_far small room =
      next_room bits (count - at) count word value small so_far.bound (omega (arith, so_far.within)) room
