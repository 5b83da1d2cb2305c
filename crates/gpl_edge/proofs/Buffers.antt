-- What a buffer has at its front after a read.
use Rattle.std.proofs.Common.{◌≡◌, ℕ, ◌+◌, ◌-◌, ◌≤◌, List, ◌++◌, length, take, drop, sym, ap, ◌∙◌, arith, take-append-drop, take_at, length-take-le}
use Rattle.std.proofs.lemmas.List.{drop-drop, take_rest}
use Rattle.gpl_edge.specs.Sources.{buffer_after}

-- the front of the buffer is the front of the bytes
buffer_after-front : (bytes buf : List ℕ) (n : ℕ) → n ≤ length bytes → take n (buffer_after buf n bytes) ≡ take n bytes
buffer_after-front bytes buf n fits = take_at (take n bytes) (drop n buf) n (length-take-le n bytes fits)

-- the front of the buffer, and then the bytes after the place moved on, are the bytes from the place on
buffer_from : (bytes buf : List ℕ) (at n : ℕ) → n ≤ length (drop at bytes)
    → drop at bytes ≡ take n (buffer_after buf n (drop at bytes)) ++ drop (at + n) bytes
buffer_from bytes buf at n fits = rw (buffer_after-front (drop at bytes) buf n fits, ← drop-drop n at bytes)
    (sym (take-append-drop n (drop at bytes)))

-- the same, where the code cuts the bytes from the place on out of a slice of them
pub buffer_gives : (bytes slice buf new : List ℕ) (at n : ℕ) → slice ≡ bytes → n ≤ length (take (length slice - at) (drop at slice))
    → new ≡ buffer_after buf n (take (length slice - at) (drop at slice))
    → drop at bytes ≡ take n new ++ drop (at + n) bytes
buffer_gives bytes slice buf new at n same fits is =
    let whole : take (length slice - at) (drop at slice) ≡ drop at bytes = take_rest slice at ∙ ap (drop at) same in
    let now : new ≡ buffer_after buf n (drop at bytes) = is ∙ ap (λ l. buffer_after buf n l) whole in
    buffer_from bytes buf at n (omega (arith, ap length whole)) ∙ ap (λ l. take n l ++ drop (at + n) bytes) (sym now)
