-- What a read and a write do to the bytes of their ends, as far as these tell them.
use Rattle.std.specs.Prelude.{◌≡◌, ℕ, ◌<◌, List, Option, length, take}
use Rattle.std.specs.Io.KnownBytes.{Appends, Consumes, IsAtEnd, Keeps}

module _ {S : Type 0} (bytes : S → Option (List ℕ)) where
  -- the first n bytes of the buffer are the next n of the source, which has the others left
  abbrev pub GivesFront : S → S → List ℕ → ℕ → Type 0
  GivesFront old new buffer n = Consumes (bytes old) (bytes new) (take n buffer)

  -- no byte at a buffer that is not empty: none is left
  abbrev pub GivesNoneAtEnd : S → List ℕ → ℕ → Type 0
  GivesNoneAtEnd new buffer n = n ≡ 0 → 0 < length buffer → IsAtEnd (bytes new)

  -- the sink holds the first n bytes of the piece after all that it held
  abbrev pub AddsFront : S → S → List ℕ → ℕ → Type 0
  AddsFront old new piece n = Appends (bytes old) (bytes new) (take n piece)

  -- a source has left, or a sink holds, what it did
  abbrev pub KeepsBytes : S → S → Type 0
  KeepsBytes old new = Keeps (bytes old) (bytes new)
