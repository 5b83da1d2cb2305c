-- What reading a source takes from it.
use Rattle.std.specs.Prelude.{◌≡◌, ◌⊎◌, ℕ, ◌+◌, List, length, Option}
use Rattle.std.specs.Io.KnownBytes.{Consumes, IsAtEnd}
use Rattle.limits.specs.declared.TheConstants.{TRACE_BYTES}

-- reading ended: nothing is left, or one byte more was read than a trace may have
abbrev pub EndsReading : Option (List ℕ) → List ℕ → Type 0
EndsReading left bytes = IsAtEnd left ⊎ (length bytes ≡ TRACE_BYTES + 1)

-- these bytes were read, and reading ended
pub record Reads (before after : Option (List ℕ)) (bytes : List ℕ) : Type 0 where
  pub consumed : Consumes before after bytes
  pub ended : EndsReading after bytes

-- some bytes were read so
abbrev pub ReadsSome : Option (List ℕ) → Option (List ℕ) → Type 0
ReadsSome before after = (bytes : List ℕ) × Reads before after bytes
