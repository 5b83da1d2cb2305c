-- What clauses see of a source over memory, and what one read makes of it.
use Rattle.std.specs.Prelude.{ℕ, ◌++◌, List, Option, Some, length, take, drop, min, Contains}
use Rattle.basics.specs.Count.{count_after}

pub record SourceState : Type 0 where
  pub left : List ℕ
  -- the most bytes of one call
  pub piece : ℕ
  -- the numbers of the calls that fail
  pub failing : List ℕ
  pub calls : ℕ
  pub faults : ℕ

-- a source of these bytes that was never read
abbrev pub new_source : List ℕ → ℕ → List ℕ → SourceState
new_source bytes piece failing = record {
  left = bytes;
  piece = piece;
  failing = failing;
  calls = 0;
  faults = 0;
}

-- it tells what it has left
abbrev pub bytes_left : SourceState → Option (List ℕ)
bytes_left s = Some s.left

-- the next read fails
abbrev pub ReadFails : SourceState → Type 0
ReadFails s = Contains s.failing s.calls

-- how many bytes a read that succeeds puts into a buffer of this length
abbrev pub read_len : SourceState → ℕ → ℕ
read_len s room = min s.piece (min room (length s.left))

-- the source after a read that gave n bytes
abbrev pub after_read : SourceState → ℕ → SourceState
after_read s n = record s { left = drop n s.left; calls = count_after s.calls }

-- the source after a read that failed
abbrev pub after_failed_read : SourceState → SourceState
after_failed_read s = record s { calls = count_after s.calls; faults = count_after s.faults }

-- the buffer with the first n of these bytes at its front
abbrev pub buffer_after : List ℕ → ℕ → List ℕ → List ℕ
buffer_after buf n bytes = take n bytes ++ drop n buf
