-- What clauses see of a sink over memory, and what one write makes of it.
use Rattle.std.specs.Prelude.{◌≡◌, ℕ, ◌-◌, ◌<◌, ◌⊎◌, min}
use Rattle.std.specs.Prelude.{List, [], ◌++◌, Option, Some, length, Contains}
use Rattle.basics.specs.Count.{count_after}

pub record SinkState : Type 0 where
  pub held : List ℕ
  -- the most bytes that it can hold
  pub room : ℕ
  -- the most bytes of one call
  pub piece : ℕ
  -- the numbers of the calls that fail
  pub failing : List ℕ
  pub calls : ℕ
  pub faults : ℕ

-- an empty sink that was never written to
abbrev pub new_sink : ℕ → ℕ → List ℕ → SinkState
new_sink room piece failing = record {
  held = [];
  room = room;
  piece = piece;
  failing = failing;
  calls = 0;
  faults = 0;
}

-- it tells what it holds
abbrev pub bytes_held : SinkState → Option (List ℕ)
bytes_held s = Some s.held

-- how many bytes of so many a write takes, unless it fails
abbrev pub write_len : SinkState → ℕ → ℕ
write_len s len = min s.piece (min len (s.room - length s.held))

-- The next write fails: its call is listed, or it can take nothing of a piece that is not empty.
abbrev pub WriteFails : SinkState → ℕ → Type 0
WriteFails s len = Contains s.failing s.calls ⊎ ((0 < len) × (write_len s len ≡ 0))

-- the sink after a write that took these bytes
abbrev pub after_write : SinkState → List ℕ → SinkState
after_write s bytes = record s { held = s.held ++ bytes; calls = count_after s.calls }

-- the sink after a write that failed
abbrev pub after_failed_write : SinkState → SinkState
after_failed_write s = record s { calls = count_after s.calls; faults = count_after s.faults }
