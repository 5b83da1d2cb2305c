-- What clauses see of a reader as a source, and of a writer as a sink.
use Rattle.std.specs.Prelude.{ℕ, List, Option}
use Rattle.gpl_edge.specs.declared.std_ends.StdSource.{StdSource}
use Rattle.gpl_edge.specs.declared.std_ends.StdSink.{StdSink}

module _ {R : Type 0} where
  -- the reader behind a source
  abbrev pub source_reader : StdSource R → R
  source_reader s = s.input

  -- how many of its reads failed
  abbrev pub read_errors : StdSource R → ℕ
  read_errors s = s.errors

  -- what its reader tells to be left, by this meaning of readers
  abbrev pub left_in : (R → Option (List ℕ)) → StdSource R → Option (List ℕ)
  left_in remaining s = remaining s.input

module _ {W : Type 0} where
  -- the writer behind a sink
  abbrev pub sink_writer : StdSink W → W
  sink_writer s = s.output

  -- how many of its writes failed, or took nothing of a piece that is not empty
  abbrev pub write_errors : StdSink W → ℕ
  write_errors s = s.errors

  -- what its writer tells to hold, by this meaning of writers
  abbrev pub held_in : (W → Option (List ℕ)) → StdSink W → Option (List ℕ)
  held_in contents s = contents s.output
