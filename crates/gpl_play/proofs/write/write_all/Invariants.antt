use Rattle.std.proofs.Common.{◌≡◌, length}
use Rattle.gpl_play.proofs.Streams.{IsWritten}
use Rattle.gpl_play.proofs.write.write_all.Given as goal

abbrev pub invariant-loop-rest : goal.invariant-loop-rest
invariant-loop-rest g l = record {
  written : IsWritten (g.K.Sink.held l.initial.sink) (g.K.Sink.held l.sink) l.text l.rest;
  unraised : g.K.Sink.faults l.sink ≡ g.K.Sink.faults l.initial.sink;
}

abbrev pub decreases-loop-rest : goal.decreases-loop-rest
decreases-loop-rest g l = length l.rest
