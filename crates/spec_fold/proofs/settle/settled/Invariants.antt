use Rattle.spec_fold.specs.Settles.{IsSettledBefore}
use Rattle.spec_fold.proofs.settle.settled.Given as goal

abbrev pub invariant-loop-place : goal.invariant-loop-place
invariant-loop-place l = IsSettledBefore l.values l.of.insts l.place l.scalars l.list
