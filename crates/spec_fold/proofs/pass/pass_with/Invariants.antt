use Rattle.spec_fold.specs.Walks.{IsWalk}
use Rattle.spec_fold.proofs.pass.pass_with.Given as goal

abbrev pub invariant-loop-place : goal.invariant-loop-place
invariant-loop-place l = IsWalk l.facts l.place l.walk
