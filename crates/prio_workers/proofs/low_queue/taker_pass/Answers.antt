use Rattle.prio_workers.proofs.LowSteps.{forks}
use Rattle.prio_workers.proofs.low_queue.taker_pass.Goals as goal

pub another-requires-clause-rule : goal.another-requires-clause-rule
another-requires-clause-rule g c = forks g.J.Numbered.number _ _ _
