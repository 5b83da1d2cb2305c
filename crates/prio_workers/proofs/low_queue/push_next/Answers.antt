use Rattle.prio_workers.proofs.LowSteps.{pushes}
use Rattle.prio_workers.proofs.low_queue.push_next.Goals as goal

pub push_as-requires-clause-rule : goal.push_as-requires-clause-rule
push_as-requires-clause-rule g c = λ n. pushes g.J.Numbered.number _ n _ _ _ c.requires.producer c.requires.number c.requires.due
