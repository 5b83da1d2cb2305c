use Rattle.prio_workers.proofs.PlainSteps.{pushes}
use Rattle.prio_workers.proofs.plain_queue.push_plain.Goals as goal

pub push_as-requires-clause-rule : goal.push_as-requires-clause-rule
push_as-requires-clause-rule g c = λ n. pushes _ n _ _ _ c.requires.due
