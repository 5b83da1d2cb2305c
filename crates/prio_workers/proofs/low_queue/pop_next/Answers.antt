use Rattle.prio_workers.proofs.LowSteps.{pops}
use Rattle.prio_workers.proofs.low_queue.pop_next.Goals as goal

pub pop_as-requires-clause-rule : goal.pop_as-requires-clause-rule
pop_as-requires-clause-rule g c = (pops g.J.Numbered.number _ _ _ c.requires.taker, λ items views h at. tt)
