use Rattle.prio_workers.proofs.PlainSteps.{pops}
use Rattle.prio_workers.proofs.plain_queue.pop_plain.Goals as goal

pub pop_as-requires-clause-rule : goal.pop_as-requires-clause-rule
pop_as-requires-clause-rule g c = (pops _ _ _, λ items views h at. tt)
