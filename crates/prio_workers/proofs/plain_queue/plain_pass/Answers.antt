use Rattle.prio_workers.proofs.PlainSteps.{admits}
use Rattle.prio_workers.proofs.plain_queue.plain_pass.Goals as goal

pub pass-requires : goal.pass-requires
pass-requires g c = admits _
