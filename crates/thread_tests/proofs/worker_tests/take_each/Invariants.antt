use Rattle.std.proofs.Common.{◌≡◌}
use Rattle.thread_tests.proofs.worker_tests.take_each.Given as goal

abbrev pub invariant-loop-n : goal.invariant-loop-n
invariant-loop-n g l = l.pass.queues ≡ g.N.QueueName.queues
