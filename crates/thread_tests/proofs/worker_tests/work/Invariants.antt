use Rattle.std.proofs.Common.{◌≡◌}
use Rattle.thread_tests.proofs.worker_tests.work.Given as goal

abbrev pub invariant-loop : goal.invariant-loop
invariant-loop g l = l.pass.queues ≡ g.N.QueueName.queues
