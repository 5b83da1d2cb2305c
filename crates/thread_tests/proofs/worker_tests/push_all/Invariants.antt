use Rattle.std.proofs.Common.{◌≡◌}
use Rattle.thread_tests.proofs.worker_tests.push_all.Given as goal

abbrev pub invariant-loop-n : goal.invariant-loop-n
invariant-loop-n g l = (l.low_push.queue ≡ g.N.QueueName.queues.low) × (l.low_push.pushed ≡ l.n)
