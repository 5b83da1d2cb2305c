use Rattle.thread_tests.proofs.worker_tests.jobs_come_in_the_order_of_their_queues.Given as goal

abbrev pub ghosts-one_worker : goal.ghosts-one_worker
ghosts-one_worker g a = record { queues = a.queues.queues }
