use Rattle.thread_tests.proofs.worker_tests.a_job_that_comes_before_a_rest_ends_it.Given as goal

abbrev pub ghosts-in_turns : goal.ghosts-in_turns
ghosts-in_turns g a = record { queues = a.queues.queues }
