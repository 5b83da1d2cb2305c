use Rattle.thread_tests.proofs.worker_tests.many_jobs_wait_at_once.Given as goal

abbrev pub ghosts-answers : goal.ghosts-answers
ghosts-answers g a = record { queues = a.queues.queues }
