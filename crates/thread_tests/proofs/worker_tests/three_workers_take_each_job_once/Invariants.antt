use Rattle.thread_tests.proofs.worker_tests.three_workers_take_each_job_once.Given as goal

abbrev pub ghosts-three_workers : goal.ghosts-three_workers
ghosts-three_workers g a = record { queues = a.queues.queues }
