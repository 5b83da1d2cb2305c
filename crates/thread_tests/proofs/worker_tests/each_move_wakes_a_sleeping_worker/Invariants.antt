use Rattle.thread_tests.proofs.worker_tests.each_move_wakes_a_sleeping_worker.Given as goal

abbrev pub ghosts-woken : goal.ghosts-woken
ghosts-woken g a = record { queues = a.queues.queues }
