use Rattle.std.proofs.Common.{◌≡◌}
use Rattle.inst_table.specs.Names.{id_of, creator_home_of}
use Rattle.thread_tests.proofs.instance_tests.add_all.Given as goal

abbrev pub invariant-loop-at : goal.invariant-loop-at
invariant-loop-at l = creator_home_of l.creator ≡ id_of l.table
