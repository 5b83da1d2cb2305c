use Rattle.std.proofs.Common.{◌≡◌}
use Rattle.inst_table.specs.Names.{id_of, home_of}
use Rattle.thread_tests.proofs.instance_tests.is_watched.Given as goal

abbrev pub invariant-loop : goal.invariant-loop
invariant-loop l = home_of l.pass ≡ id_of l.table

abbrev pub invariant-loop-at : goal.invariant-loop-at
invariant-loop-at l = home_of l.pass ≡ id_of l.table
