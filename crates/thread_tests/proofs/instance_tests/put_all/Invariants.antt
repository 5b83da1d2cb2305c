use Rattle.std.proofs.Common.{◌≡◌}
use Rattle.inst_table.specs.Names.{id_of, home_of, publisher_home_of}
use Rattle.thread_tests.proofs.instance_tests.put_all.Given as goal

abbrev pub invariant-loop-at : goal.invariant-loop-at
invariant-loop-at l = (publisher_home_of l.publisher ≡ id_of l.table) × (home_of l.pass ≡ id_of l.table)

abbrev pub invariant-loop : goal.invariant-loop
invariant-loop l = (publisher_home_of l.publisher ≡ id_of l.table) × (home_of l.pass ≡ id_of l.table)
