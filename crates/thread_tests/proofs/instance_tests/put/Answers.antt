use Rattle.std.proofs.Common.{inr, arith}
use Rattle.thread_tests.proofs.instance_tests.put.Goals as goal

pub publish-requires-clause-record : goal.publish-requires-clause-record
publish-requires-clause-record c κs = let row = c.requires.row in record {
  whole = c.requires.words.0;
  fitting = inr (c.args.row, row.key, omega (arith, c.args.table.now.words.shared.key.libraries), row.wide, row.known, c.requires.words.1);
}
