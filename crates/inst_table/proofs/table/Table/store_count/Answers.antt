use Rattle.std.proofs.Common.{arith}
use Rattle.inst_table.proofs.Appends.{counts_more}
use Rattle.inst_table.proofs.table.Table.store_count.Goals as goal

pub store-requires : goal.store-requires
store-requires g c = (c.requires.table, omega (arith, c.args.self.now.sized), counts_more _ _ _ _ _ _ _ c.requires.creates c.requires.linked c.requires.count)
