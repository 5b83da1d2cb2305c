use Rattle.std.proofs.Common.{arith}
use Rattle.inst_table.proofs.Sharing.{takes_in}
use Rattle.inst_table.proofs.table.Table.take_in.Goals as goal

pub join_seat-requires : goal.join_seat-requires
join_seat-requires g c = (c.requires.table, c.requires.home, c.args.by.bare, omega (arith, c.args.self.now.sized), takes_in _ _ _ _ _ _ _)
