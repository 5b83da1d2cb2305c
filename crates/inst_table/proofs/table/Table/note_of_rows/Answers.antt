use Rattle.std.proofs.Common.{arith}
use Rattle.inst_table.proofs.Appends.{tells_rows}
use Rattle.inst_table.proofs.table.Table.note_of_rows.Goals as goal

pub split_seat-requires : goal.split_seat-requires
split_seat-requires g c = (c.requires.table, omega (arith, c.args.self.now.sized), tells_rows _ _ _ _ _ c.requires.creates c.requires.count)
