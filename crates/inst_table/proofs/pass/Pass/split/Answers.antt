use Rattle.std.proofs.Common.{arith}
use Rattle.inst_table.proofs.Sharing.{tells}
use Rattle.inst_table.proofs.pass.Pass.split.Goals as goal

pub split_seat-requires : goal.split_seat-requires
split_seat-requires g c = (c.requires, omega (arith, c.args.table.now.sized), tells _ _ _ _ _)
