use Rattle.std.proofs.Common.{ap, arith}
use Rattle.inst_table.specs.declared.setup.Numbers.{Numbers}
use Rattle.inst_table.proofs.LookSteps.{counts}
use Rattle.inst_table.proofs.table.Table.count.Goals as goal

pub load-requires : goal.load-requires
load-requires g c = let room = ap (λ (n : Numbers). n.rows) c.args.self.now.numbers_kept in (c.requires.table, omega arith, counts _ _ _ _ _ _ _ (omega (arith, c.requires.room)) (omega arith))
