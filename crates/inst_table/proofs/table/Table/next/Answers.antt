use Rattle.std.proofs.Common.{ap, arith}
use Rattle.inst_table.specs.declared.setup.Numbers.{Numbers}
use Rattle.inst_table.proofs.LookSteps.{goes_at}
use Rattle.inst_table.proofs.table.Table.next.Goals as goal

pub load-requires : goal.load-requires
load-requires g c =
    let room = ap (λ (n : Numbers). n.rows) c.args.self.now.numbers_kept in let own = c.requires.room in
    (c.requires.table, omega (arith, c.next_place.ensures), goes_at _ _ _ _ _ _ _ _ _ c.args.row _ c.next_place.ensures (omega arith) c.requires.key c.requires.below c.requires.stands c.requires.passed)

pub returns-clause-below : goal.returns-clause-below
returns-clause-below g c = c.load.ensures.2.1 c.args.row c.next_place.ensures
