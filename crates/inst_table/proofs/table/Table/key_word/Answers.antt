use Rattle.std.proofs.Common.{ap, arith}
use Rattle.inst_table.specs.declared.setup.Numbers.{Numbers}
use Rattle.inst_table.proofs.LookSteps.{reads_key_at}
use Rattle.inst_table.proofs.table.Table.key_word.Goals as goal

pub load-requires : goal.load-requires
load-requires g c =
    let room = ap (λ (n : Numbers). n.rows) c.args.self.now.numbers_kept in let row = c.requires.row in
    (c.requires.table, omega (arith, c.key_place.ensures), reads_key_at _ _ _ _ _ _ c.args.row c.args.at _ c.key_place.ensures row.0 c.requires.at)

pub returns-clause-view : goal.returns-clause-view
returns-clause-view g c = c.load.ensures.2 c.args.row c.args.at c.requires.at c.key_place.ensures
