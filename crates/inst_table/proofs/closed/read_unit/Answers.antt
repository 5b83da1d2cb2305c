use Rattle.inst_table.proofs.Endings.{read_none, read_some}
use Rattle.inst_table.proofs.closed.read_unit.Goals as goal

pub returns-in-None-clause-unit : goal.returns-in-None-clause-unit
returns-in-None-clause-unit g c = read_none (g.F.Fit.fits c.args.table.now.words.shared.key.fit) c.args.table.now.words.shared.key.numbers c.args.table.now.numbers c.args.pass.now.seat.me.0 c.address.new.self.seat.me.0 c.args.row c.args.table.now.numbers_kept c.in-None.ensures.loads

pub returns-in_ok-fetch-in-Some-clause-unit : goal.returns-in_ok-fetch-in-Some-clause-unit
returns-in_ok-fetch-in-Some-clause-unit g c = let some = c.in-Some.ensures in let got = c.in_ok-fetch-in-Some.ensures in
    read_some (g.F.Fit.fits c.args.table.now.words.shared.key.fit) c.args.table.now.words.shared.key.numbers c.args.table.now.numbers c.args.pass.now.seat.me.0 c.address.new.self.seat.me.0 c.fetch.new.self.seat.me.0
    c.in-Some.address.unit c.args.row c.in-Some.address.word c.in_ok-fetch-in-Some.field-0 c.args.table.now.numbers_kept some.address.of_unit some.loads some.address.there some.address.known some.knows got.knows got.record.0 got.record.1 got.fits
