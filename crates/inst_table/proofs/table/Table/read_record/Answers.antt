use Rattle.std.proofs.Common.{arith}
use Rattle.inst_table.proofs.UnitSteps.{reads_record_at, fits_at}
use Rattle.inst_table.proofs.table.Table.read_record.Goals as goal

pub load-requires : goal.load-requires
load-requires g c = let own = c.requires.operands in let at = c.requires.place in let p = c.record_place-place.ensures in (
  c.requires.table,
  omega (arith, p.inside, c.args.self.now.sized),
  reads_record_at g.F.Fit.asked g.F.Fit.fits g.F.Fit.longest c.args.self.now.words.shared.key.fit c.args.self.now.words.shared.key.numbers c.args.self.now.numbers _ _ _ c.args.seat.now.me _ _ c.args.address.unit _ c.args.address.word _ c.args.at _
      c.args.self.now.numbers_kept p.value own.0 own.1 at.0 at.1 at.2 c.requires.known c.requires.inside,
)

pub returns-clause-fits : goal.returns-clause-fits
returns-clause-fits g c = let own = c.requires.operands in let at = c.requires.place in
    fits_at g.F.Fit.asked g.F.Fit.fits g.F.Fit.longest c.args.self.now.words.shared.key.fit c.args.self.now.words.shared.key.numbers _ c.load.new.seat.me.0 _ _ c.args.address.unit _ c.args.address.word own.0 own.1 at.0 at.1 c.load.ensures.2.2
