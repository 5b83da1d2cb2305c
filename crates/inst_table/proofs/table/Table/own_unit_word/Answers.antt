use Rattle.inst_table.proofs.UnitSteps.{checks_at, sound_at}
use Rattle.inst_table.proofs.table.Table.own_unit_word.Goals as goal

pub load-requires : goal.load-requires
load-requires g c = let own = c.requires.operands in (
  c.requires.table,
  c.requires.inside,
  checks_at g.F.Fit.asked g.F.Fit.fits g.F.Fit.longest c.args.self.now.words.shared.key.fit c.args.self.now.words.shared.key.numbers _ _ _ c.args.seat.now.me _ _
      (g.met.F.Fit g.world.𝓛 g.world.𝓜 g.world.𝓡 ((λ s x. x), (λ x. x), (λ x. x), λ x. x)).within own.0 own.1 c.requires.publishes,
)

pub returns-clause-sound : goal.returns-clause-sound
returns-clause-sound g c = let own = c.requires.operands in
    sound_at g.F.Fit.asked g.F.Fit.fits g.F.Fit.longest c.args.self.now.words.shared.key.fit c.args.self.now.words.shared.key.numbers _ c.args.seat.now.me.0 _ own.0 own.1 c.load.ensures.2.2
