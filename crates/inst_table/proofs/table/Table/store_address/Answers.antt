use Rattle.std.proofs.Common.{arith}
use Rattle.inst_table.proofs.UnitSteps.{publishes_at}
use Rattle.inst_table.proofs.table.Table.store_address.Goals as goal

pub store-requires : goal.store-requires
store-requires g c = let p = c.address_place-place.ensures in (
  c.requires.table,
  omega (arith, p.inside, c.args.self.now.sized),
  publishes_at _ _ c.args.self.now.words.shared.key.numbers c.args.self.now.numbers _ _ c.args.seat.now.me _ c.args.unit _ _ c.args.self.now.numbers_kept p.value p.inside c.requires.unit.0 c.requires.publishes c.requires.record.fitting c.requires.record.whole c.requires.unit.1 c.requires.word,
)
