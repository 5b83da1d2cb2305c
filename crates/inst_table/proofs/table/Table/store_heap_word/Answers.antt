use Rattle.std.proofs.Common.{arith}
use Rattle.inst_table.proofs.UnitSteps.{lays_at}
use Rattle.inst_table.proofs.table.Table.store_heap_word.Goals as goal

pub store-requires : goal.store-requires
store-requires g c = let p = c.heap_place-place.ensures in let room = c.requires.room in (
  c.requires.table,
  omega (arith, p.inside, c.args.self.now.sized),
  lays_at _ _ c.args.self.now.words.shared.key.numbers c.args.self.now.numbers _ _ c.args.seat.now.me c.args.at _ _ c.args.self.now.numbers_kept p.value c.requires.publishes room.0 room.1 (omega (arith, c.ranges.word)),
)
