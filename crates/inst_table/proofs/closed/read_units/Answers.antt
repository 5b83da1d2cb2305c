use Rattle.std.proofs.Common.{◌∙◌, ap, arith, length}
use Rattle.inst_table.proofs.Lists.{length-push}
use Rattle.inst_table.proofs.Follows.{KnowsRow-keeps}
use Rattle.inst_table.proofs.Endings.{knows_trans, begins_trans, read_more}
use Rattle.inst_table.proofs.closed.read_units.Goals as goal

pub read_unit-requires-clause-known : goal.read_unit-requires-clause-known
read_unit-requires-clause-known g c κs within = let i = c.loop-row.invariant in let k = c.requires.known c.loop-row.row (omega arith) in
    (k.0, KnowsRow-keeps c.args.pass.now.seat.me.0 c.loop-row.pass.seat.me.0 c.loop-row.row k.0 i.knows.words k.1)

pub loop-row-preserved : goal.loop-row-preserved
loop-row-preserved g c = let i = c.loop-row.invariant in let read = c.read_unit.ensures in let push = c.push_reserved.ensures in record {
  table = read.table ∙ i.table;
  knows = knows_trans c.args.pass.now.seat.me.0 c.loop-row.pass.seat.me.0 c.read_unit.new.pass.seat.me.0 i.knows read.knows;
  address_loads = begins_trans c.args.pass.now.seat.me.0.address_loads c.loop-row.pass.seat.me.0.address_loads c.read_unit.new.pass.seat.me.0.address_loads i.address_loads read.address_loads;
  long = let e = ap length push.items in let p = length-push c.loop-row.units.items c.in_ok-read_unit.field-0 in omega (arith, i.long);
  units = read_more (g.F.Fit.fits c.args.table.now.words.shared.key.fit) c.args.table.now.words.shared.key.numbers c.args.pass.now.seat.me.0 c.loop-row.pass.seat.me.0 c.read_unit.new.pass.seat.me.0 c.loop-row.units.items c.push_reserved.new.self.items
      c.loop-row.row c.in_ok-read_unit.field-0 i.long i.knows read.knows push.items i.units c.in_ok-read_unit.ensures.unit;
  counted = omega (arith, push.len, i.counted);
  room = push.capacity ∙ i.room;
}
