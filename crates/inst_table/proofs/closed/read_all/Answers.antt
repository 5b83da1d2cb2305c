use Rattle.inst_table.specs.Chain.{key_at}
use Rattle.inst_table.proofs.Endings.{knows_trans, rows_known, units_known, units_are}
use Rattle.inst_table.proofs.closed.read_all.Goals as goal

pub read_units-requires-clause-known : goal.read_units-requires-clause-known
read_units-requires-clause-known g c κs within row near = (
  key_at c.args.creator.now.seat.me.0.rows.linked row,
  rows_known _ _ c.args.creator.now.seat.me c.own_keys.new.seat.me c.note_of_rows-note.result.seat.me.0 c.join.new.self.seat.me.0 c.join-2.new.self.seat.me.0 c.args.creator.now.count c.own_keys.ensures.sound c.own_keys.ensures.view c.note_of_rows-note.ensures.note
      c.args.creator.now.counted.1 c.join.ensures.others c.join-2.ensures.knows row near,
)

pub returns-in_err-units-clause-knows : goal.returns-in_err-units-clause-knows
returns-in_err-units-clause-knows g c = knows_trans c.args.pass.now.seat.me.0 c.join-2.new.self.seat.me.0 c.read_units.new.pass.seat.me.0
    (knows_trans c.args.pass.now.seat.me.0 c.join.new.self.seat.me.0 c.join-2.new.self.seat.me.0 c.join.ensures.knows c.join-2.ensures.knows) c.read_units.ensures.knows

pub returns-clause-knows : goal.returns-clause-knows
returns-clause-knows g c = knows_trans c.args.pass.now.seat.me.0 c.join-2.new.self.seat.me.0 c.read_units.new.pass.seat.me.0
    (knows_trans c.args.pass.now.seat.me.0 c.join.new.self.seat.me.0 c.join-2.new.self.seat.me.0 c.join.ensures.knows c.join-2.ensures.knows) c.read_units.ensures.knows

pub returns-clause-units : goal.returns-clause-units
returns-clause-units g c agrees =
    let rows = c.args.creator.now.seat.me.0.rows.linked in
    units_are (g.F.Fit.fits c.args.table.now.words.shared.key.fit) c.args.table.now.words.shared.key.numbers c.join-2.new.self.seat.me.0 c.read_units.new.pass.seat.me.0 rows c.args.publisher.now.seat.me.0.units.built c.in_ok-units.units.items c.args.creator.now.count
    (units_known c.args.publisher.now.seat.me.0 c.note_of_units-note.result.seat.me.0 c.join-2.new.self.seat.me.0 c.note_of_units-note.ensures.note c.join-2.ensures.others)
    (rows_known _ _ c.args.creator.now.seat.me c.own_keys.new.seat.me c.note_of_rows-note.result.seat.me.0 c.join.new.self.seat.me.0 c.join-2.new.self.seat.me.0 c.args.creator.now.count c.own_keys.ensures.sound c.own_keys.ensures.view c.note_of_rows-note.ensures.note
    c.args.creator.now.counted.1 c.join.ensures.others c.join-2.ensures.knows)
    c.own_keys.ensures.sound.wide c.args.creator.now.counted.1 c.in_ok-units.ensures.units agrees
