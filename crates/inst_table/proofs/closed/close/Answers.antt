use Rattle.inst_table.proofs.Endings.{sound_rows, agreed}
use Rattle.inst_table.proofs.closed.close.Goals as goal

pub returns-in-Ok-clause-sound : goal.returns-in-Ok-clause-sound
returns-in-Ok-clause-sound g c = sound_rows _ c.args.creator.seat.me.0.rows.linked _ _ c.in-Ok.ensures.rows c.read_all.ensures.sound

pub returns-in-Ok-clause-known : goal.returns-in-Ok-clause-known
returns-in-Ok-clause-known g c = let all = c.read_all.ensures in
    agreed c.args.pass.seat.me.0 c.read_all.new.pass.seat.me.0 c.args.creator.seat.me.0.rows.linked c.read_all.new.creator.seat.me.0.rows.linked c.args.publisher.seat.me.0.units.built c.read_all.new.publisher.seat.me.0.units.built
    all.same_rows all.same_units all.knows c.settle.ensures
