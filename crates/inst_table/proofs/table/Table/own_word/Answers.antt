use Rattle.inst_table.proofs.Appends.{checks, sound_at}
use Rattle.inst_table.proofs.table.Table.own_word.Goals as goal

pub load-requires : goal.load-requires
load-requires g c = (c.requires.table, c.requires.inside, checks _ _ _ _ _ _ _ _ _ c.requires.operands.0 c.requires.operands.1 c.requires.creates)

pub returns-clause-sound : goal.returns-clause-sound
returns-clause-sound g c = sound_at _ _ _ _ c.args.seat.now.me.0.rows.linked c.requires.operands.0 c.requires.operands.1 c.load.ensures.2.2
