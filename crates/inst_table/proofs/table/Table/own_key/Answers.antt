use Rattle.std.proofs.Common.{◌∙◌, length-set}
use Rattle.inst_table.proofs.Endings.{key_more, key_whole}
use Rattle.inst_table.proofs.table.Table.own_key.Goals as goal

pub loop-at-preserved : goal.loop-at-preserved
loop-at-preserved g c = let i = c.loop-at.invariant in let own = c.own_word.ensures in let row = c.requires.row in record {
  table = own.table ∙ i.table;
  view = own.view ∙ i.view;
  long = length-set c.loop-at.key c.loop-at.at c.own_word.result ∙ i.long;
  equal = key_more c.args.seat.now.me c.loop-at.seat.me c.args.row c.loop-at.at c.own_word.result c.key_place.result c.loop-at.key i.view i.long c.loop-at-test.true row.0 own.word c.key_place.ensures i.equal;
}

pub returns-clause-key : goal.returns-clause-key
returns-clause-key g c = let i = c.loop-at.invariant in key_whole c.args.seat.now.me.0.rows.linked c.args.row c.loop-at.at c.loop-at.key i.long c.requires.row.2 c.loop-at-test.false i.equal
