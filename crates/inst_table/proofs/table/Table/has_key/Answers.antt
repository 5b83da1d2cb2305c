use Rattle.std.proofs.Common.{◌∙◌}
use Rattle.inst_table.proofs.Follows.{reads_word, reads_equal, rights}
use Rattle.inst_table.proofs.table.Table.has_key.Goals as goal

pub returns-then-key_word-word-clause-learns : goal.returns-then-key_word-word-clause-learns
returns-then-key_word-word-clause-learns g c = let i = c.loop-at.invariant in
    reads_word c.args.seat.now.me.0 c.loop-at.seat.me c.key_word.new.seat.me c.args.row c.loop-at.at c.key_word.result c.key_word.ensures.view i.learns

pub returns-then-key_word-word-clause-rights : goal.returns-then-key_word-word-clause-rights
returns-then-key_word-word-clause-rights g c = rights c.loop-at.seat.me c.key_word.new.seat.me _ c.key_word.ensures.view ∙ c.loop-at.invariant.rights

pub loop-at-preserved : goal.loop-at-preserved
loop-at-preserved g c = let i = c.loop-at.invariant in let view = c.key_word.ensures.view in record {
  table = c.key_word.ensures.table ∙ i.table;
  rights = rights c.loop-at.seat.me c.key_word.new.seat.me _ view ∙ i.rights;
  learns = reads_word c.args.seat.now.me.0 c.loop-at.seat.me c.key_word.new.seat.me c.args.row c.loop-at.at c.key_word.result view i.learns;
  equal = reads_equal c.loop-at.seat.me c.key_word.new.seat.me c.args.row c.loop-at.at c.key_word.result c.args.key.now view c.if-key_word-word.false i.equal;
}
