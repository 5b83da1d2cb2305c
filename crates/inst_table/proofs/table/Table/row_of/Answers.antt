use Rattle.std.proofs.Common.{◌∙◌}
use Rattle.inst_table.proofs.Chains.{on_head}
use Rattle.inst_table.proofs.Adding.{next_own}
use Rattle.inst_table.proofs.table.Table.row_of.Goals as goal

pub loop-place-init : goal.loop-place-init
loop-place-init g c = let first = c.own_word-place.ensures in let bucket = c.bucket_of.ensures in record {
  table = first.table;
  view = first.view;
  chain = on_head c.args.seat.now.me.0.rows.linked c.args.key.now c.own_word-place.result c.bucket_of.result bucket.value (first.word.heads c.bucket_of.result bucket.small c.head_place.ensures);
  sound = first.sound;
}

pub loop-place-smaller : goal.loop-place-smaller
loop-place-smaller g c = let i = c.loop-place.invariant in let next = c.own_word-place-in-loop-place.ensures in let own = c.if-has_own_key.ensures in
    (next_own c.args.seat.now.me c.loop-place.seat.me c.has_own_key.new.seat.me c.args.key.now c.loop-place.place c.own_word-place-in-loop-place.result c.next_place.result i.view c.has_own_key.ensures.view c.loop-place-test.true i.chain own.answer next.word c.next_place.ensures).1

pub loop-place-preserved : goal.loop-place-preserved
loop-place-preserved g c = let i = c.loop-place.invariant in let next = c.own_word-place-in-loop-place.ensures in let own = c.if-has_own_key.ensures in record {
  table = next.table ∙ c.has_own_key.ensures.table ∙ i.table;
  view = next.view ∙ c.has_own_key.ensures.view ∙ i.view;
  chain = (next_own c.args.seat.now.me c.loop-place.seat.me c.has_own_key.new.seat.me c.args.key.now c.loop-place.place c.own_word-place-in-loop-place.result c.next_place.result i.view c.has_own_key.ensures.view c.loop-place-test.true i.chain own.answer next.word c.next_place.ensures).0;
  sound = i.sound;
}
