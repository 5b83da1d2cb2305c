use Rattle.std.proofs.Common.{◌≡◌, take, vec_len, vec_capacity}
use Rattle.inst_table.proofs.table.Table.own_keys.Given as goal

abbrev pub ghosts-own_word : goal.ghosts-own_word
ghosts-own_word g a = record { asked = g.F.Fit.asked a.self.now.words.shared.key.fit; room = a.self.now.words.shared.key.numbers.rows }

abbrev pub invariant-loop-row : goal.invariant-loop-row
invariant-loop-row g l = record {
  table : l.seat.table_id ≡ l.fn.seat.table_id;
  view : l.seat.me ≡ l.fn.seat.me;
  keys : l.keys.items ≡ take l.row l.fn.seat.me.0.rows.linked;
  counted : vec_len l.keys ≡ l.row;
  room : vec_capacity l.keys ≡ l.count;
}
