use Rattle.std.proofs.Common.{◌≡◌, ◌+◌, Some, vec_len, vec_capacity, length}
use Rattle.inst_table.proofs.Publishing.{Reading}
use Rattle.inst_table.proofs.table.Table.read_whole.Given as goal

abbrev pub ghosts-read_record : goal.ghosts-read_record
ghosts-read_record g a = record { fit = Some a.self.now.words.shared.key.fit; numbers = a.self.now.words.shared.key.numbers; unit = a.address.unit; word = a.address.word; at = a.at }

abbrev pub invariant-loop-at : goal.invariant-loop-at
invariant-loop-at g l = record {
  table : l.seat.table_id ≡ l.fn.seat.table_id;
  rights : l.seat.me.1 ≡ l.fn.seat.me.1;
  reading : Reading (g.F.Fit.fits l.self.words.shared.key.fit) l.self.words.shared.key.numbers l.address.unit l.address.word l.fn.seat.me.0 l.seat.me.0 l.first l.second l.words.items;
  long : length l.words.items ≡ l.at;
  counted : vec_len l.words ≡ l.at;
  room : vec_capacity l.words ≡ 2 + l.first + l.second;
  end : l.len ≡ 2 + l.first + l.second;
}
