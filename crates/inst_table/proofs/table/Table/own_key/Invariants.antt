use Rattle.std.proofs.Common.{◌≡◌, ℕ, ◌<◌, get_or, length}
use Rattle.inst_table.specs.Bucket.{key_words}
use Rattle.inst_table.specs.Chain.{key_word}
use Rattle.inst_table.proofs.table.Table.own_key.Given as goal

abbrev pub ghosts-own_word : goal.ghosts-own_word
ghosts-own_word g a = record { asked = g.F.Fit.asked a.self.now.words.shared.key.fit; room = a.self.now.words.shared.key.numbers.rows }

abbrev pub invariant-loop-at : goal.invariant-loop-at
invariant-loop-at g l = record {
  table : l.seat.table_id ≡ l.fn.seat.table_id;
  view : l.seat.me ≡ l.fn.seat.me;
  long : length l.key ≡ key_words;
  equal : (k : ℕ) → k < l.at → get_or l.key k 0 ≡ key_word l.fn.seat.me.0.rows.linked l.row k;
}
