use Rattle.std.proofs.Common.{◌≡◌}
use Rattle.inst_table.specs.Plays.{AreSound}
use Rattle.inst_table.proofs.Chains.{OnChain}
use Rattle.inst_table.proofs.table.Table.row_of.Given as goal

abbrev pub ghosts-own_word : goal.ghosts-own_word
ghosts-own_word g a = record { asked = g.F.Fit.asked a.self.now.words.shared.key.fit; room = a.self.now.words.shared.key.numbers.rows }

abbrev pub invariant-loop-place : goal.invariant-loop-place
invariant-loop-place g l = record {
  table : l.seat.table_id ≡ l.fn.seat.table_id;
  view : l.seat.me ≡ l.fn.seat.me;
  chain : OnChain l.fn.seat.me.0.rows.linked l.key l.place;
  sound : AreSound (g.F.Fit.asked l.self.words.shared.key.fit) l.self.words.shared.key.numbers.rows l.fn.seat.me.0.rows.linked;
}

abbrev pub decreases-loop-place : goal.decreases-loop-place
decreases-loop-place g l = l.place
