use Rattle.std.proofs.Common.{Some}
use Rattle.inst_table.proofs.closed.settle.Given as goal

abbrev pub ghosts-own_word : goal.ghosts-own_word
ghosts-own_word g a = record { asked = g.F.Fit.asked a.self.now.words.shared.key.fit; room = a.self.now.words.shared.key.numbers.rows }

abbrev pub ghosts-own_unit_word : goal.ghosts-own_unit_word
ghosts-own_unit_word g a = record { fit = Some a.self.now.words.shared.key.fit; numbers = a.self.now.words.shared.key.numbers; unit = 0; word = 0; at = 0 }
