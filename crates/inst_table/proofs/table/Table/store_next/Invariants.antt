use Rattle.inst_table.proofs.table.Table.store_next.Given as goal

abbrev pub ghosts-own_word : goal.ghosts-own_word
ghosts-own_word g a = record { asked = g.F.Fit.asked a.self.now.words.shared.key.fit; room = a.self.now.words.shared.key.numbers.rows }
