use Rattle.std.proofs.Common.{Some}
use Rattle.inst_table.proofs.table.Table.own_address.Given as goal

abbrev pub ghosts-own_unit_word : goal.ghosts-own_unit_word
ghosts-own_unit_word g a = record { fit = Some a.self.now.words.shared.key.fit; numbers = a.self.now.words.shared.key.numbers; unit = 0; word = 0; at = 0 }
