use Rattle.std.proofs.Common.{Some}
use Rattle.inst_table.proofs.table.Table.accept.Given as goal

abbrev pub ghosts-store_address : goal.ghosts-store_address
ghosts-store_address g a = record { fit = Some a.self.now.words.shared.key.fit; numbers = a.self.now.words.shared.key.numbers; unit = a.unit; word = 0; at = 0 }
