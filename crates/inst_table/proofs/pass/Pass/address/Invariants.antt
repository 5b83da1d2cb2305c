use Rattle.std.proofs.Common.{Some}
use Rattle.inst_table.proofs.pass.Pass.address.Given as goal

abbrev pub ghosts-read_address : goal.ghosts-read_address
ghosts-read_address g a = record { fit = Some a.self.now.words.shared.key.fit; numbers = a.self.now.words.shared.key.numbers; unit = a.unit; word = 0; at = 0 }
