use Rattle.std.proofs.Common.{[]}
use Rattle.inst_table.proofs.pass.Pass.find.Given as goal

abbrev pub ghosts-count : goal.ghosts-count
ghosts-count g a = record { room = a.self.now.words.shared.key.numbers.rows; key = []; below = 0 }

abbrev pub ghosts-follow : goal.ghosts-follow
ghosts-follow g a = record { room = a.self.now.numbers.rows; key = a.key.now; below = a.count }
