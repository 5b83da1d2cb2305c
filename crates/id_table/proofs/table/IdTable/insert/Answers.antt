use Rattle.std.proofs.Common.{arith}
use Rattle.id_table.proofs.Places.{sets_near, sets_far, stays}
use Rattle.id_table.proofs.table.IdTable.insert.Goals as goal

pub returns-in_err-insert-clause-err : goal.returns-in_err-insert-clause-err
returns-in_err-insert-clause-err g c = stays c.from_residual.result c.args.self.now c.insert.new.self c.in_err-insert.ensures.err

pub returns-then-id-len-clause-sets : goal.returns-then-id-len-clause-sets
returns-then-id-len-clause-sets g c = sets_near c.args.self.now c.args.id c.args.value (omega (arith, c.if-id-len.true, c.len.ensures))

pub returns-in_ok-insert-clause-sets : goal.returns-in_ok-insert-clause-sets
returns-in_ok-insert-clause-sets g c =
    sets_far c.args.self.now c.insert.new.self c.args.id c.args.value (omega (arith, c.if-id-len.false, c.len.ensures)) c.in_ok-insert.ensures.updates.0
