use Rattle.id_table.proofs.Places.{starts_empty}
use Rattle.id_table.proofs.table.IdTable.new.Goals as goal

pub returns-clause-empty : goal.returns-clause-empty
returns-clause-empty g c = starts_empty (record { near = c.in_ok-near.near; far = c.new.result }) c.in_ok-near.ensures.empty c.new.ensures.empty
