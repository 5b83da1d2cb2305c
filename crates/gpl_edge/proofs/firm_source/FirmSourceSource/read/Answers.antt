use Rattle.std.proofs.Common.{sym, ◌∙◌, arith}
use Rattle.gpl_edge.proofs.Buffers.{buffer_gives}
use Rattle.gpl_edge.proofs.firm_source.FirmSourceSource.read.Goals as goal

pub returns-clause-gives : goal.returns-clause-gives
returns-clause-gives c = sym c.self.view_is ∙ buffer_gives _ _ _ _ _ _ c.deref.ensures.value (omega arith) c.copy_front.ensures
