use Rattle.std.proofs.Common.{sym, ap, ◌∙◌, arith}
use Rattle.gpl_edge.specs.Sources.{SourceState}
use Rattle.gpl_edge.proofs.Buffers.{buffer_gives}
use Rattle.gpl_edge.proofs.mem_source.MemSourceSource.read.Goals as goal

pub returns-clause-gives : goal.returns-clause-gives
returns-clause-gives c =
    ap (λ (s : SourceState). s.left) (sym c.self.view_is) ∙ buffer_gives _ _ _ _ _ _ c.deref-2.ensures.value (omega arith) c.copy_front.ensures
