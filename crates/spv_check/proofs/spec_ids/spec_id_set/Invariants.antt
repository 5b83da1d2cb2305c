use Rattle.std.proofs.Common.{take}
use Rattle.spv_check.specs.SpecIds.{HasSpecIds}
use Rattle.spv_check.proofs.spec_ids.spec_id_set.Given as goal

abbrev pub invariant-loop-inst : goal.invariant-loop-inst
invariant-loop-inst l = HasSpecIds (take l.inst-index l.insts) l.spec_ids
