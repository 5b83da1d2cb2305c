use Rattle.std.proofs.Common.{subst}
use Rattle.spirv_model.specs.declared.module.Words.{Words}
use Rattle.spv_exec.specs.ModuleFrames.{AreMemoryPlaces}
use Rattle.spv_exec.proofs.PlacesTo.{memory_rises}
use Rattle.spv_exec.proofs.module_frame.ModuleFrame.memory_words.Goals as goal

pub overflow_sub-result : goal.overflow_sub-result
overflow_sub-result c =
    memory_rises c.args.self.now.insts c.self.inside.memory.items c.args.place c.index.result.now c.index-2.result.now (subst (λ (w : Words). AreMemoryPlaces w.insts c.self.inside.memory.items) c.self.view_is c.self.invariant.in_memory)
    c.requires c.index.ensures c.index-2.ensures
