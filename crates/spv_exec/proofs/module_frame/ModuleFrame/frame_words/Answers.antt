use Rattle.std.proofs.Common.{subst}
use Rattle.spirv_model.specs.declared.module.Words.{Words}
use Rattle.spv_exec.specs.ModuleFrames.{AreFramePlaces}
use Rattle.spv_exec.proofs.PlacesTo.{frame_rises}
use Rattle.spv_exec.proofs.module_frame.ModuleFrame.frame_words.Goals as goal

pub overflow_sub-result : goal.overflow_sub-result
overflow_sub-result c =
    frame_rises c.args.self.now.insts c.self.inside.frame.items c.args.place c.index.result.now c.index-2.result.now (subst (λ (w : Words). AreFramePlaces w.insts c.self.inside.frame.items) c.self.view_is c.self.invariant.in_frame)
    c.requires c.index.ensures c.index-2.ensures
