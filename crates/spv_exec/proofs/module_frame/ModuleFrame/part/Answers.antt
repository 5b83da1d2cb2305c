use Rattle.std.proofs.Common.{ap, ◌∙◌}
use Rattle.spirv_model.specs.declared.module.Words.{Words}
use Rattle.valid_model.specs.Meanings.{meaning}
use Rattle.spv_exec.proofs.PartAnswers.{no_type_told}
use Rattle.spv_exec.proofs.module_frame.ModuleFrame.part.Goals as goal

pub returns-in_default : goal.returns-in_default
returns-in_default c =
    no_type_told c.args.self.now c.args.ty c.args.index c.at.result.now (c.at.ensures ∙ (c.ids.ensures.meanings c.args.ty ∙ ap (λ (w : Words). meaning w.insts c.args.ty) c.self.view_is)) c.in_default.not-Shape
