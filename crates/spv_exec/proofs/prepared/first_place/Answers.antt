use Rattle.std.proofs.Common.{◌≡◌, ap, ◌∙◌}
use Rattle.spirv_model.specs.declared.module.Inst.{Inst}
use Rattle.std.proofs.Common.{List}
use Rattle.spirv_model.specs.declared.module.Words.{Words}
use Rattle.stage_model.specs.Stage.{first_label}
use Rattle.spv_exec.proofs.PreparedRuns.{first_there}
use Rattle.spv_exec.proofs.prepared.first_place.Goals as goal

pub returns : goal.returns
returns c = first_there c.args.of.now c.module.ensures.valid c.label_in.result c.unwrap_or.result
    (c.label_in.ensures ∙ (ap first_label c.insts.ensures.are ∙ ap (λ (w : Words). first_label w.insts) c.module.ensures.is)) c.unwrap_or.ensures
