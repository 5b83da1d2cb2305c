use Rattle.std.proofs.Common.{◌∙◌}
use Rattle.spv_check.proofs.ExactAnswers.{valid_copy}
use Rattle.spv_check.proofs.module.Module.copy.Goals as goal

pub valid_module-requires : goal.valid_module-requires
valid_module-requires c =
    valid_copy c.args.self.now c.bound-bound.result c.in_ok-insts.insts c.bound-bound.ensures.is (c.in_ok-insts.ensures ∙ c.insts.ensures.are) c.insts.ensures.valid
