use Rattle.std.proofs.Common.{ap, Some, ◌++◌}
use Rattle.body_model.specs.Scope.{Scope}
use Rattle.spv_tree.proofs.scope.switch_arm.Goals as goal

pub returns-clause-is : goal.returns-clause-is
returns-clause-is c = λ others barred. ap (λ (s : Scope). record s { leave = Some c.args.merge; barred = others ++ barred }) (c.arm.ensures.is barred)
