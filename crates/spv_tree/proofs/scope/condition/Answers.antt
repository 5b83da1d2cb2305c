use Rattle.std.proofs.Common.{ap, false, Some}
use Rattle.body_model.specs.declared.scope.Phis.TheVariants.{AtHeader}
use Rattle.body_model.specs.Scope.{Scope}
use Rattle.spv_tree.proofs.scope.condition.Goals as goal

pub returns-clause-is : goal.returns-clause-is
returns-clause-is c = λ barred. ap (λ (s : Scope). record s { phis = AtHeader; test = Some c.args.merge; may_loop = false; may_end = false }) (c.loop_part.ensures.is barred)
