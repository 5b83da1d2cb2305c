use Rattle.std.proofs.Common.{ap, false, Some}
use Rattle.body_model.specs.Scope.{Scope}
use Rattle.spv_tree.proofs.scope.continuing.Goals as goal

pub returns-clause-is : goal.returns-clause-is
returns-clause-is c = λ barred. ap (λ (s : Scope). record s { header = Some c.args.header; may_end = false }) (c.loop_part.ensures.is barred)
