use Rattle.std.proofs.Common.{ap, Some}
use Rattle.body_model.specs.Scope.{Scope}
use Rattle.spv_tree.proofs.scope.body.Goals as goal

pub returns-clause-is : goal.returns-clause-is
returns-clause-is c = λ barred. ap (λ (s : Scope). record s { exits = Some (record { merge = c.args.merge; next = c.args.next }) }) (c.loop_part.ensures.is barred)
