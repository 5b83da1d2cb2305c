use Rattle.std.proofs.Common.{sym, ◌∙◌}
use Rattle.spv_check.proofs.TreeLimits.{front_of_first, front_of_none}
use Rattle.spv_check.proofs.sequence_limits.first_place.Goals as goal

pub returns-in-Some : goal.returns-in-Some
returns-in-Some c = c.first_of.ensures ∙ front_of_first c.args.run.now c.as_slice.result.now c.in-Some.node.now c.as_slice.ensures (sym c.in-Some.ensures.value)

pub returns-in-None : goal.returns-in-None
returns-in-None c = front_of_none c.args.run.now c.as_slice.result.now c.as_slice.ensures (sym c.in-None.ensures.value)
