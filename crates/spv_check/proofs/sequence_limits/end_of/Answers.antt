use Rattle.std.proofs.Common.{sym, ◌∙◌}
use Rattle.spv_check.proofs.TreeLimits.{last_of_run, end_of_none}
use Rattle.spv_check.proofs.sequence_limits.end_of.Goals as goal

pub returns-in-Some : goal.returns-in-Some
returns-in-Some c = c.end_of_node.ensures ∙ last_of_run c.args.run.now c.as_slice.result.now c.in-Some.node.now c.as_slice.ensures (sym c.in-Some.ensures.value)

pub returns-in-None : goal.returns-in-None
returns-in-None c = end_of_none c.args.run.now c.as_slice.result.now c.as_slice.ensures (sym c.in-None.ensures.value)
