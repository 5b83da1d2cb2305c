use Rattle.std.proofs.Common.{◌-◌}
use Rattle.stage_model.specs.Stage.{enough_steps}
use Rattle.spv_exec.proofs.WalkRuns.{WalksOn}
use Rattle.spv_exec.proofs.walk.walk.Given as goal

abbrev pub invariant-loop-kind : goal.invariant-loop-kind
invariant-loop-kind l = WalksOn l.of l.first l.fn.frame l.fn.incoming l.fn.memory l.at l.frame l.incoming l.memory

abbrev pub decreases-loop-kind : goal.decreases-loop-kind
decreases-loop-kind l = enough_steps l.of.insts - l.at.work
