use Rattle.std.proofs.Common.{◌≡◌, ◌++◌, take}
use Rattle.spv_check.specs.SequenceLimits.{nodes_limits, runs_limits}
use Rattle.spv_check.proofs.sequence_limits.+limits.Given as goal

abbrev pub invariant-add_pick-loop-run : goal.invariant-add_pick-loop-run
invariant-add_pick-loop-run l = l.limits.items ≡ l.fn.limits.items ++ runs_limits (take l.run-index l.run-items)

abbrev pub invariant-add_run-loop-node : goal.invariant-add_run-loop-node
invariant-add_run-loop-node l = l.limits.items ≡ l.fn.limits.items ++ nodes_limits l.end (take l.node-index l.node-items)
