use Rattle.spv_exec.specs.Outputs.{AreOutputs}
use Rattle.spv_exec.proofs.outputs.outputs_of.Given as goal

abbrev pub invariant-loop-place : goal.invariant-loop-place
invariant-loop-place l = AreOutputs l.of.insts l.place l.outputs
