use Rattle.spv_exec.specs.FirstFrames.{IsDefined}
use Rattle.spv_exec.proofs.constants.first_frame.Given as goal

abbrev pub invariant-loop-place : goal.invariant-loop-place
invariant-loop-place l = IsDefined l.of.insts l.values l.place l.frame.items
