use Rattle.stage_model.specs.Program.{program_of}
use Rattle.spv_exec.specs.Variables.{AreFills}
use Rattle.spv_exec.proofs.variables.fills.Given as goal

abbrev pub invariant-loop-place : goal.invariant-loop-place
invariant-loop-place l = AreFills (program_of l.of.insts) l.place l.fills.items
