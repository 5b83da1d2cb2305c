use Rattle.std.proofs.Common.{List, sym, subst}
use Rattle.stage_model.specs.Program.{program_of}
use Rattle.spv_exec.specs.declared.variables.Fill.{Fill}
use Rattle.spv_exec.specs.Variables.{AreFills}
use Rattle.spv_exec.proofs.FilledVariables.{fills_none}
use Rattle.spv_exec.proofs.variables.fills.Goals as goal

pub loop-place-init : goal.loop-place-init
loop-place-init c = subst (λ (l : List Fill). AreFills (program_of c.args.of.now.insts) 0 l) (sym c.new-fills.ensures.items) (fills_none (program_of c.args.of.now.insts))
