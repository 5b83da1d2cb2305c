use Rattle.stage_model.specs.Program.{program_of}
use Rattle.spv_exec.proofs.PreparedRuns.{killed_leaves, lost_leaves}
use Rattle.spv_exec.proofs.prepared.leave.Goals as goal

pub returns-in-Killed : goal.returns-in-Killed
returns-in-Killed c = λ held holds. killed_leaves (program_of c.args.variables.now.insts) c.args.ended.now held c.requires.position c.requires.slots c.in-Killed.is

pub returns-in-Lost : goal.returns-in-Lost
returns-in-Lost c = λ held holds. lost_leaves (program_of c.args.variables.now.insts) c.args.ended.now held c.requires.position c.requires.slots c.in-Lost.is
