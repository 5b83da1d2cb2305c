use Rattle.stage_model.specs.Program.{program_of}
use Rattle.spv_exec.proofs.StartsTo.{MembersTo}
use Rattle.spv_exec.proofs.member_starts.add_members.Given as goal

abbrev pub invariant-loop-member : goal.invariant-loop-member
invariant-loop-member l = MembersTo (program_of l.of.insts) l.members l.initial.starts.items l.starts.items l.start l.member-index
