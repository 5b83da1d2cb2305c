use Rattle.stage_model.specs.Program.{program_of}
use Rattle.spv_exec.proofs.ShiftedOffsets.{Joined}
use Rattle.spv_exec.proofs.block_offsets.members_offsets.Given as goal

abbrev pub invariant-loop-member : goal.invariant-loop-member
invariant-loop-member l = Joined (program_of l.of.insts) l.block l.members l.member l.offsets.items
