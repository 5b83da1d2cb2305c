use Rattle.std.proofs.Common.{◌≡◌, ◌++◌}
use Rattle.stage_model.specs.Program.{shifted}
use Rattle.spv_exec.specs.BlockOffsets.{element_offsets}
use Rattle.spv_exec.proofs.block_offsets.add_elements.Given as goal

abbrev pub invariant-loop-i : goal.invariant-loop-i
invariant-loop-i l = l.offsets.items ≡ l.initial.offsets.items ++ shifted l.by (element_offsets l.meaning l.stride l.i)
