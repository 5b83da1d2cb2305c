use Rattle.std.proofs.Common.{◌≡◌, ◌*◌, ◌++◌, map}
use Rattle.std.specs.List.{range_with_len}
use Rattle.stage_model.specs.Program.{shifted}
use Rattle.spv_exec.proofs.block_offsets.add_components.Given as goal

abbrev pub invariant-loop-i : goal.invariant-loop-i
invariant-loop-i l = l.offsets.items ≡ l.initial.offsets.items ++ shifted l.by (map (λ i. 4 * i) (range_with_len 0 l.i))
