use Rattle.std.proofs.Common.{◌+◌, ◌*◌, arith}
use Rattle.spv_exec.proofs.ShiftedOffsets.{components_step}
use Rattle.spv_exec.proofs.block_offsets.add_components.Goals as goal

pub loop-i-preserved : goal.loop-i-preserved
loop-i-preserved c =
    components_step c.args.by c.loop-i.i (c.args.by + 4 * c.from.result) c.args.offsets.now.items c.loop-i.offsets.items c.push-in-loop-i.new.self.items
    c.in_ok-push-in-Shape-IntVector.ensures.items (omega (arith, c.from.ensures)) c.loop-i.invariant
