use Rattle.spv_exec.proofs.ShiftedOffsets.{elements_step, same_place}
use Rattle.spv_exec.proofs.block_offsets.add_elements.Goals as goal

pub loop-i-preserved : goal.loop-i-preserved
loop-i-preserved c =
    elements_step c.args.meaning.now c.args.stride c.args.by c.loop-i.i _ c.args.offsets.now.items c.loop-i.offsets.items c.add_components.new.offsets.items
    c.in_ok-add_components.ensures (same_place _ _ _ c.args.by c.loop-i.i c.args.stride c.from.ensures c.from-in-loop-i.ensures c.from-in-loop-i-2.ensures) c.loop-i.invariant
