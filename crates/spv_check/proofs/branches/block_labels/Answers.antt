use Rattle.spv_check.proofs.BlockLists.{labelled_more}
use Rattle.spv_check.proofs.branches.block_labels.Goals as goal

pub loop-place-preserved : goal.loop-place-preserved
loop-place-preserved c =
    labelled_more c.args.insts.now c.loop-place.place c.loop-place.labels.items c.push.new.self.items c.loop-place.label c.label_after-label.result c.inst_at.result.now c.loop-place-test.true c.inst_at.ensures
    c.loop-place.invariant c.in_ok-push.ensures.items c.label_after-label.ensures
