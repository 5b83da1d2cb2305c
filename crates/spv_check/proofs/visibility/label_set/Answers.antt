use Rattle.std.proofs.Common.{◌+◌, take, get_or}
use Rattle.std.proofs.lemmas.List.{take_more}
use Rattle.spv_check.proofs.BlockLists.{seen_more}
use Rattle.spv_check.proofs.visibility.label_set.Goals as goal

pub loop-label-preserved : goal.loop-label-preserved
loop-label-preserved c =
    let labels = c.args.labels.now in
    let so = c.loop-label in
    seen_more so.set c.see.new.seen (take so.label-index labels) (take (so.label-index + 1) labels) (get_or labels so.label-index 0) so.invariant
    (take_more labels so.label-index 0 c.loop-label-test.true) c.in_ok-_is_new.ensures.now
