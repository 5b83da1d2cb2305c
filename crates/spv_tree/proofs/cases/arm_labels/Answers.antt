use Rattle.std.proofs.lemmas.List.{take_more}
use Rattle.spv_tree.proofs.CaseLists.{label_more}
use Rattle.spv_tree.proofs.cases.arm_labels.Goals as goal

pub loop-case-preserved : goal.loop-case-preserved
loop-case-preserved c =
    label_more c.loop-case.labels c.add_arm-in-loop-case.new.labels c.args.merge c.args.default _ _ _ c.loop-case.invariant c.in_ok-add_arm-2.ensures (take_more c.args.cases.now c.loop-case.case-index _ c.loop-case-test.true)
