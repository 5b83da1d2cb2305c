use Rattle.std.proofs.Common.{sym, ◌∙◌}
use Rattle.spv_tree.proofs.TargetTables.{arm_met}
use Rattle.spv_tree.proofs.barred.is_barred.Goals as goal

pub returns-then-contains : goal.returns-then-contains
returns-then-contains c =
    arm_met c.args.targets.now c.args.arms.now c.loop-arm.arm-index c.args.label _ c.loop-arm-test.true c.if-label-arm.true c.if-label-arm-2.true (sym c.contains.ensures ∙ c.if-contains.true) c.loop-arm.invariant
