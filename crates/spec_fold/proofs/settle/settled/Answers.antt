use Rattle.spec_fold.proofs.SettledSteps.{begun}
use Rattle.spec_fold.proofs.settle.settled.Goals as goal

pub loop-place-init : goal.loop-place-init
loop-place-init c = begun c.args.values.now c.args.of.now.insts c.in_ok-scalars.scalars c.in_ok-scalars.ensures.empty c.new-list.result c.new-list.ensures
