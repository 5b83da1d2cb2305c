use Rattle.check_model.specs.Validity.{IsValidList}
use Rattle.std.proofs.Common.{subst}
use Rattle.spec_fold.proofs.Turns.{came_again, falls, last_pass}
use Rattle.spec_fold.proofs.specialiser.straightened.Goals as goal

pub returns-then-not-walk : goal.returns-then-not-walk
returns-then-not-walk c = last_pass c.loop-now.now (subst IsValidList c.now.view_is c.now.invariant.valid) c.args.zeros.now c.in_ok-walk.walk c.in_ok-walk.ensures c.if-not-walk.true c.args.first c.loop-now.invariant

pub loop-now-smaller : goal.loop-now-smaller
loop-now-smaller c = falls c.loop-now.now (subst IsValidList c.now.view_is c.now.invariant.valid) c.args.zeros.now c.in_ok-walk.walk c.in_ok-walk.ensures c.in_ok-now.now c.in_ok-now.ensures c.if-not-walk.false

pub loop-now-preserved : goal.loop-now-preserved
loop-now-preserved c entries old came =
    came_again c.loop-now.now (subst IsValidList c.now.view_is c.now.invariant.valid) c.args.zeros.now c.in_ok-walk.walk c.in_ok-walk.ensures c.in_ok-now.now c.in_ok-now.ensures entries old
    (c.loop-now.invariant entries old came)
