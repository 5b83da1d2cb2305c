use Rattle.std.proofs.Common.{◌≡◌, length}
use Rattle.stage_model.specs.Effect as effect
use Rattle.spec_fold.proofs.scalars.target_for.Given as goal

abbrev pub invariant-loop-rest : goal.invariant-loop-rest
invariant-loop-rest l = effect.target_for l.selector l.default l.rest ≡ effect.target_for l.selector l.default l.cases

abbrev pub decreases-loop-rest : goal.decreases-loop-rest
decreases-loop-rest l = length l.rest
