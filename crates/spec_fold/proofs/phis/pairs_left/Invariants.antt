use Rattle.std.proofs.Common.{◌≡◌, length}
use Rattle.valid_model.specs.Definitions.{inst_at}
use Rattle.check_model.specs.Visibility.{incoming, incoming_in}
use Rattle.spec_fold.specs.PhiPairs.{left_with, pairs_there}
use Rattle.spec_fold.specs.declared.phis.Left.TheVariants.{Nothing}
use Rattle.spec_fold.proofs.phis.pairs_left.Given as goal

abbrev pub invariant-loop-rest : goal.invariant-loop-rest
invariant-loop-rest l =
    left_with l.left (pairs_there l.facts l.walk l.place (incoming_in l.rest)) ≡ left_with Nothing (pairs_there l.facts l.walk l.place (incoming (inst_at l.facts.of.now.insts l.place)))

abbrev pub decreases-loop-rest : goal.decreases-loop-rest
decreases-loop-rest l = length l.rest
