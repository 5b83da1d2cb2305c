use Rattle.std.proofs.Common.{is_some}
use Rattle.state_model.specs.Key.{bit}
use Rattle.limits.specs.declared.TheConstants.{DESCRIPTOR_SETS}
use Rattle.state_key.proofs.Packing.{Packs}
use Rattle.state_key.proofs.key.sets_defined.Given as goal

abbrev pub invariant-loop-set : goal.invariant-loop-set
invariant-loop-set l = Packs 1 DESCRIPTOR_SETS (λ set. bit (is_some set)) l.sets l.set l.word

abbrev pub decreases-loop-set : goal.decreases-loop-set
decreases-loop-set l = l.set
