use Rattle.std.proofs.Common.{unwrap_or}
use Rattle.limits.specs.declared.TheConstants.{DESCRIPTOR_SETS}
use Rattle.state_key.proofs.Packing.{Packs}
use Rattle.state_key.proofs.key.set_masks.Given as goal

abbrev pub invariant-loop-set : goal.invariant-loop-set
invariant-loop-set l = Packs 8 DESCRIPTOR_SETS (λ set. unwrap_or set 0) l.sets l.set l.word

abbrev pub decreases-loop-set : goal.decreases-loop-set
decreases-loop-set l = l.set
