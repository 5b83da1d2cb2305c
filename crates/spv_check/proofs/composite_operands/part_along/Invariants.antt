use Rattle.std.proofs.Common.{◌≡◌, length}
use Rattle.check_model.specs.CompositeOperands.{part_along}
use Rattle.spv_check.specs.TypingIn.{typing_in}
use Rattle.spv_check.proofs.composite_operands.part_along.Given as goal

abbrev pub invariant-loop-index : goal.invariant-loop-index
invariant-loop-index l = part_along (typing_in l.typing) l.reached l.rest ≡ part_along (typing_in l.typing) l.fn.start l.fn.indices

abbrev pub decreases-loop-index : goal.decreases-loop-index
decreases-loop-index l = length l.rest
