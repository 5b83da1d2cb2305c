use Rattle.std.proofs.Common.{◌≡◌, length}
use Rattle.std.specs.List.{list_all}
use Rattle.check_model.specs.OperandTypes.{incoming_fits}
use Rattle.check_model.specs.Visibility.{incoming_in}
use Rattle.spv_check.specs.TypingIn.{typing_in}
use Rattle.spv_check.proofs.operand_types.incoming_fit.Given as goal

abbrev pub invariant-loop-value : goal.invariant-loop-value
invariant-loop-value l =
    list_all (incoming_fits (typing_in l.typing) l.ty) (incoming_in l.rest) ≡ list_all (incoming_fits (typing_in l.typing) l.ty) (incoming_in l.fn.words)

abbrev pub decreases-loop-value : goal.decreases-loop-value
decreases-loop-value l = length l.rest
