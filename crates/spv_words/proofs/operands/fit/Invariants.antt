use Rattle.std.proofs.Common.{◌≡◌, is_some, length}
use Rattle.spirv_model.specs.Operands.{kinds_from, listed_of}
use Rattle.spv_words.proofs.operands.fit.Given as goal

-- what is left fits where the whole does
abbrev pub invariant-loop-left : goal.invariant-loop-left
invariant-loop-left l =
    is_some (kinds_from (listed_of l.left) l.left.rest l.words) ≡ is_some (kinds_from (listed_of l.operands) l.operands.rest l.fn.words)

abbrev pub decreases-loop-left : goal.decreases-loop-left
decreases-loop-left l = length l.words
