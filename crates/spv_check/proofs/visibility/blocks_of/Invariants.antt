use Rattle.std.proofs.Common.{◌≡◌, ◌++◌, length}
use Rattle.spv_check.specs.Visibility.{blocks_named}
use Rattle.spv_check.proofs.visibility.blocks_of.Given as goal

abbrev pub invariant-loop-after : goal.invariant-loop-after
invariant-loop-after l = l.list.items ++ blocks_named l.rest ≡ blocks_named l.fn.words

abbrev pub decreases-loop-after : goal.decreases-loop-after
decreases-loop-after l = length l.rest
