use Rattle.std.proofs.Common.{◌≡◌, length}
use Rattle.spv_check.specs.Visibility.{first_hidden_value}
use Rattle.spv_check.proofs.visibility.hidden_value.Given as goal

abbrev pub invariant-loop-value : goal.invariant-loop-value
invariant-loop-value l = first_hidden_value l.ids l.limits l.branches l.place l.rest ≡ first_hidden_value l.ids l.limits l.branches l.place l.words

abbrev pub decreases-loop-value : goal.decreases-loop-value
decreases-loop-value l = length l.rest
