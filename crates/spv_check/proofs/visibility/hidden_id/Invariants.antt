use Rattle.std.proofs.Common.{◌≡◌, length}
use Rattle.check_model.specs.Visibility.{used_ids}
use Rattle.spv_check.specs.Visibility.{first_hidden_id}
use Rattle.spv_check.proofs.visibility.hidden_id.Given as goal

abbrev pub invariant-loop-id : goal.invariant-loop-id
invariant-loop-id l = first_hidden_id l.ids l.limits l.place l.left ≡ first_hidden_id l.ids l.limits l.place (used_ids l.inst)

abbrev pub decreases-loop-id : goal.decreases-loop-id
decreases-loop-id l = length l.left
