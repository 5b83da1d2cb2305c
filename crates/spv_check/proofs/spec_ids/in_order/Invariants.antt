use Rattle.std.proofs.Common.{◌≡◌, ◌++◌}
use Rattle.std.specs.BTreeSet.{keys, btree_set_len}
use Rattle.spv_check.proofs.spec_ids.in_order.Given as goal

abbrev pub invariant-loop-id : goal.invariant-loop-id
invariant-loop-id l = l.ids ++ keys l.spec_ids ≡ keys l.fn.spec_ids

abbrev pub decreases-loop-id : goal.decreases-loop-id
decreases-loop-id l = btree_set_len l.spec_ids
