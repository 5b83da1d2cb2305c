use Rattle.std.proofs.Common.{◌≡◌, ◌-◌, ◌++◌}
use Rattle.std.specs.List.{flat_map, range_with_len}
use Rattle.change_model.specs.Plans.{constant_at}
use Rattle.spv_rewrite.specs.Changes.{plan_in}
use Rattle.spv_rewrite.proofs.listing.push_constants.Given as goal

abbrev pub invariant-loop-place : goal.invariant-loop-place
invariant-loop-place l = l.list ≡ l.fn.list ++ flat_map (constant_at (plan_in l.of) l.of.insts.now) (range_with_len l.first (l.place - l.first))
