use Rattle.std.proofs.Common.{◌≡◌, ◌-◌, ◌++◌, take}
use Rattle.std.specs.List.{flat_map, range_with_len}
use Rattle.check_model.specs.Branches.{label_behind}
use Rattle.change_model.specs.Plans.{written_at}
use Rattle.spv_rewrite.specs.Changes.{plan_in}
use Rattle.spv_rewrite.proofs.listing.push_function.Given as goal

abbrev pub invariant-loop-place : goal.invariant-loop-place
invariant-loop-place l = record {
  label : l.label ≡ label_behind 0 (take l.place l.of.insts.now);
  list : l.list ≡ l.fn.list ++ flat_map (written_at (plan_in l.of) l.of.insts.now) (range_with_len l.first (l.place - l.first));
}
