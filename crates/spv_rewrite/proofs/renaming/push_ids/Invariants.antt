use Rattle.std.proofs.Common.{◌≡◌, ◌++◌, map, take}
use Rattle.change_model.specs.Plans.{name_in}
use Rattle.spv_rewrite.proofs.renaming.push_ids.Given as goal

abbrev pub invariant-loop-id : goal.invariant-loop-id
invariant-loop-id l = l.list ≡ l.fn.list ++ map (name_in l.names) (take l.id-index l.ids)
