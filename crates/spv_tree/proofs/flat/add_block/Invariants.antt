use Rattle.std.proofs.Common.{◌≡◌, ◌++◌, take}
use Rattle.spv_tree.proofs.flat.add_block.Given as goal

abbrev pub invariant-loop-inst : goal.invariant-loop-inst
invariant-loop-inst l = l.list.items ≡ l.fn.list.items ++ take l.inst-index l.own
