use Rattle.std.proofs.Common.{◌≡◌, ◌++◌, take}
use Rattle.spv_tree.specs.Listed.{nodes_list, runs_list}
use Rattle.spv_tree.proofs.flat.+flat.Given as goal

abbrev pub invariant-add_run-loop-node : goal.invariant-add_run-loop-node
invariant-add_run-loop-node l = l.list.items ≡ l.fn.list.items ++ nodes_list l.insts (take l.node-index l.node-items)

abbrev pub invariant-add_pick-loop-run : goal.invariant-add_pick-loop-run
invariant-add_pick-loop-run l = l.list.items ≡ l.fn.list.items ++ runs_list l.insts (take l.run-index l.run-items)
