use Rattle.std.proofs.Common.{◌≡◌}
use Rattle.spv_tree.proofs.WholeTrees.{IsLevel}
use Rattle.spv_tree.proofs.structure.function.Given as goal

abbrev pub invariant-loop-inst : goal.invariant-loop-inst
invariant-loop-inst l = record {
  place : l.place ≡ l.inst-index;
  level : IsLevel l.insts l.inst-index;
}
