use Rattle.std.proofs.Common.{◌≡◌}
use Rattle.spv_tree.proofs.TargetTables.{KnowsFirst}
use Rattle.spv_tree.proofs.barred.switch_targets.Given as goal

abbrev pub invariant-loop-inst : goal.invariant-loop-inst
invariant-loop-inst l = record {
  at : l.place ≡ l.inst-index;
  known : KnowsFirst l.insts l.inst-index l.targets;
}
