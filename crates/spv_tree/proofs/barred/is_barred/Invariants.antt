use Rattle.std.proofs.Common.{◌≡◌, drop}
use Rattle.spv_tree.specs.Barred.{is_barred}
use Rattle.spv_tree.proofs.barred.is_barred.Given as goal

abbrev pub invariant-loop-arm : goal.invariant-loop-arm
invariant-loop-arm l = is_barred l.targets l.arms l.label ≡ is_barred l.targets (drop l.arm-index l.arms) l.label
