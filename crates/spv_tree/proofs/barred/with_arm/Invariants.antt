use Rattle.std.proofs.Common.{◌≡◌, ◌∷◌, take}
use Rattle.spv_tree.proofs.barred.with_arm.Given as goal

abbrev pub invariant-loop-other : goal.invariant-loop-other
invariant-loop-other l = l.all.items ≡ l.fn.arm ∷ take l.other-index l.arms
