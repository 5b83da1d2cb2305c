use Rattle.std.proofs.Common.{◌≡◌, take}
use Rattle.spv_check.proofs.copy.copies.Given as goal

abbrev pub invariant-loop-inst : goal.invariant-loop-inst
invariant-loop-inst l = l.list ≡ take l.inst-index l.insts
