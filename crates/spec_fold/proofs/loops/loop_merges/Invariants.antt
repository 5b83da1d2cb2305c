use Rattle.std.proofs.Common.{take}
use Rattle.std.specs.List.{list_any}
use Rattle.spec_fold.specs.Loops.{merges_to}
use Rattle.spec_fold.specs.Sets.{AreThose}
use Rattle.spec_fold.proofs.loops.loop_merges.Given as goal

abbrev pub invariant-loop-place : goal.invariant-loop-place
invariant-loop-place l = AreThose (λ id. list_any (λ inst. merges_to inst id) (take l.place l.insts)) l.merges
