use Rattle.std.proofs.Common.{◌≡◌, take}
use Rattle.check_model.specs.Branches.{label_behind}
use Rattle.spv_rewrite.specs.Ends.{AreEndsUpTo}
use Rattle.spv_rewrite.proofs.ends.block_ends.Given as goal

abbrev pub invariant-loop-place : goal.invariant-loop-place
invariant-loop-place l = record {
  label : l.label ≡ label_behind 0 (take l.place l.insts);
  ends : AreEndsUpTo l.place l.insts l.ends;
}
