use Rattle.spv_check.proofs.BlockLists.{Labelled}
use Rattle.spv_check.proofs.branches.block_labels.Given as goal

abbrev pub invariant-loop-place : goal.invariant-loop-place
invariant-loop-place l = Labelled l.insts l.place l.labels.items l.label
