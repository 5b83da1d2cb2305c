use Rattle.std.proofs.Common.{◌≡◌, ℕ, take}
use Rattle.check_model.specs.Branches.{predecessors}
use Rattle.spv_check.specs.Branches.{list_at}
use Rattle.spv_check.proofs.branches.block_sources.Given as goal

abbrev pub invariant-loop-place : goal.invariant-loop-place
invariant-loop-place l = (label : ℕ) → list_at l.sources label ≡ predecessors (take l.place l.insts) label
