use Rattle.std.proofs.Common.{◌≡◌, ℕ, take}
use Rattle.std.specs.Ordering.{nat_cmp}
use Rattle.std.specs.BTreeMap.{get}
use Rattle.check_model.specs.Branches.{block_end_of}
use Rattle.spv_check.proofs.branches.block_ends.Given as goal

abbrev pub invariant-loop-place : goal.invariant-loop-place
invariant-loop-place l = (label : ℕ) → get nat_cmp l.ends label ≡ block_end_of (take l.place l.insts) label
