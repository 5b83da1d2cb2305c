use Rattle.std.proofs.Common.{◌≡◌, ℕ, ◌<◌, false}
use Rattle.valid_model.specs.Definitions.{inst_at}
use Rattle.check_model.specs.EntryPoints.{is_op_function}
use Rattle.spv_rewrite.proofs.listing.function_place.Given as goal

abbrev pub invariant-loop-place : goal.invariant-loop-place
invariant-loop-place l = (k : ℕ) → k < l.place → is_op_function (inst_at l.insts k) ≡ false
