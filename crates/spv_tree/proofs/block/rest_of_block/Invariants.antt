use Rattle.std.proofs.Common.{◌≡◌, ◌+◌, ◌<◌, ◌^◌, List, ℕ, length}
use Rattle.body_model.specs.Blocks.{rest_of_block}
use Rattle.spv_tree.specs.Barred.{with_barred}
use Rattle.spv_tree.specs.Parts.{rest_from}
use Rattle.spv_tree.proofs.block.rest_of_block.Given as goal

abbrev pub invariant-loop-inst : goal.invariant-loop-inst
invariant-loop-inst l = record {
  few : l.place + length l.rest < 2 ^ 32;
  same : (barred : List ℕ) → rest_of_block (with_barred l.scope barred) l.label l.phis l.variables l.rest l.place ≡ rest_from (with_barred l.scope barred) l.label l.initial.rest l.initial.place;
}

abbrev pub decreases-loop-inst : goal.decreases-loop-inst
decreases-loop-inst l = length l.rest
