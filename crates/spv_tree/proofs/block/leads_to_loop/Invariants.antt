use Rattle.std.proofs.Common.{◌≡◌, length}
use Rattle.body_model.specs.Blocks.{leads_to_loop}
use Rattle.spv_tree.proofs.block.leads_to_loop.Given as goal

abbrev pub invariant-loop-inst : goal.invariant-loop-inst
invariant-loop-inst l = leads_to_loop l.rest ≡ leads_to_loop l.initial.rest

abbrev pub decreases-loop-inst : goal.decreases-loop-inst
decreases-loop-inst l = length l.rest
