use Rattle.std.specs.List.{list_any, range_with_len}
use Rattle.change_model.specs.Passes.{is_label, leaving_to}
use Rattle.spec_fold.specs.Sets.{AreThose}
use Rattle.spec_fold.proofs.loops.left_loops.Given as goal

abbrev pub invariant-loop-place : goal.invariant-loop-place
invariant-loop-place l = AreThose (λ id. list_any (λ place. is_label id (leaving_to l.of.insts place)) (range_with_len 0 l.place)) l.left
