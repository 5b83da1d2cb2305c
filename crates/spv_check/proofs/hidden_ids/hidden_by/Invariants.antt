use Rattle.spv_check.proofs.HiddenLists.{HiddenBefore}
use Rattle.spv_check.proofs.hidden_ids.hidden_by.Given as goal

abbrev pub invariant-loop-place : goal.invariant-loop-place
invariant-loop-place l = HiddenBefore l.insts l.place l.hidden.items
