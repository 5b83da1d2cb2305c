use Rattle.std.specs.List.{list_any, range_with_len}
use Rattle.spec_fold.specs.Sets.{AreThose}
use Rattle.spec_fold.proofs.ArmsFound.{AreArmsBefore, leads_at}
use Rattle.spec_fold.proofs.within.left_within.Given as goal

abbrev pub invariant-loop-place : goal.invariant-loop-place
invariant-loop-place l = AreArmsBefore l.insts l.limits l.place l.arms

abbrev pub invariant-loop-place-2 : goal.invariant-loop-place-2
invariant-loop-place-2 l = AreThose (λ label. list_any (leads_at l.insts l.limits l.arms label) (range_with_len 0 l.place)) l.within
