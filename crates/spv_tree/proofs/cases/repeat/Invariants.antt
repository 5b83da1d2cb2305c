use Rattle.spv_tree.proofs.CaseLists.{Repeats}
use Rattle.spv_tree.proofs.cases.repeat.Given as goal

abbrev pub invariant-loop-case : goal.invariant-loop-case
invariant-loop-case l = Repeats l.cases l.case-index l.seen
