use Rattle.std.proofs.lemmas.List.{take_more}
use Rattle.spv_tree.proofs.TargetTables.{case_more}
use Rattle.spv_tree.proofs.barred.add_cases.Goals as goal

pub loop-case-preserved : goal.loop-case-preserved
loop-case-preserved c =
    case_more c.args.targets.now c.loop-case.targets c.add_pair.new.targets c.args.place _ _ _ c.loop-case.invariant c.in_ok-add_pair.ensures (take_more c.args.cases.now c.loop-case.case-index _ c.loop-case-test.true)
