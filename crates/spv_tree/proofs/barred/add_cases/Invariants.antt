use Rattle.std.proofs.Common.{take}
use Rattle.body_model.specs.Switches.{is_among}
use Rattle.spv_tree.specs.Barred.{targets}
use Rattle.spv_tree.proofs.TargetTables.{HasMore}
use Rattle.spv_tree.proofs.barred.add_cases.Given as goal

abbrev pub invariant-loop-case : goal.invariant-loop-case
invariant-loop-case l = HasMore l.targets l.fn.targets l.place (λ label. is_among label (targets (take l.case-index l.cases)))
