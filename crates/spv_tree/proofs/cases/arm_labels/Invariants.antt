use Rattle.std.proofs.Common.{◌∷◌, take}
use Rattle.body_model.specs.Switches.{without}
use Rattle.spv_tree.specs.Barred.{HasLabels, targets}
use Rattle.spv_tree.proofs.cases.arm_labels.Given as goal

abbrev pub invariant-loop-case : goal.invariant-loop-case
invariant-loop-case l = HasLabels l.labels (without l.merge (l.default ∷ targets (take l.case-index l.cases)))
