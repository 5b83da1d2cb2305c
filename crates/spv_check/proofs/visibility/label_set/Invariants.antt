use Rattle.std.proofs.Common.{take}
use Rattle.spv_check.specs.Visibility.{HasLabels}
use Rattle.spv_check.proofs.visibility.label_set.Given as goal

abbrev pub invariant-loop-label : goal.invariant-loop-label
invariant-loop-label l = HasLabels l.set (take l.label-index l.labels)
