use Rattle.std.proofs.Common.{◌≡◌, false, take}
use Rattle.body_model.specs.Switches.{repeat}
use Rattle.spv_check.specs.Visibility.{HasLabels}
use Rattle.spv_check.proofs.visibility.repeat.Given as goal

abbrev pub invariant-loop-label : goal.invariant-loop-label
invariant-loop-label l = record {
  seen : HasLabels l.seen (take l.label-index l.labels);
  none : repeat (take l.label-index l.labels) ≡ false;
}
