use Rattle.std.proofs.Common.{◌≡◌, ◌++◌, length, map}
use Rattle.body_model.specs.Switches.{Case, cases_in, targets_of}
use Rattle.spv_check.proofs.branches.switch_targets.Given as goal

abbrev pub invariant-loop-after : goal.invariant-loop-after
invariant-loop-after l = l.list.items ++ map (λ (case : Case). case.target) (cases_in l.rest) ≡ targets_of l.fn.words

abbrev pub decreases-loop-after : goal.decreases-loop-after
decreases-loop-after l = length l.rest
