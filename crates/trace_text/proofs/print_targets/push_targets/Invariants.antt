use Rattle.std.proofs.Common.{◌≡◌, ◌+◌, ◌++◌, length}
use Rattle.std.specs.List.{flat_map, enumerate_from}
use Rattle.trace_model.specs.PlayText.{target_text}
use Rattle.trace_text.proofs.print_targets.push_targets.Given as goal

-- what is printed, and the targets that are left
abbrev pub invariant-loop-target : goal.invariant-loop-target
invariant-loop-target l = record {
  same : l.text.items ++ flat_map target_text (enumerate_from l.number l.rest) ≡ l.fn.text.items ++ flat_map target_text (enumerate_from 0 l.targets);
  place : l.number + length l.rest ≡ length l.targets;
}

abbrev pub decreases-loop-target : goal.decreases-loop-target
decreases-loop-target l = length l.rest
