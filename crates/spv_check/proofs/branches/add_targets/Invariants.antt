use Rattle.std.proofs.Common.{take}
use Rattle.body_model.specs.Switches.{is_among}
use Rattle.spv_check.specs.Branches.{AddsSource}
use Rattle.spv_check.proofs.BlockLists.{HasSeen}
use Rattle.spv_check.proofs.branches.add_targets.Given as goal

abbrev pub invariant-loop-target : goal.invariant-loop-target
invariant-loop-target l = record {
  seen : HasSeen l.seen (take l.target-index l.targets);
  added : AddsSource l.label (λ label. is_among label (take l.target-index l.targets)) l.fn.sources l.sources;
}
