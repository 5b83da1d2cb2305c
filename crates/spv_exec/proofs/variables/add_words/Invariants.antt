use Rattle.std.proofs.Common.{◌≤◌}
use Rattle.spv_exec.specs.Variables.{AddsWords}
use Rattle.spv_exec.proofs.variables.add_words.Given as goal

abbrev pub invariant-loop-at : goal.invariant-loop-at
invariant-loop-at l = (l.fn.start ≤ l.at) × AddsWords l.origin l.offsets l.fn.start l.at l.initial.fills.items l.fills.items
