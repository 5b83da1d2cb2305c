use Rattle.std.proofs.Common.{◌≡◌, drop}
use Rattle.trace_text.specs.ModuleParts.{members_behind}
use Rattle.trace_text.proofs.module_parts.members_behind.Given as goal

abbrev pub invariant-loop-member : goal.invariant-loop-member
invariant-loop-member l =
    members_behind l.«module».insts l.limit l.block l.member (drop l.member l.types) ≡ members_behind l.«module».insts l.limit l.block 0 l.types
