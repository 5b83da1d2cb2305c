use Rattle.std.proofs.Common.{◌≡◌, ◌+◌, ◌≤◌, ◌++◌, length, reverse, vec_len, vec_capacity}
use Rattle.int_device.proofs.canvas.move_all.Given as goal

abbrev pub invariant-loop-target : goal.invariant-loop-target
invariant-loop-target l = record {
  all : l.from ++ reverse l.to.items ≡ l.fn.from;
  room : length l.from + vec_len l.to ≤ vec_capacity l.to;
}

abbrev pub decreases-loop-target : goal.decreases-loop-target
decreases-loop-target l = length l.from
