use Rattle.std.proofs.Common.{◌≡◌, ◌++◌}
use Rattle.std.specs.Prelude.{replicate}
use Rattle.spv_check.proofs.sequence_limits.add_places.Given as goal

abbrev pub invariant-loop : goal.invariant-loop
invariant-loop l = l.limits.items ≡ l.fn.limits.items ++ replicate l.counter l.limit
