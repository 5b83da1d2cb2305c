use Rattle.std.proofs.Common.{ℕ, ◌<◌}
use Rattle.state_key.specs.Distinct.{DiffersFromEarlier}
use Rattle.state_key.proofs.lawful.are_distinct.Given as goal

abbrev pub invariant-loop-i : goal.invariant-loop-i
invariant-loop-i l = (k : ℕ) → k < l.i → DiffersFromEarlier l.entries k
