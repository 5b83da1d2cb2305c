-- So many passes are made, each of which has popped nothing, and nothing else has changed.
use Rattle.std.proofs.Common.{◌≡◌, replicate}
use Rattle.prio_workers.specs.Passes.{new_pass}
use Rattle.prio_workers.proofs.creation.make_passes.Given as goal

abbrev pub invariant-loop : goal.invariant-loop
invariant-loop g l = (l.shared ≡ l.fn.shared) × (l.low_push ≡ l.fn.low_push) × (l.passes.items ≡ replicate l.counter (new_pass l.set))
