use Rattle.std.proofs.Common.{ℕ, ◌<◌, IsTrue, IsSome}
use Rattle.state_model.specs.Lawful.{present_at}
use Rattle.state_model.specs.Canonical.{is_named}
use Rattle.state_key.proofs.tidy.bindings_are_named.Given as goal

abbrev pub invariant-loop-number : goal.invariant-loop-number
invariant-loop-number l =
    (k : ℕ) → k < l.number → IsSome (present_at l.bindings k) → IsTrue (is_named l.attributes k)
