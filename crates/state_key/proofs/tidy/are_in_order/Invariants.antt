use Rattle.std.proofs.Common.{ℕ, ◌<◌, Option, get_or}
use Rattle.state_model.specs.Canonical.{Precedes}
use Rattle.state_model.specs.declared.parts.Entry.{Entry}
use Rattle.state_key.proofs.tidy.are_in_order.Given as goal

abbrev pub invariant-loop-i : goal.invariant-loop-i
invariant-loop-i l =
    (j k : ℕ) (d : Option Entry) → j < k → k < l.i → Precedes (get_or l.entries j d) (get_or l.entries k d)
