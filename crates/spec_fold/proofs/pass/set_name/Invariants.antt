use Rattle.std.proofs.Common.{◌≡◌, ℕ, ◌-◌, ◌+◌, length}
use Rattle.change_model.specs.Plans.{name_in}
use Rattle.spec_fold.proofs.pass.set_name.Given as goal

abbrev pub invariant-loop-names : goal.invariant-loop-names
invariant-loop-names l = (id : ℕ) → name_in l.names.items id ≡ name_in l.fn.names.items id

abbrev pub decreases-loop-names : goal.decreases-loop-names
decreases-loop-names l = l.own + 1 - length l.names.items
