use Rattle.std.proofs.Common.{◌≡◌, ◌++◌, length}
use Rattle.change_model.specs.Plans.{name_in}
use Rattle.spv_rewrite.specs.Renaming.{cases_left}
use Rattle.spv_rewrite.proofs.renaming.push_cases.Given as goal

abbrev pub invariant-loop-literal : goal.invariant-loop-literal
invariant-loop-literal l = l.list ++ cases_left (name_in l.names) l.rest ≡ l.fn.list ++ cases_left (name_in l.names) l.words

abbrev pub decreases-loop-literal : goal.decreases-loop-literal
decreases-loop-literal l = length l.rest
