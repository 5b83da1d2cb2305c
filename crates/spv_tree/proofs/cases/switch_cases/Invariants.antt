use Rattle.std.proofs.Common.{◌≡◌, ◌++◌, length}
use Rattle.body_model.specs.Switches.{cases_in, cases_of}
use Rattle.spv_tree.specs.Barred.{as_cases}
use Rattle.spv_tree.proofs.cases.switch_cases.Given as goal

abbrev pub invariant-loop-literal : goal.invariant-loop-literal
invariant-loop-literal l = as_cases l.list.items ++ cases_in l.rest ≡ cases_of l.fn.words

abbrev pub decreases-loop-literal : goal.decreases-loop-literal
decreases-loop-literal l = length l.rest
