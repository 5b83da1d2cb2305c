use Rattle.std.proofs.Common.{◌≡◌, List, ℕ, take}
use Rattle.spv_tree.specs.Barred.{as_cases}
use Rattle.spv_tree.specs.Parts.{Numbers}
use Rattle.spv_tree.specs.Trees.{numbered}
use Rattle.spv_tree.proofs.sequence.pick_cases.Given as goal

abbrev pub invariant-loop-case : goal.invariant-loop-case
invariant-loop-case l = (labels : List ℕ) → Numbers l.numbers labels → l.list ≡ numbered (as_cases (take l.case-index l.literals)) labels
