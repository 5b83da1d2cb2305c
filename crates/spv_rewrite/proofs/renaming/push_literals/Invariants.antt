use Rattle.std.proofs.Common.{◌≡◌, ◌++◌, take}
use Rattle.spv_rewrite.proofs.renaming.push_literals.Given as goal

abbrev pub invariant-loop-literal : goal.invariant-loop-literal
invariant-loop-literal l = l.list ≡ l.fn.list ++ take l.literal-index l.literals
