use Rattle.std.proofs.Common.{◌≡◌, ℕ, ◌<◌, length, get_or}
use Rattle.limits.specs.declared.TheConstants.{COMPONENTS}
use Rattle.spv_exec.specs.Outputs.{component_at}
use Rattle.spv_exec.proofs.outputs.put_components.Given as goal

abbrev pub invariant-loop-k : goal.invariant-loop-k
invariant-loop-k l = (length l.to ≡ COMPONENTS) × ((k : ℕ) → k < l.k → get_or l.to k 0 ≡ component_at l.memory l.output k)
