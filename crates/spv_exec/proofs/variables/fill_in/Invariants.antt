use Rattle.std.proofs.Common.{◌≡◌, ℕ, ◌<◌, length, take}
use Rattle.std.specs.Prelude.{slice_index}
use Rattle.spv_exec.specs.Variables.{filled}
use Rattle.spv_exec.proofs.variables.fill_in.Given as goal

abbrev pub invariant-loop-fill : goal.invariant-loop-fill
invariant-loop-fill l = (at : ℕ) → at < length l.memory → slice_index l.memory at ≡ filled l.inputs l.buffers (take l.fill-index l.fills) at
