use Rattle.std.proofs.Common.{◌≡◌, ℕ, ◌<◌, ◌≤◌, List, [], length, get_or, replicate, None}
use Rattle.std.specs.Prelude.{slice_index_or}
use Rattle.limits.specs.declared.TheConstants.{COMPONENTS, LOCATIONS}
use Rattle.spv_exec.specs.Outputs.{components_at}
use Rattle.spv_exec.proofs.outputs.put_slots.Given as goal

abbrev pub invariant-loop-location : goal.invariant-loop-location
invariant-loop-location l =
    (length l.to ≡ LOCATIONS)
    × ((k : ℕ) → k < l.location → get_or l.to k [] ≡ components_at l.memory (slice_index_or l.outputs.slots k None))
    × ((k : ℕ) → l.location ≤ k → k < LOCATIONS → get_or l.to k [] ≡ replicate COMPONENTS 0)
