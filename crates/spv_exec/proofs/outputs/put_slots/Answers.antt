use Rattle.std.proofs.Common.{ℕ, [], arith, None}
use Rattle.std.specs.Prelude.{slice_index_or}
use Rattle.std.proofs.lemmas.List.FromFn.{fill_by_all}
use Rattle.limits.specs.declared.TheConstants.{LOCATIONS}
use Rattle.spv_exec.specs.Outputs.{components_at}
use Rattle.spv_exec.proofs.outputs.put_slots.Goals as goal

pub returns : goal.returns
returns c =
    fill_by_all (λ (k : ℕ). components_at c.args.memory.now (slice_index_or c.args.outputs.now.slots k None)) c.loop-location.to LOCATIONS [] c.loop-location.invariant.0
    (λ k less. c.loop-location.invariant.1 k (omega (arith, less, c.loop-location-test.false)))
