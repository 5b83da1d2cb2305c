use Rattle.std.proofs.Common.{◌≡◌, ℕ, length}
use Rattle.stage_model.specs.Effect.{paired_with}
use Rattle.spv_exec.proofs.phis.paired.Given as goal

abbrev pub invariant-loop-rest : goal.invariant-loop-rest
invariant-loop-rest l = paired_with l.before l.rest ≡ paired_with l.before l.pairs

abbrev pub decreases-loop-rest : goal.decreases-loop-rest
decreases-loop-rest l = length l.rest
