use Rattle.std.proofs.Common.{◌≡◌, replicate}
use Rattle.frame_model.specs.Written.{written}
use Rattle.spv_exec.proofs.composites.clear_words.Given as goal

-- so many zeros are written
abbrev pub invariant-loop-k : goal.invariant-loop-k
invariant-loop-k l = l.to ≡ written l.initial.to 0 (replicate l.k 0)
