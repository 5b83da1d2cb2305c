use Rattle.std.proofs.Common.{◌≡◌, map, take}
use Rattle.frame_model.specs.Written.{written}
use Rattle.spv_exec.specs.Composites.{picked_of}
use Rattle.spv_exec.proofs.composites.pick_words.Given as goal

-- the words that the first literals pick are written
abbrev pub invariant-loop-k : goal.invariant-loop-k
invariant-loop-k l = l.to ≡ written l.initial.to 0 (map (picked_of l.front l.vectors) (take l.k l.literals))
