use Rattle.std.proofs.Common.{◌≡◌, map, take}
use Rattle.spv_ops.specs.ScalarWords.{word_of_one}
use Rattle.frame_model.specs.Shown.{words_at}
use Rattle.frame_model.specs.Written.{written}
use Rattle.spv_exec.proofs.components.write_unary.Given as goal

abbrev pub invariant-loop-k : goal.invariant-loop-k
invariant-loop-k l = l.frame ≡ written l.initial.frame l.at (take l.k (map (word_of_one l.op) (words_at l.initial.frame l.from l.count)))
