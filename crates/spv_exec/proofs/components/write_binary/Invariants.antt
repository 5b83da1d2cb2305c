use Rattle.std.proofs.Common.{◌≡◌, take}
use Rattle.spv_ops.specs.ScalarWords.{word_of_two}
use Rattle.frame_model.specs.Shown.{words_at}
use Rattle.frame_model.specs.Written.{written}
use Rattle.frame_model.specs.Componentwise.{on_both}
use Rattle.spv_exec.proofs.components.write_binary.Given as goal

abbrev pub invariant-loop-k : goal.invariant-loop-k
invariant-loop-k l =
    l.frame ≡ written l.initial.frame l.at (take l.k (on_both (word_of_two l.op) (words_at l.initial.frame l.left l.count) (words_at l.initial.frame l.right l.count)))
