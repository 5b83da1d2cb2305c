use Rattle.std.proofs.Common.{◌≡◌, take}
use Rattle.std.specs.List.{list_any}
use Rattle.frame_model.specs.Shown.{words_at}
use Rattle.frame_model.specs.Componentwise.{is_true_word}
use Rattle.spv_exec.proofs.components.any_word.Given as goal

abbrev pub invariant-loop-k : goal.invariant-loop-k
invariant-loop-k l = l.any ≡ list_any is_true_word (take l.k (words_at l.frame l.from l.count))
