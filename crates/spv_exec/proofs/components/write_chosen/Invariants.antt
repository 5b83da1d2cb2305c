use Rattle.std.proofs.Common.{◌≡◌, take}
use Rattle.frame_model.specs.Shown.{words_at}
use Rattle.frame_model.specs.Written.{written}
use Rattle.frame_model.specs.Componentwise.{chosen_words}
use Rattle.spv_exec.proofs.components.write_chosen.Given as goal

abbrev pub invariant-loop-k : goal.invariant-loop-k
invariant-loop-k l =
    l.frame ≡ written l.initial.frame l.at (take l.k (chosen_words (words_at l.initial.frame l.conditions l.count) (words_at l.initial.frame l.first l.count) (words_at l.initial.frame l.second l.count)))
