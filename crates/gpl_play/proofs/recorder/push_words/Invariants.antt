use Rattle.std.proofs.Common.{◌≡◌, ◌+◌, drop}
use Rattle.draw_model.specs.TargetWords.{words_set}
use Rattle.gpl_play.proofs.recorder.push_words.Given as goal

abbrev pub invariant-loop-i : goal.invariant-loop-i
invariant-loop-i l =
    record l.dynamic { push = words_set (l.at + l.i) (drop l.i l.words) l.dynamic.push }
    ≡ record l.fn.dynamic { push = words_set l.at l.words l.fn.dynamic.push }
