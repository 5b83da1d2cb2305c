use Rattle.std.proofs.Common.{◌≡◌, take}
use Rattle.draw_model.specs.TargetWords.{words_set}
use Rattle.int_device.proofs.target_samples.write_words.Given as goal

abbrev pub invariant-loop-i : goal.invariant-loop-i
invariant-loop-i l = l.words ≡ words_set l.place (take l.i l.new) l.fn.words
