use Rattle.std.proofs.Common.{◌≡◌, take, drop}
use Rattle.draw_model.specs.Pixel.{stored_pixel}
use Rattle.draw_model.specs.TargetWords.{words_set}
use Rattle.int_device.specs.SampleRules.{four}
use Rattle.int_device.proofs.target_samples.write_components.Given as goal

abbrev pub invariant-loop-i : goal.invariant-loop-i
invariant-loop-i l = l.words ≡ words_set l.place (take l.i (stored_pixel l.logic l.mask l.new (four (take l.size (drop l.place l.fn.words))))) l.fn.words
