use Rattle.std.proofs.Common.{◌≡◌}
use Rattle.std.specs.Prelude.{filter}
use Rattle.std.specs.List.{fold, range_with_len}
use Rattle.draw_model.specs.Pixel.{has_bit}
use Rattle.int_device.specs.SampleRules.{told, sample_by}
use Rattle.int_device.proofs.samples.write_samples.Given as goal

abbrev pub invariant-loop-sample : goal.invariant-loop-sample
invariant-loop-sample l =
    l.canvas ≡ fold (sample_by l.rules (told l.f) l.slots) l.fn.canvas (filter (has_bit l.rules.mask) (range_with_len 0 l.sample))
