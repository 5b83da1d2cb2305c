use Rattle.std.proofs.Common.{◌≡◌, true, sym, ◌∙◌}
use Rattle.draw_model.specs.TargetWords.{suits}
use Rattle.int_device.specs.SampleRules.{told}
use Rattle.int_device.proofs.SampleLaws.{written}
use Rattle.int_device.proofs.target_samples.write_output.Goals as goal

pub returns-then-suits : goal.returns-then-suits
returns-then-suits c =
    let a = c.args in
    let h : suits a.attachment.format a.samples (told a.f.now) a.target.now ≡ true = sym c.if-suits.ensures in
    c.combine_sample.ensures ∙ written a.attachment a.logic a.samples (told a.f.now) a.words a.sample a.target.now h
