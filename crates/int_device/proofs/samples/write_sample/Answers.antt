use Rattle.std.proofs.Common.{◌≡◌, false, sym, ◌∙◌}
use Rattle.int_device.specs.SampleRules.{told, sample_by, passes_by}
use Rattle.int_device.proofs.CanvasLaws.{failed_leaves}
use Rattle.int_device.proofs.samples.write_sample.Goals as goal

pub returns-else-test_depth : goal.returns-else-test_depth
unfolding sample_by
returns-else-test_depth c =
    let r = c.args.rules.now in
    let f = told c.args.f.now in
    let failed : passes_by r.depth r.samples f c.args.sample c.args.canvas.now ≡ false = sym c.if-test_depth.ensures.passes in
    rw failed (c.test_depth.ensures.stored ∙ failed_leaves r.depth r.samples f c.args.sample c.args.canvas.now failed)
