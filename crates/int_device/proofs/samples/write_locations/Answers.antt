use Rattle.std.proofs.Common.{◌≡◌, ℕ, [], sym, ap, ◌∙◌, arith}
use Rattle.std.specs.Prelude.{Option, slice_index_or}
use Rattle.std.specs.List.{fold, range_with_len}
use Rattle.draw_model.specs.declared.framebuffer.Targets.{Targets}
use Rattle.int_device.specs.declared.sample_rules.BoundAttachment.{BoundAttachment}
use Rattle.int_device.specs.SampleRules.{told, locations_by, location_by, with_write_by}
use Rattle.int_device.proofs.CanvasLaws.{present_is}
use Rattle.int_device.proofs.Ranges.{fold_more}
use Rattle.int_device.proofs.samples.write_locations.Goals as goal

pub loop-location-preserved : goal.loop-location-preserved
loop-location-preserved c =
    let r = c.args.rules.now in
    let f = told c.args.f.now in
    let words = slice_index_or c.args.slots.now c.loop-location.location [] in
    c.write.ensures
    ∙ ap (λ (b : Option BoundAttachment). with_write_by b r.logic r.samples f words c.args.sample c.loop-location.canvas) (present_is r.attachments c.loop-location.location)
    ∙ ap (λ (ts : Targets). location_by r f c.args.slots.now c.args.sample ts c.loop-location.location) c.loop-location.invariant
    ∙ sym (fold_more (location_by r f c.args.slots.now c.args.sample) c.args.canvas.now c.loop-location.location)

pub returns : goal.returns
unfolding locations_by
returns c =
    let all : c.loop-location.location ≡ 8 = omega arith in
    c.loop-location.invariant
    ∙ ap (λ (n : ℕ). fold (location_by c.args.rules.now (told c.args.f.now) c.args.slots.now c.args.sample) c.args.canvas.now (range_with_len 0 n)) all
