use Rattle.std.proofs.Common.{◌∙◌}
use Rattle.spirv_model.specs.declared.module.Words.{Words}
use Rattle.change_model.specs.Plans.{written_at}
use Rattle.spv_rewrite.specs.Changes.{plan_in}
use Rattle.spv_rewrite.proofs.BlockEnds.{label_next}
use Rattle.spv_rewrite.proofs.Fronts.{front_label, one_more, none_yet}
use Rattle.spv_rewrite.proofs.listing.push_function.Goals as goal

pub loop-place-init : goal.loop-place-init
loop-place-init c = record {
  label = front_label c.args.of.now.insts.now c.requires.known.valid.derivation c.args.first c.requires.first c.requires.within;
  list = none_yet (written_at (plan_in c.args.of.now) c.args.of.now.insts.now) c.args.first c.args.list.now;
}

pub loop-place-preserved : goal.loop-place-preserved
loop-place-preserved c =
    let words : Words = record { bound = c.requires.known.bound; insts = c.args.of.now.insts.now } in
    let so = c.loop-place in
    record {
      label = c.next_label-label.ensures ∙ label_next words so.place so.label c.inst.result.now c.loop-place-test.true c.inst.ensures so.invariant.label;
      list = one_more (written_at (plan_in c.args.of.now) c.args.of.now.insts.now) c.args.first so.place c.args.list.now so.list c.push_written.new.list so.auto.place
          so.invariant.list c.in_ok-push_written.ensures;
    }
