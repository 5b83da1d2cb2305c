use Rattle.std.proofs.Common.{◌∙◌}
use Rattle.spirv_model.specs.declared.module.Words.{Words}
use Rattle.spv_rewrite.proofs.BlockEnds.{label_next}
use Rattle.spec_fold.proofs.LoopSets.{heads_next, heads_are}
use Rattle.spec_fold.proofs.loops.loop_headers.Goals as goal

pub loop-place-preserved : goal.loop-place-preserved
loop-place-preserved c =
    let so = c.loop-place in
    let words : Words = record { bound = c.args.of.now.bound; insts = c.insts-insts.result.now } in
    record {
      label = c.next_label-label.ensures ∙ label_next words so.place so.label c.inst_at-inst.result.now c.loop-place-test.true c.inst_at-inst.ensures so.invariant.label;
      heads = heads_next c.insts-insts.result.now c.args.of.now.insts c.args.left.now so.label c.inst_at-inst.result.now so.place so.heads c.add_header.new.heads c.insts-insts.ensures.are c.inst_at-inst.ensures
          so.invariant.label c.requires so.invariant.heads c.in_ok-add_header.ensures;
    }

pub returns : goal.returns
returns c = heads_are c.insts-insts.result.now c.args.of.now.insts c.loop-place.place c.loop-place.heads c.insts-insts.ensures.are c.loop-place.auto.place-end c.loop-place-test.false c.loop-place.invariant.heads
