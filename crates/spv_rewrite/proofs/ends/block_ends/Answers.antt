use Rattle.std.proofs.Common.{refl, ◌∙◌, arith}
use Rattle.spirv_model.specs.declared.module.Words.{Words}
use Rattle.spv_rewrite.proofs.BlockEnds.{label_next, ends_more}
use Rattle.spv_rewrite.proofs.ends.block_ends.Goals as goal

pub loop-place-init : goal.loop-place-init
loop-place-init c = record { label = refl; ends = λ k less is. absurd (omega (arith, less)) }

pub loop-place-preserved : goal.loop-place-preserved
loop-place-preserved c =
    let words : Words = record { bound = c.args.bound; insts = c.args.insts.now } in
    let so = c.loop-place in
    record {
      label = c.next_label-label.ensures ∙ label_next words so.place so.label c.inst_at-inst.result.now c.loop-place-test.true c.inst_at-inst.ensures so.invariant.label;
      ends = ends_more words c.requires.valid so.place so.label c.inst_at-inst.result.now so.ends c.add_end.new.ends c.loop-place-test.true c.inst_at-inst.ensures so.invariant.label so.invariant.ends c.in_ok-add_end.ensures;
    }
