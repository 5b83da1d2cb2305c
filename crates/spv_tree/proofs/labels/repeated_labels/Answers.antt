use Rattle.std.proofs.Common.{Bool, List, ap, ◌∙◌, false, get_or, length, arith}
use Rattle.std.proofs.lemmas.List.{length-append}
use Rattle.spv_tree.proofs.LabelMarks.{seen_more, marks_more}
use Rattle.spv_tree.proofs.labels.repeated_labels.Goals as goal

pub loop-inst-preserved : goal.loop-inst-preserved
loop-inst-preserved c =
    let insts = c.args.insts.now in
    let so = c.loop-inst.invariant in
    let pushed = c.in_ok-push.ensures.items in
    record {
      lengths = omega (arith, length-append {A = Bool}, ap length pushed);
      each = λ place below. ap (λ (l : List Bool). get_or l place false) pushed
          ∙ marks_more insts c.loop-inst.marks.items c.loop-inst.inst-index c.inst-item.result c.in_ok-is_repeated.is_repeated c.loop-inst.seen so.lengths c.loop-inst-test.true c.inst-item.is
          so.each so.seen c.in_ok-is_repeated.ensures.before place below;
      seen = seen_more insts c.loop-inst.inst-index c.inst-item.result c.loop-inst.seen c.see.new.seen c.loop-inst-test.true c.inst-item.is so.seen c.in_ok-is_repeated.ensures.now;
    }
