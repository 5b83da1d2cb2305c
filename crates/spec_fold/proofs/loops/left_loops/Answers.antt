use Rattle.std.proofs.Common.{length, sym, ap, List}
use Rattle.spirv_model.specs.declared.module.Inst.{Inst}
use Rattle.spec_fold.proofs.LoopSets.{lefts_next, lefts_are}
use Rattle.spec_fold.proofs.loops.left_loops.Goals as goal

pub loop-place-preserved : goal.loop-place-preserved
loop-place-preserved c = lefts_next c.args.of.now.insts c.leaving_to.result c.loop-place.place c.loop-place.left c.add_left.new.left c.leaving_to.ensures c.loop-place.invariant c.in_ok-add_left.ensures

pub returns : goal.returns
returns c =
    lefts_are c.args.of.now.insts c.loop-place.place (length c.insts-count.result.now) c.loop-place.left (ap (λ (l : List Inst). length l) (sym c.insts-count.ensures.are)) c.loop-place.auto.place-end c.loop-place-test.false
    c.loop-place.invariant
