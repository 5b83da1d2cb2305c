use Rattle.std.proofs.Common.{◌∙◌, sym, ap, List}
use Rattle.spirv_model.specs.declared.module.Inst.{Inst}
use Rattle.spec_fold.specs.Facts.{arm_at}
use Rattle.spec_fold.proofs.ArmsFound.{arms_next, exits_next, left_at_end}
use Rattle.spec_fold.proofs.within.left_within.Goals as goal

pub loop-place-preserved : goal.loop-place-preserved
loop-place-preserved c =
    arms_next c.insts-insts.result.now c.args.limits.now c.loop-place.place c.arm_at.result c.loop-place.arms c.add_arm.new.arms
    (c.arm_at.ensures ∙ ap (λ (l : List Inst). arm_at l c.args.limits.now c.loop-place.place) (sym c.insts-insts.ensures.are)) c.loop-place.invariant c.in_ok-add_arm.ensures

pub loop-place-2-preserved : goal.loop-place-2-preserved
loop-place-2-preserved c =
    exits_next c.insts-insts.result.now c.args.limits.now c.loop-place.arms c.loop-place-2.place c.inst_at.result.now c.loop-place-2.within c.add_exits.new.within
    c.inst_at.ensures c.loop-place-2.invariant c.in_ok-add_exits.ensures

pub returns : goal.returns
returns c =
    left_at_end c.args.of.now c.insts-insts.result.now c.args.limits.now c.loop-place.arms c.loop-place-2.within c.loop-place.place c.loop-place-2.place c.insts-insts.ensures.are c.requires
    c.loop-place.auto.place-end c.loop-place-test.false c.loop-place.invariant c.loop-place-2.auto.place-end c.loop-place-2-test.false c.loop-place-2.invariant
