use Rattle.spv_rewrite.proofs.KeptInsts.{constant_more}
use Rattle.spv_rewrite.proofs.listing.push_constants.Goals as goal

pub loop-place-preserved : goal.loop-place-preserved
loop-place-preserved c =
    constant_more c.args.of.now c.args.first c.loop-place.place c.args.list.now c.loop-place.list c.push_constant.new.list c.inst.result.now c.fate.result c.loop-place.auto.place c.inst.ensures c.fate.ensures
    c.loop-place.invariant c.in_ok-push_constant.ensures
