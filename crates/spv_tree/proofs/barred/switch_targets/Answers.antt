use Rattle.std.proofs.Common.{arith}
use Rattle.spv_tree.proofs.TargetTables.{known_more, all_known}
use Rattle.spv_tree.proofs.barred.switch_targets.Goals as goal

pub loop-inst-preserved : goal.loop-inst-preserved
loop-inst-preserved c =
    let so = c.loop-inst in
    record {
      at = omega arith;
      known = known_more c.args.insts.now so.inst-index so.place c.inst-item.result so.targets c.add_targets.new.targets c.loop-inst-test.true c.inst-item.is so.invariant.at so.invariant.known c.in_ok-add_targets.ensures;
    }

pub returns : goal.returns
returns c = all_known c.args.insts.now c.loop-inst.inst-index c.loop-inst.targets c.loop-inst-test.false c.loop-inst.invariant.known
