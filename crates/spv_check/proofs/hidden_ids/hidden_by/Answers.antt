use Rattle.spv_check.proofs.HiddenLists.{hidden_more}
use Rattle.spv_check.proofs.hidden_ids.hidden_by.Goals as goal

pub loop-place-preserved : goal.loop-place-preserved
loop-place-preserved c =
    hidden_more c.args.insts.now c.loop-place.place c.loop-place.hidden.items c.push.new.self.items c.in_ok-id.id c.loop-place.invariant c.in_ok-push.ensures.items c.in_ok-id.ensures
