use Rattle.spv_check.proofs.Ascending.{spec_ids_if}
use Rattle.spv_check.proofs.spec_ids.spec_ids.Goals as goal

pub returns : goal.returns
returns c = spec_ids_if c.args.insts.now c.in_ok-set.set c.in_order.result c.in_ok-set.ensures c.in_order.ensures
