use Rattle.spv_text.proofs.Fitting.{all_from}
use Rattle.spv_text.proofs.list.push_module.Goals as goal

pub push_listing-requires : goal.push_listing-requires
push_listing-requires c = all_from c.args.insts.now c.requires
