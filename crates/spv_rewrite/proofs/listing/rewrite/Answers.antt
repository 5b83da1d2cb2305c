use Rattle.spv_rewrite.proofs.KeptInsts.{for_any, valid_parts}
use Rattle.spv_rewrite.proofs.listing.rewrite.Goals as goal

pub block_ends-requires-clause-valid : goal.block_ends-requires-clause-valid
block_ends-requires-clause-valid c = valid_parts c.args.of.now c.bound.ensures.valid c.bound.result c.insts-insts.result.now c.bound.ensures.is c.insts-insts.ensures.are

pub changed_list-requires : goal.changed_list-requires
changed_list-requires c = record {
  bound = c.bound.result;
  valid = valid_parts c.args.of.now c.bound.ensures.valid c.bound.result c.insts-insts.result.now c.bound.ensures.is c.insts-insts.ensures.are;
  ends = c.in_ok-ends.ensures;
}

pub returns : goal.returns
returns c = for_any c.changed_list.result c.args.fates.now c.args.names.now c.insts-insts.result.now c.args.of.now.insts c.insts-insts.ensures.are c.changed_list.ensures
