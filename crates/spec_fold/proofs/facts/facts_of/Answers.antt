use Rattle.spv_rewrite.proofs.KeptInsts.{valid_parts}
use Rattle.spec_fold.proofs.facts.facts_of.Goals as goal

pub block_ends-requires-clause-valid : goal.block_ends-requires-clause-valid
block_ends-requires-clause-valid c = valid_parts c.args.of.now c.bound.ensures.valid c.bound.result c.insts-insts.result.now c.bound.ensures.is c.insts-insts.ensures.are
