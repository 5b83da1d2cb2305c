use Rattle.spec_fold.proofs.Places.{told_within}
use Rattle.spec_fold.proofs.scalars.constant_scalar.Goals as goal

pub inst_at-requires : goal.inst_at-requires
inst_at-requires c = told_within c.args.of.now.insts c.insts.result.now c.args.id c.in-Some.place c.definition_of.result c.insts.ensures.are c.definition_of.ensures c.in-Some.is
