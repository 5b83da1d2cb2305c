use Rattle.spec_fold.proofs.Places.{told_within}
use Rattle.spec_fold.proofs.inputs.root_of.Goals as goal

pub inst_at-inst-requires : goal.inst_at-inst-requires
inst_at-inst-requires c = told_within c.args.of.now.insts c.insts.result.now c.args.id c.in-Some.place c.definition_of.result c.insts.ensures.are c.definition_of.ensures c.in-Some.is
