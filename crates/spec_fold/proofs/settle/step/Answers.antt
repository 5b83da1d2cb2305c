use Rattle.spec_fold.proofs.SettledSteps.{settled_step}
use Rattle.spec_fold.proofs.settle.step.Goals as goal

pub returns : goal.returns
returns c =
    settled_step c.note.result c.args.values.now c.args.of.now c.insts.ensures.valid c.args.place c.requires.within c.insts.result.now c.insts.ensures.are c.inst_at-inst.result.now c.inst_at-inst.ensures
    c.word.result c.word.ensures c.scalar_given-scalar.result c.args.scalars.now c.note.new.scalars c.args.list.now c.push_settled.new.list
    c.requires.before c.scalar_given-scalar.ensures c.in_ok-push_settled.ensures c.note.ensures
