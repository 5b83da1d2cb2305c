use Rattle.spec_fold.proofs.Passed.{phi_only, step_done}
use Rattle.spec_fold.proofs.pass.step.Goals as goal

pub value_for-value-requires-clause-phi : goal.value_for-value-requires-clause-phi
value_for-value-requires-clause-phi c =
    phi_only c.args.facts.now c.requires.facts c.args.walk.now c.args.place c.fate_found-fate.result c.fate_found-fate.ensures.outside c.fate_found-fate.ensures.inside

pub returns : goal.returns
returns c =
    step_done c.advance.result c.args.facts.now c.requires.facts c.args.place c.requires.within c.fate_found-fate.result c.value_for-value.result c.args.walk.now c.advance.new.walk
    c.requires.walk c.value_for-value.ensures c.advance.ensures c.fate_found-fate.ensures.outside c.fate_found-fate.ensures.inside
