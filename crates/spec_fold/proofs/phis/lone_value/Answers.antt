use Rattle.std.proofs.Common.{ap, sym, ◌∙◌}
use Rattle.valid_model.specs.Definitions.{inst_at}
use Rattle.check_model.specs.Visibility.{incoming}
use Rattle.spec_fold.specs.PhiPairs.{lone_value, pairs_there}
use Rattle.spec_fold.proofs.Decisions.{left_lone, not_one, value_of}
use Rattle.spec_fold.proofs.LonePairs.{pairs_same}
use Rattle.spec_fold.proofs.phis.lone_value.Goals as goal

pub returns-in-One : goal.returns-in-One
returns-in-One c =
    let facts = c.args.facts.now in let walk = c.args.walk.now in
    sym (ap value_of c.in-One.is) ∙ ap value_of c.pairs_left.ensures ∙ left_lone (pairs_there facts walk c.args.place (incoming (inst_at facts.of.now.insts c.args.place)))
    ∙ ap lone_value (pairs_same facts c.requires.facts walk c.args.place c.requires.within c.requires.phi c.requires.walk.label)

pub returns-in_default : goal.returns-in_default
returns-in_default c =
    let facts = c.args.facts.now in let walk = c.args.walk.now in
    not_one (pairs_there facts walk c.args.place (incoming (inst_at facts.of.now.insts c.args.place))) c.pairs_left.result c.pairs_left.ensures c.in_default.not-One
    ∙ ap lone_value (pairs_same facts c.requires.facts walk c.args.place c.requires.within c.requires.phi c.requires.walk.label)
