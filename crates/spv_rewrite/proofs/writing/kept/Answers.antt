use Rattle.spv_rewrite.proofs.KeptInsts.{kept_phi}
use Rattle.spv_rewrite.proofs.writing.kept.Goals as goal

pub returns-then-inst-eq-PHI : goal.returns-then-inst-eq-PHI
returns-then-inst-eq-PHI c =
    kept_phi c.args.of.now c.requires.known c.args.place c.args.label c.inst-inst.result.now c.in_ok-words.words c.requires.within c.inst-inst.ensures c.if-inst-eq-PHI.true
    c.requires.label c.in_ok-words.ensures
