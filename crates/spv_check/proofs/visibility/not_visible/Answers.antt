use Rattle.std.proofs.Common.{ap, ◌∙◌}
use Rattle.check_model.specs.Visibility.{used_ids}
use Rattle.spv_check.proofs.PhiUses.{no_phi}
use Rattle.spv_check.proofs.visibility.not_visible.Goals as goal

pub returns : goal.returns
returns c = λ d.
    c.hidden_id.ensures
    ∙ no_phi c.args.insts.now c.args.ids.now c.args.limits.now c.args.branches.now c.requires.known d c.args.place c.inst_at-inst.result.now _ c.requires.within c.inst_at-inst.ensures
    c.if-inst-eq-PHI.false (ap used_ids c.inst_at-inst.ensures)
