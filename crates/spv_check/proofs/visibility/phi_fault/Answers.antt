use Rattle.std.proofs.Common.{ℕ, Some, ap, ◌∙◌}
use Rattle.spirv_model.specs.declared.module.Inst.{Inst}
use Rattle.spv_check.specs.Branches.{sources_at}
use Rattle.spv_check.specs.Visibility.{blocks_named}
use Rattle.spv_check.proofs.PhiUses.{not_named, all_named}
use Rattle.spv_check.proofs.visibility.phi_fault.Goals as goal

pub returns-then-not-branch : goal.returns-then-not-branch
returns-then-not-branch c = λ d.
    ap (λ (n : ℕ). Some n) c.word.ensures
    ∙ not_named c.args.insts.now c.args.ids.now c.args.limits.now c.args.branches.now c.requires.known d c.args.place c.inst_at-inst.result.now _ c.as_slice.result.now c.sources-sources.result.now
    c.requires.within c.inst_at-inst.ensures (ap (λ (i : Inst). i.op) c.inst_at-inst.ensures ∙ c.requires.is_phi) (c.as_slice.ensures.value ∙ c.in_ok-named.ensures ∙ ap blocks_named c.words_from.ensures)
    (c.sources-sources.ensures ∙ ap (sources_at c.args.branches.now) c.label_at.ensures) c.in_ok-are_those.ensures c.if-not-branch.true

pub returns : goal.returns
returns c = λ d.
    c.hidden.ensures
    ∙ all_named c.args.insts.now c.args.ids.now c.args.limits.now c.args.branches.now c.requires.known d c.args.place c.inst_at-inst.result.now _ c.as_slice.result.now c.sources-sources.result.now
    c.requires.within c.inst_at-inst.ensures (ap (λ (i : Inst). i.op) c.inst_at-inst.ensures ∙ c.requires.is_phi) (c.as_slice.ensures.value ∙ c.in_ok-named.ensures ∙ ap blocks_named c.words_from.ensures)
    (c.sources-sources.ensures ∙ ap (sources_at c.args.branches.now) c.label_at.ensures) c.in_ok-are_those.ensures c.if-not-branch.false
