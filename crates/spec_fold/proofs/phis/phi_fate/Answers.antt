use Rattle.std.proofs.Common.{◌≡◌, true, ap, sym, ◌∙◌}
use Rattle.spirv_model.specs.Operands.{word_at}
use Rattle.valid_model.specs.Definitions.{inst_at}
use Rattle.valid_model.specs.Meanings.{meaning}
use Rattle.check_model.specs.Intervals.{intervals_of}
use Rattle.change_model.specs.PlanRules.{is_shape}
use Rattle.change_model.specs.Passes.{heads_loop}
use Rattle.spec_fold.specs.Walks.{plan_in}
use Rattle.spec_fold.proofs.Decisions.{phi_lone}
use Rattle.spec_fold.proofs.phis.phi_fate.Goals as goal

pub returns-in-Some : goal.returns-in-Some
returns-in-Some c v =
    let facts = c.args.facts.now in
    let shape : is_shape (meaning facts.of.now.insts (word_at 0 (inst_at facts.of.now.insts c.args.place))) ≡ true = cc in
    let other = ap (heads_loop facts.of.now.insts) (sym c.requires.walk.label) ∙ sym (c.requires.facts.heads c.args.walk.now.label) ∙ sym c.if-has.ensures in
    phi_lone (intervals_of v.derivation) facts.of.now.insts (plan_in c.args.walk.now) c.args.place c.in-Some.value c.lone_fate.result shape other
    (sym c.lone_value.ensures ∙ c.in-Some.is) (λ block. c.lone_fate.ensures v block)
