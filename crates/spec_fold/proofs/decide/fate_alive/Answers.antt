use Rattle.std.proofs.Common.{List, ap, sym, ◌∙◌}
use Rattle.spirv_model.specs.declared.module.Inst.{Inst}
use Rattle.valid_model.specs.Definitions.{inst_at}
use Rattle.check_model.specs.Intervals.{intervals_of}
use Rattle.spec_fold.specs.Walks.{plan_in}
use Rattle.spec_fold.proofs.Decisions.{conditional_alive, switch_alive}
use Rattle.spec_fold.proofs.decide.fate_alive.Goals as goal

pub returns-in-250 : goal.returns-in-250
returns-in-250 c v =
    let facts = c.args.facts.now in
    let e = sym (ap (λ (i : Inst). i.op) (c.inst_at-inst.ensures ∙ ap (λ (l : List Inst). inst_at l c.args.place) c.insts.ensures.are)) ∙ c.in-250.is in
    c.branch_fate.ensures v ∙ conditional_alive (intervals_of v.derivation) facts.of.now.insts facts.zeros.now (plan_in c.args.walk.now) c.args.place e

pub returns-in-251 : goal.returns-in-251
returns-in-251 c v =
    let facts = c.args.facts.now in
    let e = sym (ap (λ (i : Inst). i.op) (c.inst_at-inst.ensures ∙ ap (λ (l : List Inst). inst_at l c.args.place) c.insts.ensures.are)) ∙ c.in-251.is in
    c.switch_fate.ensures v ∙ switch_alive (intervals_of v.derivation) facts.of.now.insts facts.zeros.now (plan_in c.args.walk.now) c.args.place e
