use Rattle.std.proofs.Common.{◌<◌, ◌≤◌, ℕ, List, length, ap, ◌∙◌, subst}
use Rattle.spirv_model.specs.declared.module.Inst.{Inst}
use Rattle.spirv_model.specs.Operands.{words_from}
use Rattle.valid_model.specs.Definitions.{inst_at}
use Rattle.change_model.specs.Passes.{known_before}
use Rattle.spec_fold.specs.Walks.{plan_in}
use Rattle.spec_fold.proofs.Decisions.{none_of_four, none_of_none}
use Rattle.spec_fold.proofs.results.result_of.Goals as goal

pub returns-in_default : goal.returns-in_default
returns-in_default c =
    let insts = c.args.of.now.insts in
    let e = c.words_from-words.ensures ∙ ap (words_from 2) (c.inst_at-inst.ensures ∙ ap (λ (l : List Inst). inst_at l c.args.place) c.insts.ensures.are) in
    none_of_none (inst_at insts c.args.place).op (known_before (plan_in c.args.walk.now) insts c.args.place) (words_from 2 (inst_at insts c.args.place))
    (subst (λ (l : List ℕ). length l < 1) e c.in_default.len_below)

pub returns-in_default-2 : goal.returns-in_default-2
returns-in_default-2 c =
    let insts = c.args.of.now.insts in
    let e = c.words_from-words.ensures ∙ ap (words_from 2) (c.inst_at-inst.ensures ∙ ap (λ (l : List Inst). inst_at l c.args.place) c.insts.ensures.are) in
    none_of_four (inst_at insts c.args.place).op (known_before (plan_in c.args.walk.now) insts c.args.place) (words_from 2 (inst_at insts c.args.place))
    (subst (λ (l : List ℕ). 4 ≤ length l) e c.in_default.len_at_least)
