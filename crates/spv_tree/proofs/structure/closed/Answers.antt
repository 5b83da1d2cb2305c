use Rattle.std.proofs.Common.{ap, sym, ◌∙◌}
use Rattle.spirv_model.specs.declared.module.Inst.{Inst}
use Rattle.spv_tree.proofs.WholeTrees.{ends_past, ends_other, ends_early, closes_at}
use Rattle.spv_tree.proofs.structure.closed.Goals as goal

pub returns-then-at-insts : goal.returns-then-at-insts
returns-then-at-insts c = ends_past c.args.insts.now c.args.place c.if-at-insts.true

pub returns-then-insts-at-ne-FUNCTION_END : goal.returns-then-insts-at-ne-FUNCTION_END
returns-then-insts-at-ne-FUNCTION_END c =
    let at = c.index-insts-at in
    ends_other c.args.insts.now c.args.place at.result c.if-at-insts.false at.is (λ is. c.if-insts-at-ne-FUNCTION_END.true (ap (λ (i : Inst). i.op) (sym at.is) ∙ is))

pub returns-then-at-insts-2 : goal.returns-then-at-insts-2
returns-then-at-insts-2 c =
    let at = c.index-insts-at in
    ends_early c.args.insts.now c.args.place at.result c.if-at-insts-2.true at.is (ap (λ (i : Inst). i.op) at.is ∙ c.if-insts-at-ne-FUNCTION_END.false)

pub returns : goal.returns
returns c =
    let at = c.index-insts-at in
    closes_at c.args.insts.now c.args.place at.result c.if-at-insts.false c.if-at-insts-2.false at.is (ap (λ (i : Inst). i.op) at.is ∙ c.if-insts-at-ne-FUNCTION_END.false)
