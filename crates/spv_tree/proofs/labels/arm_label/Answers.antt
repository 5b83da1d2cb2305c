use Rattle.std.proofs.Common.{Some, refl, ap, sym, ◌∙◌}
use Rattle.std.specs.Ordering.{nat_cmp}
use Rattle.std.specs.BTreeSet.{contains}
use Rattle.body_model.specs.declared.fault.TreeFault.TheVariants.{BadMerge}
use Rattle.body_model.proofs.Dues.{missing_past}
use Rattle.spv_tree.proofs.LabelMarks.{missing_at, arm_found}
use Rattle.spv_tree.proofs.labels.arm_label.Goals as goal

pub returns-then-at-insts : goal.returns-then-at-insts
returns-then-at-insts c = λ labels has. missing_past c.args.insts.now (Some labels) c.args.place c.if-at-insts.true

pub returns-in-Some : goal.returns-in-Some
returns-in-Some c = λ labels has.
    let at = c.index-insts-at in
    sym (missing_at c.args.insts.now c.args.repeated.now (Some labels) _ (BadMerge c.args.place) c.args.place at.result c.requires c.if-at-insts.false at.is
    (c.contains-is_left.ensures ∙ ap (contains nat_cmp c.args.left.now) c.word-label.ensures ∙ has _) refl) ∙ sym c.misses.ensures ∙ c.in-Some.is

pub returns-in-None : goal.returns-in-None
returns-in-None c = λ labels has.
    let at = c.index-insts-at in
    arm_found c.args.insts.now labels c.args.place c.word-label.result at.result c.if-at-insts.false at.is c.word-label.ensures
    (sym (missing_at c.args.insts.now c.args.repeated.now (Some labels) _ (BadMerge c.args.place) c.args.place at.result c.requires c.if-at-insts.false at.is
    (c.contains-is_left.ensures ∙ ap (contains nat_cmp c.args.left.now) c.word-label.ensures ∙ has _) refl) ∙ sym c.misses.ensures ∙ c.in-None.is)
