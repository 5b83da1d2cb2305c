use Rattle.std.proofs.Common.{true, None, Some, refl, ap, sym, ◌∙◌, ◌==◌, Option, ℕ}
use Rattle.spirv_model.specs.Operands.{word_at}
use Rattle.body_model.specs.declared.fault.TreeFault.TheVariants.{BadBlock, BadMerge}
use Rattle.body_model.specs.Due.{missing, only}
use Rattle.body_model.proofs.Dues.{missing_past}
use Rattle.spv_tree.proofs.LabelMarks.{missing_at, one_wanted}
use Rattle.spv_tree.proofs.labels.missing.Goals as goal

pub returns-then-at-insts : goal.returns-then-at-insts
returns-then-at-insts c = sym (missing_past c.args.insts.now (only c.args.wanted) c.args.place c.if-at-insts.true)

pub returns-in-None : goal.returns-in-None
returns-in-None c =
    c.misses.ensures
    ∙ missing_at c.args.insts.now c.args.repeated.now (only None) true (BadBlock c.args.place) c.args.place c.index-insts-at.result c.requires c.if-at-insts.false c.index-insts-at.is refl refl
    ∙ ap (λ (w : Option ℕ). missing c.args.insts.now (only w) c.args.place) (sym c.in-None.is)

pub returns-in-Some : goal.returns-in-Some
returns-in-Some c =
    c.misses-in-Some.ensures
    ∙ missing_at c.args.insts.now c.args.repeated.now (only (Some c.in-Some.label)) _ (BadMerge c.args.place) c.args.place c.index-insts-at.result c.requires c.if-at-insts.false c.index-insts-at.is
    (ap (λ (w : ℕ). w == c.in-Some.label) c.word.ensures ∙ one_wanted (word_at 0 c.index-insts-at.result) c.in-Some.label) refl
    ∙ ap (λ (w : Option ℕ). missing c.args.insts.now (only w) c.args.place) (sym c.in-Some.is)
