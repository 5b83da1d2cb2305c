use Rattle.std.proofs.Common.{◌≡◌, ℕ, List, Option, Some, ap, sym, ◌∙◌, subst, option_copied}
use Rattle.std.specs.Prelude.{IsSome, IfOk}
use Rattle.spirv_model.specs.declared.table.Operand.{Operand}
use Rattle.change_model.specs.Plans.{name_in}
use Rattle.spv_rewrite.proofs.KeptWords.{listed_kinds, words_same}
use Rattle.spv_rewrite.proofs.renaming.renamed_words.Goals as goal

pub renamed_fitting-requires : goal.renamed_fitting-requires
renamed_fitting-requires c =
    let listed = c.in-Some-Listed in
    subst (λ (k : Option (List Operand)). IsSome k)
    (listed_kinds c.args.inst.now _ listed.operands c.as_slice.result.now (sym c.entry_of.ensures ∙ ap (λ o. option_copied o) listed.is ∙ ap (λ e. Some e) listed.field-0-is) c.as_slice.ensures)
    c.requires

pub returns-in-Some-Listed : goal.returns-in-Some-Listed
returns-in-Some-Listed c =
    let listed = c.in-Some-Listed in
    subst (λ (l : List ℕ). IfOk c.renamed_fitting.result (λ words. words ≡ l))
    (words_same (name_in c.args.names.now) c.args.inst.now _ listed.operands c.as_slice.result.now
    (sym c.entry_of.ensures ∙ ap (λ o. option_copied o) listed.is ∙ ap (λ e. Some e) listed.field-0-is) c.as_slice.ensures c.requires)
    c.renamed_fitting.ensures
