use Rattle.std.proofs.Common.{◌∙◌, sym, ap, option_copied, Some}
use Rattle.spv_words.proofs.IdLists.{ids-listed}
use Rattle.spv_words.proofs.operands.ids.Goals as goal

pub returns-in-Some-Listed : goal.returns-in-Some-Listed
returns-in-Some-Listed c =
    let listed = c.in-Some-Listed in
    c.ids_of.ensures ∙ ids-listed c.args.inst.now _ listed.operands c.as_slice-words.result.now
    (sym c.entry_of.ensures ∙ ap (λ o. option_copied o) listed.is ∙ ap (λ e. Some e) listed.field-0-is) c.as_slice-words.ensures
