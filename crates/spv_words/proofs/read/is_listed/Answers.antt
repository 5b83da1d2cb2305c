use Rattle.std.proofs.Common.{◌∙◌, sym, ap, option_copied, Some}
use Rattle.spv_words.proofs.Entries as entries
use Rattle.spv_words.proofs.read.is_listed.Goals as goal

pub returns-in-None : goal.returns-in-None
returns-in-None c = entries.unknown c.args.place _ (sym c.entry_of.ensures ∙ ap (λ o. option_copied o) c.in-None.is)

pub returns-in-Some-Skipped : goal.returns-in-Some-Skipped
returns-in-Some-Skipped c =
    entries.skipped c.args.place _ (sym c.entry_of.ensures ∙ ap (λ o. option_copied o) c.in-Some-Skipped.is ∙ ap (λ e. Some e) c.in-Some-Skipped.field-0-is)

pub returns-in-Some-Float : goal.returns-in-Some-Float
returns-in-Some-Float c =
    entries.float c.args.place _ (sym c.entry_of.ensures ∙ ap (λ o. option_copied o) c.in-Some-Float.is ∙ ap (λ e. Some e) c.in-Some-Float.field-0-is)

pub returns-then-not-fit : goal.returns-then-not-fit
returns-then-not-fit c =
    entries.misfit c.args.place _ _ c.in-Some-Listed.operands _
    (sym c.entry_of.ensures ∙ ap (λ o. option_copied o) c.in-Some-Listed.is ∙ ap (λ e. Some e) c.in-Some-Listed.field-0-is) c.fit.ensures c.if-not-fit.true

pub returns-else-not-fit : goal.returns-else-not-fit
returns-else-not-fit c =
    entries.fitting c.args.place _ _ c.in-Some-Listed.operands _
    (sym c.entry_of.ensures ∙ ap (λ o. option_copied o) c.in-Some-Listed.is ∙ ap (λ e. Some e) c.in-Some-Listed.field-0-is) c.fit.ensures c.if-not-fit.false
