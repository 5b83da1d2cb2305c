use Rattle.std.proofs.Common.{Some, is_some, ap, sym, ◌∙◌, option_copied}
use Rattle.spv_text.proofs.Entries.{listed_kinds}
use Rattle.spv_text.proofs.lines.fits.Goals as goal

pub returns-in-Some-Listed : goal.returns-in-Some-Listed
returns-in-Some-Listed c =
    let listed = c.in-Some-Listed in
    c.fit.ensures
    ∙ ap (λ k. is_some k)
    (sym (listed_kinds c.args.inst.now _ listed.operands c.as_slice.result.now
    (sym c.entry_of.ensures ∙ ap (λ o. option_copied o) listed.is ∙ ap (λ e. Some e) listed.field-0-is) c.as_slice.ensures))
