use Rattle.std.proofs.Common.{◌≡◌, ℕ, List, ◌++◌, Option, Some, ap, sym, ◌∙◌, subst, option_copied, OnOk}
use Rattle.std.specs.Prelude.{IsSome}
use Rattle.spirv_model.specs.declared.table.Operand.{Operand}
use Rattle.spv_text.proofs.Entries.{listed_kinds, listed_others}
use Rattle.spv_text.proofs.line.push_others.Goals as goal

pub push_fields-requires : goal.push_fields-requires
push_fields-requires c =
    let listed = c.in-Some-Listed in
    subst (λ (k : Option (List Operand)). IsSome k)
    (listed_kinds c.args.inst.now _ listed.operands c.as_slice.result.now
    (sym c.entry_of.ensures ∙ ap (λ o. option_copied o) listed.is ∙ ap (λ e. Some e) listed.field-0-is) c.as_slice.ensures)
    c.requires

pub returns-in-Some-Listed : goal.returns-in-Some-Listed
returns-in-Some-Listed c =
    let listed = c.in-Some-Listed in
    subst (λ (t : List ℕ). OnOk c.push_fields.result (c.push_fields.new.text.items ≡ c.args.text.now.items ++ t))
    (sym (listed_others c.args.inst.now _ listed.operands c.as_slice.result.now
    (sym c.entry_of.ensures ∙ ap (λ o. option_copied o) listed.is ∙ ap (λ e. Some e) listed.field-0-is) c.as_slice.ensures))
    c.push_fields.ensures
