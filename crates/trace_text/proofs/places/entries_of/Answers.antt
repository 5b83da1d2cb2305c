use Rattle.std.proofs.Common.{List, Option, Some, ap, sym, ◌∙◌, arith}
use Rattle.std.proofs.lemmas.List.{length-map}
use Rattle.std.specs.Prelude.{map}
use Rattle.state_model.specs.declared.parts.Entry.{Entry}
use Rattle.state_model.specs.declared.parts.SpecValues.{SpecValues}
use Rattle.trace_text.proofs.Filled.{filled-is, present-some}
use Rattle.trace_text.proofs.places.entries_of.Goals as goal

abbrev made : List (Option Entry) → SpecValues
made entries = record { entries = entries }

pub returns : goal.returns
returns c =
    ap made (filled-is (map Some c.args.list.now) c.loop-i.entries _ (omega (arith, length-map c.args.list.now (λ (e : Entry). Some e), c.requires)) c.loop-i.invariant.count
    (λ k d within. c.loop-i.invariant.filled k d (omega (arith, within)) ∙ sym (present-some c.args.list.now k)))
