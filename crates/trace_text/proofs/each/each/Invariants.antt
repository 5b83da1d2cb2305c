use Rattle.std.proofs.Common.{◌≡◌, length}
use Rattle.trace_model.specs.Fields.{each}
use Rattle.trace_text.proofs.EachField.{behind}
use Rattle.trace_text.proofs.each.each.Given as goal

abbrev pub invariant-loop-field : goal.invariant-loop-field
invariant-loop-field g l = behind l.values (each g.T.FieldValue.value l.fields) ≡ each g.T.FieldValue.value l.fn.fields

abbrev pub decreases-loop-field : goal.decreases-loop-field
decreases-loop-field g l = length l.fields
