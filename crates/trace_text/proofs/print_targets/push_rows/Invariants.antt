use Rattle.std.proofs.Common.{◌≡◌, ◌++◌, ◌-◌}
use Rattle.std.specs.List.{flat_map}
use Rattle.trace_model.specs.PlayText.{pieces, row_text, rows_text}
use Rattle.trace_text.proofs.print_targets.push_rows.Given as goal

-- what is printed, and the rows that are left
abbrev pub invariant-loop : goal.invariant-loop
invariant-loop l = l.text.items ++ flat_map (row_text l.target) (pieces (l.rows - l.counter) l.size l.rest) ≡ l.fn.text.items ++ rows_text l.target
