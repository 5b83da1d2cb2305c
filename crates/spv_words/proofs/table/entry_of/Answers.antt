use Rattle.std.proofs.Common.{ℕ, ◌-◌, sym, ap, ◌∙◌, arith, Some}
use Rattle.spirv_model.specs.declared.table.Entry.TheVariants.{Skipped}
use Rattle.spirv_model.specs.declared.table.TheConstants.{ROWS}
use Rattle.std.proofs.Common.{slice_index_or}
use Rattle.spv_words.proofs.RowNumbers.{entry_by_number, entry_by_row, row_within}
use Rattle.spv_words.proofs.table.entry_of.Goals as goal

pub returns-then-number-eq0 : goal.returns-then-number-eq0
returns-then-number-eq0 c = sym (entry_by_number c.args.op 0 (sym c.if-number-eq0.true ∙ c.row_number-number.ensures))

pub bounds-from : goal.bounds-from
bounds-from c = omega (arith, row_within c.args.op c.row_number-number.result c.row_number-number.ensures, c.from.ensures, c.if-number-eq0.false)

pub returns : goal.returns
returns c =
    ap (λ (n : ℕ). Some (slice_index_or ROWS (n - 1) (record { op = 0; entry = Skipped })).entry) c.from.ensures
    ∙ entry_by_row c.args.op c.row_number-number.result _ c.row_number-number.ensures c.if-number-eq0.false
