-- The number of an opcode's row.
use Rattle.std.specs.Prelude.{ℕ, zero, suc, ◌==◌, if◌then◌else◌, List, [], ◌∷◌}
use Rattle.spirv_model.specs.declared.table.Row.{Row}

abbrev pub one_more : ℕ → ℕ
one_more zero = 0
one_more (suc number) = suc (suc number)

-- 1 and the place of the first row with the opcode, or 0 where there is none
unfoldable pub row_number : List Row → ℕ → ℕ
row_number [] op = 0
row_number (row ∷ rows) op = if row.op == op then 1 else one_more (row_number rows op)
