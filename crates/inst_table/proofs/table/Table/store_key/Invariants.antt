use Rattle.std.proofs.Common.{◌≡◌, take}
use Rattle.inst_table.specs.Views.{with_rows}
use Rattle.inst_table.proofs.table.Table.store_key.Given as goal

abbrev pub invariant-loop-at : goal.invariant-loop-at
invariant-loop-at g l = record {
  table : l.seat.table_id ≡ l.fn.seat.table_id;
  view : l.seat.me ≡ (with_rows (record l.fn.seat.me.0.rows { draft = take l.at l.key }) l.fn.seat.me.0, l.fn.seat.me.1);
}
