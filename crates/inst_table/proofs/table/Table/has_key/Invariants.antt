use Rattle.std.proofs.Common.{◌≡◌, ℕ, ◌<◌, Contains, get_or}
use Rattle.inst_table.specs.Passes.{LearnsRow}
use Rattle.inst_table.specs.declared.view.KnownWord.TheVariants.{KeyWord}
use Rattle.inst_table.proofs.table.Table.has_key.Given as goal

abbrev pub invariant-loop-at : goal.invariant-loop-at
invariant-loop-at g l = record {
  table : l.seat.table_id ≡ l.initial.seat.table_id;
  rights : l.seat.me.1 ≡ l.initial.seat.me.1;
  learns : LearnsRow l.initial.seat.me.0 l.row l.seat.me.0;
  equal : (k : ℕ) → k < l.at → Contains l.seat.me.0.known (KeyWord l.row k (get_or l.key k 0));
}
