use Rattle.std.proofs.Common.{◌≡◌, ℕ, ◌<◌, vec_len, vec_capacity, length, get_or, None}
use Rattle.inst_table.specs.Passes.{KnowsAtLeast}
use Rattle.inst_table.specs.Closing.{IsReadUnit, BeginsWith}
use Rattle.inst_table.proofs.closed.read_units.Given as goal

abbrev pub invariant-loop-row : goal.invariant-loop-row
invariant-loop-row g l = record {
  table : l.pass.seat.table_id ≡ l.fn.pass.seat.table_id;
  knows : KnowsAtLeast l.fn.pass.seat.me.0 l.pass.seat.me.0;
  address_loads : BeginsWith l.pass.seat.me.0.address_loads l.fn.pass.seat.me.0.address_loads;
  long : length l.units.items ≡ l.row;
  units : (row : ℕ) → row < l.row → IsReadUnit (g.F.Fit.fits l.table.words.shared.key.fit) l.table.words.shared.key.numbers l.fn.pass.seat.me.0 l.pass.seat.me.0 row (get_or l.units.items row None);
  counted : vec_len l.units ≡ l.row;
  room : vec_capacity l.units ≡ l.count;
}
