use Rattle.std.proofs.Common.{◌≡◌, ℕ, length}
use Rattle.std.specs.Prelude.{None, slice_index_or, vec_capacity}
use Rattle.id_table.proofs.table.empty_places.Given as goal

abbrev pub invariant-loop : goal.invariant-loop
invariant-loop g l = record {
  many : length l.places.items ≡ l.counter;
  none : (id : ℕ) → slice_index_or l.places.items id None ≡ None;
  room : vec_capacity l.places ≡ l.count;
}
