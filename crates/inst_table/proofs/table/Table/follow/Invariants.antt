use Rattle.std.proofs.Common.{◌≡◌, ℕ, ◌+◌, ◌≤◌, Contains, Some}
use Rattle.inst_table.specs.Bucket.{bucket_of}
use Rattle.inst_table.specs.Passes.{FollowsChain, KnowsNoRow}
use Rattle.inst_table.proofs.table.Table.follow.Given as goal

abbrev pub invariant-loop-place : goal.invariant-loop-place
invariant-loop-place g l = record {
  table : l.seat.table_id ≡ l.fn.seat.table_id;
  rights : l.seat.me.1 ≡ l.fn.seat.me.1;
  follows : FollowsChain l.fn.seat.me.0 l.seat.me.0 l.key;
  stands : l.seat.me.0.walk ≡ Some (record { key = l.key; below = l.count; place = l.place });
  walked : (row : ℕ) → l.place ≡ row + 1 → Contains l.seat.me.0.walked (row, bucket_of l.key);
  room : l.place ≤ l.self.numbers.rows;
  ends : l.place ≡ 0 → Contains l.seat.me.0.absent (l.key, l.count);
  misses : l.place ≡ 0 → KnowsNoRow l.fn.seat.me.0 l.key;
}

abbrev pub decreases-loop-place : goal.decreases-loop-place
decreases-loop-place g l = l.place
