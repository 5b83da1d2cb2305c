use Rattle.std.proofs.Common.{◌≡◌}
use Rattle.std.specs.List.{list_any, range_with_len}
use Rattle.change_model.specs.Passes.{is_header_merge}
use Rattle.change_model.specs.Plans.{block_at}
use Rattle.spec_fold.specs.Sets.{AreThose}
use Rattle.spec_fold.proofs.loops.loop_headers.Given as goal

abbrev pub invariant-loop-place : goal.invariant-loop-place
invariant-loop-place l = record {
  label : l.label ≡ block_at l.insts l.place;
  heads : AreThose (λ id. list_any (is_header_merge l.insts id) (range_with_len 0 l.place)) l.heads;
}
