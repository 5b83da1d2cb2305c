use Rattle.std.proofs.Common.{◌≡◌, ◌++◌, length}
use Rattle.id_table.specs.Tables.{at}
use Rattle.change_model.specs.Plans.{name_in}
use Rattle.spv_rewrite.specs.PhiPairs.{is_left, pairs_by}
use Rattle.spv_rewrite.proofs.phi_pairs.push_pairs.Given as goal

abbrev pub invariant-loop-rest : goal.invariant-loop-rest
invariant-loop-rest l =
    l.list ++ pairs_by (name_in l.of.names.now) (λ block. is_left l.of.fates.now l.label (at l.of.ends block)) l.rest
    ≡ l.fn.list ++ pairs_by (name_in l.of.names.now) (λ block. is_left l.of.fates.now l.label (at l.of.ends block)) l.pairs

abbrev pub decreases-loop-rest : goal.decreases-loop-rest
decreases-loop-rest l = length l.rest
