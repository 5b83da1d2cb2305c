use Rattle.std.proofs.Common.{◌≡◌, ℕ, ap, arith}
use Rattle.std.specs.Prelude.{None}
use Rattle.std.specs.Ordering.{nat_cmp}
use Rattle.std.specs.BTreeMap.{get, IsEmpty}
use Rattle.std.proofs.lemmas.Grind.{common_steps}
use Rattle.check_model.specs.Branches.{predecessors, blocks_of}
use Rattle.spv_check.specs.Branches.{Sources, items_of}
use Rattle.spv_check.proofs.BlockLists.{source_more}
use Rattle.spv_check.proofs.branches.block_sources.Goals as goal

none_yet : (sources : Sources) → IsEmpty sources → (label : ℕ) → get nat_cmp sources label ≡ None
none_yet sources empty label = grind (arith, common_steps)

pub loop-place-init : goal.loop-place-init
unfolding predecessors blocks_of
loop-place-init c = λ label. ap items_of (none_yet c.new-sources.result c.new-sources.ensures.empty label)

pub loop-place-preserved : goal.loop-place-preserved
loop-place-preserved c =
    source_more c.args.insts.now c.loop-place.place c.args.labels.now c.inst_at.result.now c.loop-place.sources c.add_sources.new.sources c.loop-place-test.true c.inst_at.ensures c.requires
    c.loop-place.invariant c.in_ok-add_sources.ensures
