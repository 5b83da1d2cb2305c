use Rattle.std.proofs.Common.{arith}
use Rattle.std.proofs.lemmas.Grind.{common_steps}
use Rattle.check_model.specs.Branches.{block_end_of, blocks_of}
use Rattle.spv_check.proofs.BlockLists.{end_more}
use Rattle.spv_check.proofs.branches.block_ends.Goals as goal

pub loop-place-init : goal.loop-place-init
unfolding block_end_of blocks_of
loop-place-init c = λ label. grind (arith, common_steps)

pub loop-place-preserved : goal.loop-place-preserved
loop-place-preserved c =
    end_more c.args.insts.now c.loop-place.place c.args.labels.now c.inst_at.result.now c.loop-place.ends c.add_end.new.ends c.loop-place-test.true c.inst_at.ensures c.requires.known
    c.loop-place.invariant c.in_ok-add_end.ensures
