use Rattle.spv_exec.proofs.GatheredWords.{gathered_more}
use Rattle.spv_exec.proofs.composites.gather_words.Goals as goal

pub loop-id-preserved : goal.loop-id-preserved
loop-id-preserved c =
    gathered_more c.args.of.now.insts c.args.front.now c.args.ids.now c.args.to.now c.loop-id.to c.loop-id.id-index c.loop-id.at c.operand.result c.operand_words-count.result c.copy_words.new.to c.loop-id.invariant c.loop-id-test.true
    (record { place = c.operand.ensures; there = c.operand_words-count.ensures.there; shown = c.requires.there c.loop-id.id-index c.loop-id-test.true }) c.requires.fits c.copy_words.ensures
