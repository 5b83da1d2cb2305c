use Rattle.spv_exec.specs.Composites.{picked_of}
use Rattle.spv_exec.proofs.PickedWords.{picked_more}
use Rattle.spv_exec.proofs.composites.pick_words.Goals as goal

pub loop-k-preserved : goal.loop-k-preserved
loop-k-preserved c =
    picked_more (picked_of c.args.front.now c.args.vectors) c.args.literals.now c.args.to.now c.loop-k.to c.loop-k.k c.pick_word.result c.loop-k.invariant c.loop-k-test.true c.requires c.pick_word.ensures
