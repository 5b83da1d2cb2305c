use Rattle.std.proofs.Common.{arith}
use Rattle.spv_exec.proofs.FilledWords.{adds_none, adds_more}
use Rattle.spv_exec.proofs.variables.add_words.Goals as goal

pub loop-at-preserved : goal.loop-at-preserved
loop-at-preserved c =
    let low = c.loop-at.invariant.0 in (
      omega (arith, low),
      adds_more c.args.origin c.args.offsets.now c.args.start c.loop-at.at c.args.fills.now.items c.loop-at.fills.items c.add_word.new.fills.items c.index.result low c.index.ensures c.in_ok-add_word.ensures c.loop-at.invariant.1,
    )
