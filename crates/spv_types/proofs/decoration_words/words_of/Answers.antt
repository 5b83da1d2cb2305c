use Rattle.spirv_model.specs.Operands.{word_at}
use Rattle.valid_model.specs.DecorationWords.{decoration_of, decorates}
use Rattle.spv_types.specs.Pairs.{at_pair}
use Rattle.spv_types.proofs.FirstFound.{keeps_pace}
use Rattle.spv_types.proofs.decoration_words.words_of.Goals as goal

pub loop-inst-preserved : goal.loop-inst-preserved
unfolding decoration_of
loop-inst-preserved c = λ id decoration.
    keeps_pace (decorates id decoration) (word_at 2) c.args.insts.now c.loop-inst.inst-index c.inst-item.result
    (at_pair c.loop-inst.words id decoration) (at_pair c.add_word.new.map id decoration) c.loop-inst-test.true c.inst-item.is
    (c.loop-inst.invariant id decoration) (c.in_ok-add_word.ensures id decoration)
