use Rattle.spirv_model.specs.Operands.{word_at}
use Rattle.valid_model.specs.DecorationWords.{offset_of, places_member}
use Rattle.spv_types.specs.Pairs.{at_pair}
use Rattle.spv_types.proofs.FirstFound.{keeps_pace}
use Rattle.spv_types.proofs.decoration_words.offsets_of.Goals as goal

pub loop-inst-preserved : goal.loop-inst-preserved
unfolding offset_of
loop-inst-preserved c = λ id member.
    keeps_pace (places_member id member) (word_at 3) c.args.insts.now c.loop-inst.inst-index c.inst-item.result
    (at_pair c.loop-inst.offsets id member) (at_pair c.add_offset.new.map id member) c.loop-inst-test.true c.inst-item.is
    (c.loop-inst.invariant id member) (c.in_ok-add_offset.ensures id member)
