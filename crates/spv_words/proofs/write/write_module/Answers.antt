use Rattle.std.proofs.Common.{◌∙◌, ap, ◌++◌, ◌∷◌, []}
use Rattle.spv_words.proofs.Written.{written-more, narrow-more, reads-words}
use Rattle.spv_words.proofs.write.write_module.Goals as goal

pub loop-inst-preserved : goal.loop-inst-preserved
loop-inst-preserved c =
    record {
      written =
          written-more c.args.insts.now c.loop-inst.inst-index c.inst-item.result c.args.bound c.loop-inst.words.items c.push.new.self.items c.extend_from_slice.new.self.items
          c.loop-inst.invariant.written c.loop-inst-test.true c.inst-item.is (c.in_ok-push.ensures.items ∙ ap (λ word. c.loop-inst.words.items ++ (word ∷ [])) c.first_word.ensures.value)
          (c.in_ok-extend_from_slice.ensures.items ∙ ap (λ own. c.push.new.self.items ++ own) c.as_slice.ensures);
      narrow = narrow-more c.args.insts.now c.loop-inst.inst-index c.inst-item.result c.loop-inst.invariant.narrow c.loop-inst-test.true c.inst-item.is c.first_word.ensures.opcode;
    }

pub returns-clause-read_again : goal.returns-clause-read_again
returns-clause-read_again c = reads-words c.args.insts.now c.loop-inst.inst-index c.args.bound c.loop-inst.words.items c.loop-inst-test.false c.loop-inst.invariant.narrow c.loop-inst.invariant.written
