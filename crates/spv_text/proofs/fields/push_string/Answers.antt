use Rattle.spv_text.proofs.Strings.{words_next, words_last}
use Rattle.spv_text.proofs.fields.push_string.Goals as goal

pub loop-rest-preserved : goal.loop-rest-preserved
loop-rest-preserved c =
    words_next c.loop-rest.words.items c.push.new.self.items _ c.loop-rest.rest.now c.split_at.result.1.now c.digits_word.result
    c.loop-rest.invariant c.loop-rest-test.true c.digits_word.ensures c.split_at.ensures.back c.in_ok-push.ensures.items

pub returns : goal.returns
returns c =
    words_last c.loop-rest.words.items c.push-2.new.self.items _ c.loop-rest.rest.now c.digits_word-2.result
    c.loop-rest.invariant c.loop-rest-test.false c.digits_word-2.ensures c.in_ok-push-2.ensures.items
