use Rattle.std.proofs.Common.{sym, ◌∙◌}
use Rattle.spv_words.proofs.Passing.{ids-pass, id-met}
use Rattle.spv_words.proofs.operands.OperandIds.next_id.Goals as goal

pub returns-then-is_id : goal.returns-then-is_id
returns-then-is_id c =
    let passed = c.after_first-self-inside.ensures in
    let before = c.loop-self.self-inside in
    id-met before.operands c.after_first-self-inside.result c.in-Some.operand before.words.now c.split_at.result.1.now c.split_at.result.0.now c.in_ok-count.count c.args.self.now _
    (c.loop-self.invariant ∙ c.self.view_is) (c.in-Some.is, passed.listed, passed.rest) (sym c.in_ok-count.ensures.value) (sym c.is_id.ensures ∙ c.if-is_id.true)
    c.split_at.ensures.back c.split_at.ensures.front c.split_at.ensures.front_len (c.copied.ensures ∙ c.first.ensures.value)

pub loop-self-preserved : goal.loop-self-preserved
loop-self-preserved c =
    let passed = c.after_first-self-inside.ensures in
    let before = c.loop-self.self-inside in
    ids-pass before.operands c.after_first-self-inside.result c.in-Some.operand before.words.now c.split_at.result.1.now c.in_ok-count.count _
    c.loop-self.invariant (c.in-Some.is, passed.listed, passed.rest) (sym c.in_ok-count.ensures.value) (sym c.is_id.ensures ∙ c.if-is_id.false) c.split_at.ensures.back
