use Rattle.std.proofs.Common.{refl, sym, ◌∙◌, arith}
use Rattle.std.proofs.lemmas.Grind.{common_steps}
use Rattle.spv_check.proofs.EntryCounts.{counted, not_shader, other_count, by_words_told}
use Rattle.spv_check.proofs.entry_points.bad_entry_count.Goals as goal

pub returns-then-count-ne1 : goal.returns-then-count-ne1
returns-then-count-ne1 c = other_count c.args.insts.now c.entry_count-count.result c.entry_count-count.ensures.exact (λ one. grind (arith, common_steps))

pub returns-then-is_shader_entry : goal.returns-then-is_shader_entry
returns-then-is_shader_entry c =
    counted c.args.insts.now c.is_shader_entry.result 1 (sym c.entry_count-count.ensures.exact ∙ grind (arith, common_steps)) c.if-is_shader_entry.true
    (by_words_told c.args.insts.now _ _ _ _ c.is_shader_entry.ensures c.function_id.ensures c.model_of.ensures c.target_of.ensures)

pub returns : goal.returns
returns c =
    not_shader c.args.insts.now c.is_shader_entry.result 1 (sym (grind (arith, common_steps)) ∙ c.entry_count-count.ensures.exact) refl c.if-is_shader_entry.false
    (by_words_told c.args.insts.now _ _ _ _ c.is_shader_entry.ensures c.function_id.ensures c.model_of.ensures c.target_of.ensures)
