use Rattle.std.proofs.Common.{ℕ, min, length, take, drop, ap, ◌∙◌}
use Rattle.spv_text.specs.declared.names.TheConstants.{NAMES}
use Rattle.spv_text.proofs.NameTables.{row_is}
use Rattle.spv_text.proofs.names.row_name.Goals as goal

pub returns : goal.returns
returns c =
    row_is c.args.number c.byte_at.result c.split_at.result.1.now c.split_at-2.result.0.now c.split_at-3.result.0.now
    (c.split_at.ensures.back ∙ ap (λ (n : ℕ). drop n NAMES) (c.min.ensures ∙ ap (λ (n : ℕ). min n (length NAMES)) c.saturating_sub.ensures))
    (c.split_at-2.ensures.front ∙ ap (λ (n : ℕ). take n c.split_at.result.1.now) c.min-2.ensures)
    c.byte_at.ensures.value
    (c.split_at-3.ensures.front ∙ ap (λ (n : ℕ). take n c.split_at-2.result.0.now) c.min-3.ensures)
