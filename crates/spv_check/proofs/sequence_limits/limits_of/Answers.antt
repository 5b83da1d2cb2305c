use Rattle.std.proofs.Common.{ℕ, length, ap, ◌∙◌, ◌++◌, arith}
use Rattle.std.specs.Prelude.{replicate}
use Rattle.spv_check.specs.SequenceLimits.{Limits}
use Rattle.spv_check.proofs.TreeLimits.{whole_limits}
use Rattle.spv_check.proofs.sequence_limits.limits_of.Goals as goal

pub returns : goal.returns
returns c =
    let past = length c.args.insts.now in
    whole_limits c.args.insts.now c.requires.few c.args.body.now c.requires.tree c.add_places.new.limits.items c.add_run.new.limits.items c.add_places-2.new.limits.items c.saturating_sub-left.result
    (c.in_ok-add_places.ensures ∙ ap (λ (l : Limits). l ++ replicate c.first_place.result past) c.new-limits.ensures.items ∙ ap (λ (n : ℕ). replicate n past) c.first_place.ensures)
    c.in_ok-add_run.ensures (omega (arith, c.saturating_sub-left.ensures, c.len.ensures)) c.in_ok-add_places-2.ensures
