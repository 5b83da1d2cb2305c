use Rattle.std.proofs.Common.{Bool, true, false, sym, ◌∙◌}
use Rattle.std.specs.Prelude.{MatchBool}
use Rattle.check_model.specs.Intervals.{intervals_of}
use Rattle.check_model.specs.Validity.{HasListFault, of_list, is_memory}
use Rattle.spv_check.proofs.checks.checked_uses.Goals as goal

unless : (b : Bool) (P : Type 0) → P → MatchBool b (Unit {0}) P
unless true P has = tt
unless false P has = has

pub returns-in-Some : goal.returns-in-Some
returns-in-Some c =
    let d = c.requires.tree.derives in
    unless (is_memory c.in-Some.fault) (HasListFault c.args.words c.in-Some.fault)
    (of_list d c.requires.ids.sound (sym (c.list_fault.ensures (intervals_of d) (c.requires.hidden d)) ∙ c.in-Some.is))
