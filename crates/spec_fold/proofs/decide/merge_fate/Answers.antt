use Rattle.std.proofs.Common.{sym}
use Rattle.check_model.specs.Intervals.{intervals_of}
use Rattle.spec_fold.specs.Walks.{plan_in}
use Rattle.spec_fold.proofs.Decisions.{merge_skips}
use Rattle.spec_fold.proofs.decide.merge_fate.Goals as goal

pub returns-in-Some : goal.returns-in-Some
returns-in-Some c v =
    merge_skips (intervals_of v.derivation) c.args.facts.now.of.now.insts (plan_in c.args.walk.now) c.args.place c.in-Some.field-0 c.args.walk.now.held c.way_behind.result
    c.requires.walk.held (sym c.if-is_some.ensures) (c.way_behind.ensures v) c.in-Some.is
