use Rattle.std.proofs.Common.{false}
use Rattle.link_rules.proofs.Accords.{Passes-from_no_failed_rule, IsLawful-from_links}
use Rattle.link_rules.specs.Libs.{libraries}
use Rattle.link_rules.proofs.Libs.state.Goals as goal

pub single_of-requires-clause-lacks_none : goal.single_of-requires-clause-lacks_none
single_of-requires-clause-lacks_none c = (Passes-from_no_failed_rule (libraries c.args.self.now) false c.requires.links).whole

pub single_of-requires-clause-repeats_none : goal.single_of-requires-clause-repeats_none
single_of-requires-clause-repeats_none c = (Passes-from_no_failed_rule (libraries c.args.self.now) false c.requires.links).single

pub returns-clause-lawful : goal.returns-clause-lawful
returns-clause-lawful c =
    rw c.state_of_single.ensures (IsLawful-from_links c.single_of.result (rw c.single_of.ensures at c.requires.links) (rw c.single_of.ensures at c.requires.parts))
