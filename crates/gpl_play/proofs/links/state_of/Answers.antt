use Rattle.std.proofs.Common.{sym}
use Rattle.link_rules.specs.Libs.{libraries}
use Rattle.gpl_play.proofs.PipeLinks.{linked_is}
use Rattle.gpl_play.proofs.links.state_of.Goals as goal

pub returns : goal.returns
returns c = linked_is (libraries c.args.given.now) c.state.result (sym c.in_ok-link.ensures) c.state.ensures.parts
