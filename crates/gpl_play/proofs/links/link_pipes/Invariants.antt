use Rattle.gpl_play.specs.Links.{AreLinksUntil}
use Rattle.gpl_play.proofs.links.link_pipes.Given as goal

abbrev pub invariant-loop-pipe : goal.invariant-loop-pipe
invariant-loop-pipe l = AreLinksUntil l.modules l.libs l.pipes l.pipe-index l.links.items
