use Rattle.std.proofs.Common.{◌≡◌}
use Rattle.gpl_play.proofs.PipeLinks.{rules_until}
use Rattle.gpl_play.proofs.links.rules_of_pipes.Given as goal

abbrev pub invariant-loop-pipe : goal.invariant-loop-pipe
invariant-loop-pipe l = l.rules.items ≡ rules_until l.modules l.libs l.pipes l.pipe-index
