use Rattle.std.proofs.Common.{◌≡◌, ◌++◌, length, map, reverse}
use Rattle.gpl_play.proofs.play.bare_targets.Given as goal

abbrev pub invariant-loop-target : goal.invariant-loop-target
invariant-loop-target l = map (λ t. t.1) l.rest ++ reverse l.bare.items ≡ map (λ t. t.1) l.fn.targets

abbrev pub decreases-loop-target : goal.decreases-loop-target
decreases-loop-target l = length l.rest
