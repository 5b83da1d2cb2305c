use Rattle.gpl_play.proofs.PlaySteps.{HavePlayed}
use Rattle.gpl_play.proofs.play.play_steps.Given as goal

abbrev pub invariant-loop-recorder : goal.invariant-loop-recorder
invariant-loop-recorder l =
    HavePlayed l.objects l.steps l.fn.left.targets l.fn.left.refused.items l.recorder-index l.dynamics l.number l.left.targets l.left.refused.items
