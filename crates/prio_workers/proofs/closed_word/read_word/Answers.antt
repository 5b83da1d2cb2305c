use Rattle.std.proofs.Common.{ℕ, ◌<◌, lit<, subst, sym}
use Rattle.prio_workers.proofs.ClosedSteps.{reads}
use Rattle.prio_workers.proofs.closed_word.read_word.Goals as goal

pub load-requires : goal.load-requires
load-requires c = let P : ℕ → Type 0 = λ n. 0 < n in (c.requires.seat.of_word, subst P (sym c.requires.seat.one_word) (lit< tt), reads _ _ _ c.requires.worker)
