use Rattle.std.proofs.Common.{ℕ, ◌<◌, lit<, subst, sym}
use Rattle.prio_workers.proofs.ClosedSteps.{splits}
use Rattle.prio_workers.proofs.closed_word.worker_seat.Goals as goal

pub split_seat-requires : goal.split_seat-requires
split_seat-requires c = let P : ℕ → Type 0 = λ n. 0 < n in (c.requires.seat.of_word, subst P (sym c.requires.seat.one_word) (lit< tt), splits _ _ c.requires.closer)
