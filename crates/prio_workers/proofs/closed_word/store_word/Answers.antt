use Rattle.std.proofs.Common.{ℕ, ◌<◌, lit<, subst, sym}
use Rattle.prio_workers.proofs.ClosedSteps.{stores}
use Rattle.prio_workers.proofs.closed_word.store_word.Goals as goal

pub store-requires : goal.store-requires
store-requires c = let P : ℕ → Type 0 = λ n. 0 < n in (c.requires.seat.of_word, subst P (sym c.requires.seat.one_word) (lit< tt), stores _ _ _ c.requires.closer)
