-- So far no job was given, and no count of empty pops fell.
use Rattle.std.proofs.Common.{◌≡◌}
use Rattle.prio_workers.specs.Tally.{Tally, CountsNeverFall}
use Rattle.prio_workers.specs.Takes.{CountsNoJob}
use Rattle.prio_workers.proofs.taking.take_from.Given as goal

pub record IsWaiting (before now : Tally) : Type 0 where
  pub never_fall : CountsNeverFall before now
  pub no_job : CountsNoJob before now
  pub no_number : now.low_numbers ≡ before.low_numbers

abbrev pub invariant-loop : goal.invariant-loop
invariant-loop g l = IsWaiting (g.P.Pops.tally l.fn.pops) (g.P.Pops.tally l.pops)
