-- What is claimed of a pop and of a call that takes a job, by the tallies before and after it.
use Rattle.std.specs.Prelude.{◌≡◌, ℕ, ◌<◌, true, ◌++◌, All, Some}
use Rattle.basics.specs.Count.{CountsOne, Rose}
use Rattle.prio_workers.specs.declared.taking.Priority.{Priority}
use Rattle.prio_workers.specs.declared.taking.Priority.TheVariants.{High, Normal, Low}
use Rattle.prio_workers.specs.declared.taking.Taken.{Taken}
use Rattle.prio_workers.specs.declared.taking.Taken.TheVariants.{Job, Closed}
use Rattle.prio_workers.specs.Tally.{Tally, FoundEmpty, OnlyEmptyPops, count_of, after_job}
use Rattle.prio_workers.specs.Tally.{low_number, high_after, normal_after}

-- the place of the queue in the order in which jobs are taken
abbrev pub rank : Priority → ℕ
rank High = 0
rank Normal = 1
rank Low = 2

-- each queue that comes before this one was found empty
abbrev pub FoundEarlierEmpty : Priority → Tally → Tally → Type 0
FoundEarlierEmpty p before now = (q : Priority) → rank q < rank p → FoundEmpty q before now

-- the number of a Low job is above all that were given before
abbrev pub IsAboveEarlier : Priority → ℕ → Tally → Type 0
IsAboveEarlier p n before = p ≡ Low → All (λ m. m < n) before.low_numbers

-- a pop of each queue found it empty, and nothing else happened
pub record FindsNoJob (before now : Tally) : Type 0 where
  pub empty : (q : Priority) → FoundEmpty q before now
  pub only_counts : OnlyEmptyPops before now

-- a load has read the closed word as 1, and each queue was found empty by this call, and after
-- that load
pub record FoundClosed (before now : Tally) : Type 0 where
  pub read : now.read_closed ≡ true
  pub empty : (q : Priority) → FoundEmpty q before now
  pub empty_after_read : (q : Priority)
      → Rose (count_of q now.empty_pops_at_read) (count_of q now.empty_pops)

-- a job of this queue was given: it is the one job that came out of the queues
pub record CountsJob (p : Priority) (before now : Tally) : Type 0 where
  pub last : now.last ≡ Some p
  pub given : CountsOne before.given now.given
  pub high : now.high_taken ≡ high_after p before.high_taken
  pub normal : now.normal_taken ≡ normal_after p before.normal_taken

-- no job came out of the queues
pub record CountsNoJob (before now : Tally) : Type 0 where
  pub last : now.last ≡ before.last
  pub given : now.given ≡ before.given
  pub high : now.high_taken ≡ before.high_taken
  pub normal : now.normal_taken ≡ before.normal_taken

module _ {J : Type 0} (IsFor : Priority → J → Type 0) where
  -- a job is for the queue that the answer names
  abbrev pub GivesJobOfQueue : Taken J → Type 0
  GivesJobOfQueue (Job p job) = IsFor p job
  GivesJobOfQueue Closed = Unit {0}

module _ {J : Type 0} (before now : Tally) where
  -- one job was given, by the queue that the answer names, or none
  abbrev pub GivesOneJob : Taken J → Type 0
  GivesOneJob (Job p job) = CountsJob p before now
  GivesOneJob Closed = CountsNoJob before now

  -- a job comes only where each earlier queue was found empty, and none only where all were, after
  -- the closed word was read as 1
  abbrev pub ComesInTurn : Taken J → Type 0
  ComesInTurn (Job p job) = FoundEarlierEmpty p before now
  ComesInTurn Closed = FoundClosed before now

module _ {J : Type 0} (number : J → ℕ) (before now : Tally) where
  -- a pop of this queue gave this job, and did nothing else
  pub record PopsJob (p : Priority) (job : J) : Type 0 where
    pub counted : now ≡ after_job p (number job) before
    pub ascending : IsAboveEarlier p (number job) before

  -- a pop of this queue gave this job, after each earlier queue was found empty, and nothing else
  -- happened
  pub record FindsJob (found : Priority × J) : Type 0 where
    pub earlier_empty : FoundEarlierEmpty found.0 before now
    pub counted : now ≡ after_job found.0 (number found.1)
        (record before { empty_pops = now.empty_pops })
    pub ascending : IsAboveEarlier found.0 (number found.1) before

  -- the list of Low numbers grows by exactly the number of a Low job, which is above all that
  -- stand there
  abbrev pub ListsLowNumber : Taken J → Type 0
  ListsLowNumber (Job p job) = (now.low_numbers ≡ before.low_numbers ++ low_number p (number job))
      × IsAboveEarlier p (number job) before
  ListsLowNumber Closed = now.low_numbers ≡ before.low_numbers
