-- What the pops of one worker have found and given so far.
use Rattle.std.specs.Prelude.{◌≡◌, ◌≢◌, ℕ, ◌+◌, ◌≤◌, ◌==◌, Bool, true, false, if◌then◌else◌}
use Rattle.std.specs.Prelude.{List, [], ◌∷◌, ◌++◌, Option, Some, None}
use Rattle.basics.specs.Count.{count_after, Rose}
use Rattle.prio_workers.specs.declared.taking.EmptyPops.{EmptyPops}
use Rattle.prio_workers.specs.declared.taking.Priority.{Priority}
use Rattle.prio_workers.specs.declared.taking.Priority.TheVariants.{High, Normal, Low}

pub record Tally : Type 0 where
  -- for each queue how many pops found it empty
  pub empty_pops : EmptyPops
  -- how often the closed word was loaded, and what the last load found
  pub closed_loads : ℕ
  pub closed_found : ℕ
  -- whether a load has read the closed word as 1
  pub read_closed : Bool
  -- the counts of empty pops at the last load that did
  pub empty_pops_at_read : EmptyPops
  -- how many jobs the High queue gave, and how many the Normal one
  pub high_taken : ℕ
  pub normal_taken : ℕ
  -- the numbers of the Low jobs that were given, in the order in which they came
  pub low_numbers : List ℕ
  -- the queue of the last job that was given, and how many jobs were given
  pub last : Option Priority
  pub given : ℕ

abbrev pub no_empty_pops : EmptyPops
no_empty_pops = record { high = 0; normal = 0; low = 0 }

-- the tally before the first pop
abbrev pub no_pops : Tally
no_pops = record {
  empty_pops = no_empty_pops;
  closed_loads = 0;
  closed_found = 0;
  read_closed = false;
  empty_pops_at_read = no_empty_pops;
  high_taken = 0;
  normal_taken = 0;
  low_numbers = [];
  last = None;
  given = 0;
}

abbrev pub count_of : Priority → EmptyPops → ℕ
count_of High e = e.high
count_of Normal e = e.normal
count_of Low e = e.low

-- in between a pop found this queue empty
abbrev pub FoundEmpty : Priority → Tally → Tally → Type 0
FoundEmpty which before now =
    Rose (count_of which before.empty_pops) (count_of which now.empty_pops)

abbrev pub CountsNeverFall : Tally → Tally → Type 0
CountsNeverFall before now = (q : Priority)
    → count_of q before.empty_pops ≤ count_of q now.empty_pops

-- nothing but the counts of empty pops has changed
abbrev pub OnlyEmptyPops : Tally → Tally → Type 0
OnlyEmptyPops before now = now ≡ record before { empty_pops = now.empty_pops }

-- what a pop that gives no job does
pub record IsEmptyPop (which : Priority) (before now : Tally) : Type 0 where
  pub found_empty : FoundEmpty which before now
  pub never_falls : CountsNeverFall before now
  pub other_queues : (q : Priority) → q ≢ which
      → count_of q now.empty_pops ≡ count_of q before.empty_pops
  pub only_counts : OnlyEmptyPops before now

-- the tally once a job of this queue is noted as the last
abbrev pub after_given : Priority → Tally → Tally
after_given which before = record before { last = Some which; given = count_after before.given }

-- how many jobs the High queue has given after a job of this queue
abbrev pub high_after : Priority → ℕ → ℕ
high_after High n = n + 1
high_after Normal n = n
high_after Low n = n

-- the same of the Normal queue
abbrev pub normal_after : Priority → ℕ → ℕ
normal_after High n = n
normal_after Normal n = n + 1
normal_after Low n = n

-- the number of a job, where its queue is the Low one
abbrev pub low_number : Priority → ℕ → List ℕ
low_number High n = []
low_number Normal n = []
low_number Low n = n ∷ []

-- the tally after a pop that gives a job with this number
abbrev pub after_job : Priority → ℕ → Tally → Tally
after_job which n before = record (after_given which before) {
  high_taken = high_after which before.high_taken;
  normal_taken = normal_after which before.normal_taken;
  low_numbers = before.low_numbers ++ low_number which n;
}

-- the tally after a load of the closed word that found this word
abbrev pub after_load : ℕ → Tally → Tally
after_load word before = record before {
  closed_loads = before.closed_loads + 1;
  closed_found = word;
  read_closed = if word == 1 then true else before.read_closed;
  empty_pops_at_read = if word == 1 then before.empty_pops else before.empty_pops_at_read;
}
