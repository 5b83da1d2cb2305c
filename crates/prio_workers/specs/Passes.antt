-- What contracts see of the queues and of their passes.
use Rattle.std.specs.Prelude.{◌≡◌, ℕ, ◌+◌, Bool, true, false, [], None}
use Rattle.atomic_blocks.specs.Laid.{WebId}
use Rattle.atomic_blocks.specs.declared.web.Seat.{Seat}
use Rattle.atomic_table.specs.Seated.{TableId}
use Rattle.crossbeam_queue.specs.SegTies.{SegId, IsSegPassOf}
use Rattle.crossbeam_queue.specs.declared.seg_queue.Going.{Going}
use Rattle.prio_workers.specs.Tally.{Tally, no_pops}

-- which queues they are, and which closed word
pub record QueuesId : Type 0 where
  pub high : WebId
  pub normal : WebId
  pub low : WebId
  pub closed : TableId

abbrev pub no_table : TableId
no_table = record {
  words = 0;
  slots = 0;
  views_name = 0;
  atom = 0;
  block = 0;
  offset = 0;
  slot_names = [];
}

abbrev pub no_queues : QueuesId
no_queues = record { high = (0, 0); normal = (0, 0); low = (0, 0); closed = no_table }

-- the queues, with the number of worker passes that were made with them
pub record QueuesView : Type 0 where
  pub queues : QueuesId
  pub passes : ℕ

-- what stands under the lock: passes of the High and of the Normal queue with the numbers of jobs
-- that they have pushed, and the closer's seat, with whether it has stored the 1
pub record SharedPassesView : Type 0 where
  pub high : WebId
  pub normal : WebId
  pub closed : TableId
  pub high_pushed : ℕ
  pub normal_pushed : ℕ
  pub stored : Bool

abbrev pub new_shared_passes : QueuesId → SharedPassesView
new_shared_passes q = record {
  high = q.high;
  normal = q.normal;
  closed = q.closed;
  high_pushed = 0;
  normal_pushed = 0;
  stored = false;
}

-- they are passes and a seat of these queues
pub record AreSharedOf (q : QueuesId) (shared : SharedPassesView) : Type 0 where
  pub high : shared.high ≡ q.high
  pub normal : shared.normal ≡ q.normal
  pub closed : shared.closed ≡ q.closed

abbrev pub after_high_push : SharedPassesView → SharedPassesView
after_high_push shared = record shared { high_pushed = shared.high_pushed + 1 }

abbrev pub after_normal_push : SharedPassesView → SharedPassesView
after_normal_push shared = record shared { normal_pushed = shared.normal_pushed + 1 }

abbrev pub after_close : SharedPassesView → SharedPassesView
after_close shared = record shared { stored = true }

-- the Low queue that the producer pushes to, and how many jobs it has pushed
pub record LowPushView : Type 0 where
  pub queue : WebId
  pub pushed : ℕ

abbrev pub new_low_push : QueuesId → LowPushView
new_low_push q = record { queue = q.low; pushed = 0 }

abbrev pub after_low_push : LowPushView → LowPushView
after_low_push by = record by { pushed = by.pushed + 1 }

-- the queues of a worker pass, and what its pops have found and given
pub record PassView : Type 0 where
  pub queues : QueuesId
  pub tally : Tally

-- a pass that has popped nothing
abbrev pub new_pass : QueuesId → PassView
new_pass q = record { queues = q; tally = no_pops }

-- a refused push: the job comes back, and what it would have changed stays
pub record HandsBack {J V : Type 0} (job : J) (old new : V) (back : J) : Type 0 where
  pub job_back : back ≡ job
  pub unchanged : new ≡ old

module _ {S D A : Type 0} where
  -- it is in no call
  abbrev pub IsIdle : Seat S D A → Type 0
  IsIdle pass = (pass.me.hand ≡ None) × (pass.me.spare ≡ None)

module _ {S T V A : Type 0} where
  -- what a pass knows by the rule of its queue
  abbrev pub pass_view : Seat S (Going T V) A → V
  pass_view pass = pass.me.view.client

  -- it knows what it did
  abbrev pub KnowsSame : Seat S (Going T V) A → Seat S (Going T V) A → Type 0
  KnowsSame old new = pass_view new ≡ pass_view old

  -- by what this says of the job, it knows more
  abbrev pub LearnsOf : (V → T → V → Type 0) → Seat S (Going T V) A → Seat S (Going T V) A
      → T → Type 0
  LearnsOf then old new job = then (pass_view old) job (pass_view new)

  -- the pass is of this queue, in no call, and knows this
  pub record IsPassKnowing (queue : SegId A) (pass : Seat S (Going T V) A) (view : V) : Type 0 where
    pub of_queue : IsSegPassOf queue pass
    pub knows : pass_view pass ≡ view
