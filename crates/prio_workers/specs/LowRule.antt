-- The rule of the Low queue: it holds the numbers from the next one to be taken up to the next one
-- to be pushed, in order. Each pass took its numbers in ascending order, and each number below the
-- next one to be taken stands in the list of exactly one pass.
use Rattle.std.specs.Prelude.{◌≡◌, ℕ, ◌+◌, ◌<◌, true, false, List, [], ◌∷◌, ◌++◌}
use Rattle.std.specs.Prelude.{All, AllPairs, Contains}
use mathlib.Core.Option.{some}
use lib.ListN.{get_elem?}
use Rattle.prio_workers.specs.declared.low_queue.LowView.{LowView}

abbrev pub producer_view : ℕ → LowView
producer_view pushed = record { is_producer = true; pushed = pushed; taken = [] }

abbrev pub taker_view : List ℕ → LowView
taker_view taken = record { is_producer = false; pushed = 0; taken = taken }

-- the producer after the push of the job whose number comes next
abbrev pub after_next_push : LowView → LowView
after_next_push v = producer_view (v.pushed + 1)

-- the jobs have the numbers from `first` up to, and without, `end`, in order
abbrev pub AreNumbered : {J : Type 0} → (J → ℕ) → ℕ → List J → ℕ → Type 0
AreNumbered number first [] end = first ≡ end
AreNumbered number first (job ∷ jobs) end = (number job ≡ first)
    × AreNumbered number (first + 1) jobs end

-- the pass with this place among the views has taken the job with this number
abbrev pub HasTaken : List LowView → ℕ → ℕ → Type 0
HasTaken views pass n = (v : LowView) × (get_elem? views pass ≡ some v) × Contains v.taken n

-- exactly one pass has taken the job with this number
pub record IsTakenOnce (views : List LowView) (n : ℕ) : Type 0 where
  pub taker : ℕ
  pub has_taken : HasTaken views taker n
  pub no_other : (pass : ℕ) → HasTaken views pass n → pass ≡ taker

-- the pass with this place has this view
abbrev Knows : List LowView → ℕ → LowView → Type 0
Knows views pass v = get_elem? views pass ≡ some v

module _ {J : Type 0} (number : J → ℕ) (IsFor : J → Type 0) where
  pub record IsLowRule (items : List J) (views : List LowView) : Type 0 where
    pub next_taken : ℕ
    pub next_pushed : ℕ
    pub producer : ℕ
    pub queued : AreNumbered number next_taken items next_pushed
    pub due : All IsFor items
    pub producer_knows : Knows views producer (producer_view next_pushed)
    pub one_producer : (pass : ℕ) (v : LowView) → Knows views pass v
        → v.is_producer ≡ true → pass ≡ producer
    pub ascending : (pass : ℕ) (v : LowView) → Knows views pass v
        → AllPairs (λ a b. a < b) v.taken
    pub below : (pass : ℕ) (v : LowView) → Knows views pass v
        → All (λ n. n < next_taken) v.taken
    pub taken_once : (n : ℕ) → n < next_taken → IsTakenOnce views n

  -- a pop gave this job, whose number is above all that the pass took before
  pub record PopsLow (before : LowView) (job : J) (now : LowView) : Type 0 where
    pub listed : now ≡ taker_view (before.taken ++ number job ∷ [])
    pub ascending : All (λ n. n < number job) before.taken
    pub due : IsFor job
