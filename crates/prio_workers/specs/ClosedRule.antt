-- The rule of the closed word: it is 1 exactly where the closer's view says that it was stored, and
-- a worker's view says that it read 1 only where it is 1.
use Rattle.std.specs.Prelude.{◌≡◌, ℕ, Bool, true, false, ◌+◌, ◌==◌, if◌then◌else◌, [], ◌∷◌}
use mathlib.Core.Option.{some}
use lib.ListN.{get_elem?}
use Rattle.atomic_table.specs.Seated.{TableId}
use Rattle.atomic_table.specs.Table.{State}
use Rattle.atomic_table.specs.declared.shared.Seat.{Seat}
use Rattle.prio_workers.specs.declared.closed_word.ClosedView.{ClosedView}

abbrev pub closer_view : Bool → ClosedView
closer_view stored = record {
  is_closer = true;
  stored = stored;
  loads = 0;
  found = 0;
  read = false;
}

-- a worker that has loaded nothing
abbrev pub new_worker_view : ClosedView
new_worker_view = record { is_closer = false; stored = false; loads = 0; found = 0; read = false }

abbrev pub closed_word : Bool → ℕ
closed_word stored = if stored then 1 else 0

-- the view of a worker after a load that found this word
abbrev pub view_after_load : ClosedView → ℕ → ClosedView
view_after_load v found = record v {
  loads = v.loads + 1;
  found = found;
  read = if found == 1 then true else v.read;
}

pub record IsClosedRule {S : Type 0} (s : State S ClosedView) : Type 0 where
  pub closer : ℕ
  pub stored : Bool
  pub word : s.words ≡ closed_word stored ∷ []
  pub closer_knows : get_elem? s.views closer ≡ some (closer_view stored)
  pub one_closer : (j : ℕ) (v : ClosedView) → get_elem? s.views j ≡ some v
      → v.is_closer ≡ true → j ≡ closer
  pub workers : (j : ℕ) (v : ClosedView) → get_elem? s.views j ≡ some v
      → v.read ≡ true → stored ≡ true

module _ {S : Type 0} where
  -- the seat is of this word, which is one word alone, has no slot out, and knows this
  pub record IsSeatKnowing (word : TableId) (seat : Seat S ClosedView) (view : ClosedView)
      : Type 0 where
    pub one_word : word.words ≡ 1
    pub of_word : seat.table_id ≡ word
    pub knows : seat.me ≡ (view, [])
