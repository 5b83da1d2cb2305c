-- What a table holds, id by id.
use Rattle.std.specs.Prelude.{◌≡◌, ℕ, ◌*◌, ◌==◌, nat_le, nat_lt, if◌then◌else◌, List, length, Option, None, Some, slice_index_or, vec_len}
use Rattle.std.specs.Ordering.{nat_cmp}
use Rattle.std.specs.BTreeMap.{get}
use Rattle.id_table.specs.declared.table.IdTable.{IdTable}

-- a place is kept for each id below the bound, where there are at most eight of them for each expected value
abbrev pub near_count : ℕ → ℕ → ℕ
near_count bound expected = if nat_le bound (8 * expected) then bound else 0

module _ {T : Type 0} where
  -- the value of an id
  unfoldable pub at : IdTable T → ℕ → Option T
  at table id = if nat_lt id (vec_len table.near) then slice_index_or table.near.items id None else get nat_cmp table.far id

  -- the number of ids, from 0 on, for which a place is kept
  abbrev pub near_ids : IdTable T → ℕ
  near_ids table = vec_len table.near

  -- so many places, none with a value
  pub record AreEmpty (count : ℕ) (places : List (Option T)) : Type 0 where
    pub as_many : length places ≡ count
    pub empty : (id : ℕ) → slice_index_or places id None ≡ None

  -- no id has a value
  abbrev pub HasNone : IdTable T → Type 0
  HasNone table = (id : ℕ) → at table id ≡ None

  -- each id has what it had
  abbrev pub IsSame : IdTable T → IdTable T → Type 0
  IsSame old new = (id : ℕ) → at new id ≡ at old id

  -- the id has this value, and each other id what it had
  abbrev pub Sets : ℕ → T → IdTable T → IdTable T → Type 0
  Sets id value old new = (other : ℕ) → at new other ≡ (if id == other then Some value else at old other)
