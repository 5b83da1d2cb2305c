-- Rows as a list of keys, and the answer to a key for which a row is wanted, by its cases.
use Rattle.std.specs.Prelude.{◌≡◌, ℕ, ◌<◌, ◌≤◌, List, [], ◌∷◌, ◌++◌, length, cond, bytes_eq, Contains, ⊤}
use Rattle.std.specs.List.{list_any}
use Rattle.inst_table.specs.Chain.{key_at}
use Rattle.inst_table.specs.Names.{id_of, asked_of, room_of, home_of, view_of, rows_of}
use Rattle.inst_table.specs.Passes.{KnowsRow}
use Rattle.inst_table.specs.declared.setup.Fit.{Ghosts}
use Rattle.inst_table.specs.declared.table.Table.{Table}
use Rattle.inst_table.specs.declared.pass.Pass.{Pass}
use Rattle.inst_table.specs.declared.creator.Creator.{Creator}
use Rattle.inst_table.specs.declared.creator.Created.{Created}
use Rattle.inst_table.specs.declared.creator.Created.TheVariants.{New, Old, Full}

-- the rows, with the key at the end if it isn't among them
abbrev pub add : List (List ℕ) → List ℕ → List (List ℕ)
add rows key = cond (list_any (bytes_eq key) rows) rows (rows ++ key ∷ [])

abbrev pub IfNew : Created → (ℕ → Type 0) → Type 0
IfNew (New row note) P = P row
IfNew (Old row note) P = ⊤
IfNew (Full n) P = ⊤

abbrev pub IfOld : Created → (ℕ → Type 0) → Type 0
IfOld (New row note) P = ⊤
IfOld (Old row note) P = P row
IfOld (Full n) P = ⊤

abbrev pub IfFull : Created → (ℕ → Type 0) → Type 0
IfFull (New row note) P = ⊤
IfFull (Old row note) P = ⊤
IfFull (Full n) P = P n

-- the row and the pass that come with it
abbrev pub IfNote : Created → (ℕ → Pass → Type 0) → Type 0
IfNote (New row note) P = P row note
IfNote (Old row note) P = P row note
IfNote (Full n) P = ⊤

-- No row had the key, and it now has one behind the others, for which there was room.
pub record IsNew {F : Type 0} {G : Ghosts F} (table : Table F G) (key : List ℕ) (before after : Creator) (row : ℕ) : Type 0 where
  pub absent : ¬ Contains (rows_of before) key
  pub behind : row ≡ length (rows_of before)
  pub inside : row < room_of table
  pub rows : rows_of after ≡ add (rows_of before) key

-- The row had the key.
pub record IsOld {F : Type 0} {G : Ghosts F} (table : Table F G) (key : List ℕ) (before after : Creator) (row : ℕ) : Type 0 where
  pub there : row < length (rows_of before)
  pub inside : row < room_of table
  pub has_key : key_at (rows_of before) row ≡ key
  pub rows : rows_of after ≡ add (rows_of before) key

-- No row has the key, and all n rows for which there is room are taken.
pub record IsFull {F : Type 0} {G : Ghosts F} (table : Table F G) (key : List ℕ) (before after : Creator) (n : ℕ) : Type 0 where
  pub absent : ¬ Contains (rows_of before) key
  pub taken : n ≡ length (rows_of before)
  pub room : n ≡ room_of table
  pub rows : rows_of after ≡ rows_of before

module _ {F : Type 0} {G : Ghosts F} where
  -- There is room for a row for each key that may be asked.
  abbrev pub HasRoomForAll : Table F G → Type 0
  HasRoomForAll table = length (asked_of table) ≤ room_of table

  -- The pass belongs to the table and knows that the row has the key.
  abbrev pub NotesRow : Table F G → List ℕ → ℕ → Pass → Type 0
  NotesRow table key row note = (home_of note ≡ id_of table) × KnowsRow (view_of note) row key
