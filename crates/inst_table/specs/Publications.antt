-- The answer to a record that is to be published, by its cases.
use Rattle.std.specs.Prelude.{◌≡◌, ◌≢◌, ℕ, ◌+◌, ◌<◌, ◌≤◌, List, [], ◌∷◌, ◌++◌, length, ⊤}
use Rattle.inst_table.specs.Subject.{all_subjects}
use Rattle.inst_table.specs.Units.{heap_of, address_of, total}
use Rattle.inst_table.specs.Names.{id_of, numbers_of, asked_of, longest_of, heap_room_of, home_of, view_of, units_of}
use Rattle.inst_table.specs.Tables.{MayBeRecord}
use Rattle.inst_table.specs.Passes.{KnowsAddress, KnowsAtLeast}
use Rattle.inst_table.specs.declared.setup.Fit.{Ghosts}
use Rattle.inst_table.specs.declared.table.Table.{Table}
use Rattle.inst_table.specs.declared.pass.Pass.{Pass}
use Rattle.inst_table.specs.declared.pass.Address.{Address}
use Rattle.inst_table.specs.declared.publisher.Publisher.{Publisher}
use Rattle.inst_table.specs.declared.publisher.Published.{Published}
use Rattle.inst_table.specs.declared.publisher.Published.TheVariants.{Accepted, Already, HeapFull}

abbrev pub IfAccepted : Published → (Address → Type 0) → Type 0
IfAccepted (Accepted address note) P = P address
IfAccepted (Already address note) P = ⊤
IfAccepted (HeapFull end) P = ⊤

abbrev pub IfAlready : Published → (Address → Type 0) → Type 0
IfAlready (Accepted address note) P = ⊤
IfAlready (Already address note) P = P address
IfAlready (HeapFull end) P = ⊤

abbrev pub IfHeapFull : Published → (ℕ → Type 0) → Type 0
IfHeapFull (Accepted address note) P = ⊤
IfHeapFull (Already address note) P = ⊤
IfHeapFull (HeapFull end) P = P end

-- the address and the pass that come with it
abbrev pub IfAddress : Published → (Address → Pass → Type 0) → Type 0
IfAddress (Accepted address note) P = P address note
IfAddress (Already address note) P = P address note
IfAddress (HeapFull end) P = ⊤

-- The unit wasn't built, and its record now stands behind the others, for which there was room.
pub record Accepts {F : Type 0} {G : Ghosts F} (table : Table F G) (unit : ℕ) (words : List ℕ) (before after : Publisher) (address : Address) : Type 0 where
  pub gap : address_of (units_of before) unit ≡ 0
  pub room : length (heap_of (units_of before)) + length words ≤ heap_room_of table
  pub of_unit : address.unit ≡ unit
  pub behind : address.word ≡ 1 + length (heap_of (units_of before))
  pub units : units_of after ≡ units_of before ++ (record { number = unit; words = words }) ∷ []

-- The unit was built, and this is its address.
pub record IsAlready (unit : ℕ) (before after : Publisher) (address : Address) : Type 0 where
  pub of_unit : address.unit ≡ unit
  pub there : address.word ≢ 0
  pub built : address.word ≡ address_of (units_of before) unit
  pub units : units_of after ≡ units_of before

-- The unit isn't built, and there is no room for its record behind the others, which end here.
pub record IsHeapFull {F : Type 0} {G : Ghosts F} (table : Table F G) (unit : ℕ) (words : List ℕ) (before after : Publisher) (end : ℕ) : Type 0 where
  pub gap : address_of (units_of before) unit ≡ 0
  pub ends : end ≡ length (heap_of (units_of before))
  pub full : heap_room_of table < end + length words
  pub units : units_of after ≡ units_of before

-- The pass belongs to the table, and knows what `by` knew and the unit's address, which isn't 0.
pub record NotesAddress {F : Type 0} {G : Ghosts F} (table : Table F G) (unit : ℕ) (by : Pass) (address : Address) (note : Pass) : Type 0 where
  pub home : home_of note ≡ id_of table
  pub knows : KnowsAtLeast (view_of by) (view_of note)
  pub known : KnowsAddress (view_of note) unit address.word
  pub there : address.word ≢ 0

module _ {F : Type 0} {G : Ghosts F} where
  -- There is room for the greatest record of each library and of each key that may be asked.
  abbrev pub HasHeapForAll : Table F G → Type 0
  HasHeapForAll table = total (longest_of table) (all_subjects (numbers_of table).libraries (asked_of table)) ≤ heap_room_of table

  -- The record fits the unit, of which the pass knows the row, if it is no library's.
  abbrev pub MayBePublished : Table F G → Pass → ℕ → List ℕ → Type 0
  MayBePublished table by unit words = MayBeRecord table (view_of by) unit words
