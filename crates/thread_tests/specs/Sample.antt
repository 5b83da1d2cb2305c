-- What the tests say of a table's parts.
use Rattle.std.specs.Prelude.{◌≡◌, ℕ, ◌≤◌, List, length}
use Rattle.inst_table.specs.Bucket.{key_words}
use Rattle.inst_table.specs.Units.{IsRecord}
use Rattle.inst_table.specs.Passes.{KnowsRow}
use Rattle.inst_table.specs.Names.{id_of, home_of, view_of, creator_home_of, publisher_home_of}
use Rattle.inst_table.specs.declared.setup.Fit.{Ghosts}
use Rattle.inst_table.specs.declared.table.Table.{Table}
use Rattle.inst_table.specs.declared.pass.Pass.{Pass}
use Rattle.inst_table.specs.declared.creator.Creator.{Creator}
use Rattle.inst_table.specs.declared.publisher.Publisher.{Publisher}
use Rattle.inst_table.specs.declared.view.View.{View}

-- It knows that the row has a key.
pub record HasKey (v : View) (row : ℕ) : Type 0 where
  pub key : List ℕ
  pub wide : length key ≡ key_words
  pub known : KnowsRow v row key

-- A record of a length that the tests' values take.
abbrev pub IsShortRecord : List ℕ → Type 0
IsShortRecord words = IsRecord words × (length words ≤ 2000)

module _ {F : Type 0} {G : Ghosts F} where
  -- The pass belongs to the table and knows that the row has a key.
  abbrev pub NotesSomeRow : Table F G → ℕ × Pass → Type 0
  NotesSomeRow table note = (home_of note.1 ≡ id_of table) × HasKey (view_of note.1) note.0

  abbrev pub AreReadersOf : Table F G → Pass × Pass → Type 0
  AreReadersOf table passes = (home_of passes.0 ≡ id_of table) × (home_of passes.1 ≡ id_of table)

  abbrev pub AreWritersOf : Table F G → Creator × Publisher → Type 0
  AreWritersOf table writers = (creator_home_of writers.0 ≡ id_of table) × (publisher_home_of writers.1 ≡ id_of table)
