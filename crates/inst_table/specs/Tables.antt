-- What clauses say of a table with its operands, its seats' views and what is read of it.
use Rattle.std.specs.Prelude.{◌≡◌, ℕ, List, Option, Some, Vec}
use Rattle.std.specs.Global.{Global}
use Rattle.inst_table.specs.Units.{IsRecord}
use Rattle.inst_table.specs.Passes.{KnowsRecord, FitsKnown, FitsOnceKnown, MayPublishRecord}
use Rattle.inst_table.specs.Plays.{AreSoundUnits}
use Rattle.inst_table.specs.Names.{fit_of, numbers_of, asked_of, fits_of, longest_of, room_of, heap_room_of}
use Rattle.inst_table.specs.declared.setup.Fit.{Ghosts}
use Rattle.inst_table.specs.declared.setup.Numbers.{Numbers}
use Rattle.inst_table.specs.declared.table.Table.{Table}
use Rattle.inst_table.specs.declared.pass.Address.{Address}
use Rattle.inst_table.specs.declared.view.View.{View}

-- The words are the record at an address, and are known.
abbrev pub IsRecordAt : View → Address → Vec ℕ Global → Type 0
IsRecordAt v address words = IsRecord words.items × KnowsRecord v address.word words.items

-- A new table has the value and the numbers that it was made with, and those libraries of which the value speaks.
pub record IsMadeWith {F : Type 0} {G : Ghosts F} (fit : F) (rows heap : ℕ) (table : Table F G) : Type 0 where
  pub same_fit : fit_of table ≡ fit
  pub libraries : (numbers_of table).libraries ≡ G.library_count fit
  pub room : room_of table ≡ rows
  pub heap_room : heap_room_of table ≡ heap

module _ {F : Type 0} {G : Ghosts F} where
  -- The operands of a step on rows are the table's.
  abbrev pub AsksFor : List (List ℕ) → ℕ → Table F G → Type 0
  AsksFor asked room table = (asked ≡ asked_of table) × (room ≡ room_of table)

  -- The operands of a step on units are the table's.
  abbrev pub SpeaksOf : Option F → Numbers → Table F G → Type 0
  SpeaksOf fit numbers table = (fit ≡ Some (fit_of table)) × (numbers ≡ numbers_of table)

  -- What the publisher knows of the units is sound.
  abbrev pub KnowsSoundUnits : Table F G → View → Type 0
  KnowsSoundUnits table v = AreSoundUnits (asked_of table) (fits_of table) (longest_of table) (numbers_of table) v

  -- The record may be published as the unit's, by what is known.
  abbrev pub MayBeRecord : Table F G → View → ℕ → List ℕ → Type 0
  MayBeRecord table v unit words = MayPublishRecord (fits_of table) (numbers_of table) v unit words

  -- Whatever record is known whole at the address fits its unit, and this one does.
  abbrev pub FitsWhenKnown : Table F G → View → Address → Type 0
  FitsWhenKnown table v address = FitsOnceKnown (fits_of table) (numbers_of table) v address.unit address.word

  abbrev pub FitsAt : Table F G → View → Address → Vec ℕ Global → Type 0
  FitsAt table v address words = FitsKnown (fits_of table) (numbers_of table) v address.unit words.items
