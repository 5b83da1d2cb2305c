-- What a table holds at its end.
use Rattle.std.specs.Prelude.{◌≡◌, ◌≢◌, ℕ, ◌+◌, ◌-◌, ◌<◌, ◌++◌, List, length, Contains, Option, MatchOption, Vec, slice_index, slice_index_or, None}
use Rattle.std.specs.Global.{Global}
use Rattle.inst_table.specs.Bucket.{key_words}
use Rattle.inst_table.specs.Subject.{Subject, pair}
use Rattle.inst_table.specs.Chain.{key_at}
use Rattle.inst_table.specs.Units.{IsRecord, heap_of, address_of}
use Rattle.inst_table.specs.Passes.{KnowsRow, KnowsRightKeys, KnowsAddress, KnowsRecord, KnowsAtLeast}
use Rattle.inst_table.specs.Plays.{AreSound}
use Rattle.inst_table.specs.Names.{asked_of, fits_of, numbers_of, room_of, view_of, rows_of, units_of, ArePartsOf}
use Rattle.inst_table.specs.declared.setup.Fit.{Ghosts}
use Rattle.inst_table.specs.declared.table.Table.{Table}
use Rattle.inst_table.specs.declared.pass.Pass.{Pass}
use Rattle.inst_table.specs.declared.creator.Creator.{Creator}
use Rattle.inst_table.specs.declared.publisher.Publisher.{Publisher}
use Rattle.inst_table.specs.declared.closed.Closed.{Closed}
use Rattle.inst_table.specs.declared.closed.CloseParts.{CloseParts}
use Rattle.inst_table.specs.declared.setup.Numbers.{Numbers}
use Rattle.inst_table.specs.declared.view.View.{View}
use Rattle.inst_table.specs.declared.view.Unit.{Unit}
use Rattle.inst_table.specs.declared.view.KnownWord.TheVariants.{HeapWord}

-- The words that are known are those of the rows and of the units.
pub record AgreesWith (v : View) (rows : List (List ℕ)) (us : List Unit) : Type 0 where
  pub keys : KnowsRightKeys v rows
  pub addresses : (unit word : ℕ) → KnowsAddress v unit word → (word ≢ 0) × (address_of us unit ≡ word)
  pub heap : (at word : ℕ) → Contains v.known (HeapWord at word) → word ≡ slice_index (heap_of us) at

-- The record of a row's unit, as the heap has it at the unit's address. It fits the row's key.
pub record IsRecordOf (fits : Subject → List ℕ → Type 0) (libraries : ℕ) (rows : List (List ℕ)) (us : List Unit) (row : ℕ) (words : List ℕ) : Type 0 where
  pub built : address_of us (libraries + row) ≢ 0
  pub whole : IsRecord words
  pub stored : (at : ℕ) → at < length words → slice_index words at ≡ slice_index (heap_of us) (address_of us (libraries + row) - 1 + at)
  pub fitting : fits (pair (key_at rows row)) words

-- The unit of a row: its record, or nothing where it isn't built.
abbrev pub IsUnitOf : (Subject → List ℕ → Type 0) → ℕ → List (List ℕ) → List Unit → ℕ → Option (Vec ℕ Global) → Type 0
IsUnitOf fits libraries rows us row unit = MatchOption unit (address_of us (libraries + row) ≡ 0) (λ words. IsRecordOf fits libraries rows us row words.items)

-- The units, one for each row.
pub record AreUnitsOf (fits : Subject → List ℕ → Type 0) (libraries : ℕ) (rows : List (List ℕ)) (us : List Unit) (units : List (Option (Vec ℕ Global))) : Type 0 where
  pub long : length units ≡ length rows
  pub each : (row : ℕ) → row < length rows → IsUnitOf fits libraries rows us row (slice_index_or units row None)

-- A record at the unit's address as a pass has read it, which knew u before and knows v now. It fits each key that was known to be the row's.
pub record IsReadRecord (fits : Subject → List ℕ → Type 0) (z : Numbers) (u v : View) (row word : ℕ) (words : List ℕ) : Type 0 where
  pub there : word ≢ 0
  pub known : KnowsAddress v (z.libraries + row) word
  pub same : (known : ℕ) → KnowsAddress u (z.libraries + row) known → word ≡ known
  pub whole : IsRecord words
  pub read : KnowsRecord v word words
  pub fitting : (key : List ℕ) → length key ≡ key_words → KnowsRow u row key → fits (pair key) words

-- The unit of a row as a pass has read it: a record, or nothing where no address was known.
abbrev pub IsReadUnit : (Subject → List ℕ → Type 0) → Numbers → View → View → ℕ → Option (Vec ℕ Global) → Type 0
IsReadUnit fits z u v row unit = MatchOption unit ((word : ℕ) → KnowsAddress u (z.libraries + row) word → 0 ≡ word) (λ words. (word : ℕ) × IsReadRecord fits z u v row word words.items)

-- The units of the rows below n.
pub record AreReadUnits (fits : Subject → List ℕ → Type 0) (z : Numbers) (u v : View) (n : ℕ) (units : List (Option (Vec ℕ Global))) : Type 0 where
  pub long : length units ≡ n
  pub each : (row : ℕ) → row < n → IsReadUnit fits z u v row (slice_index_or units row None)

-- The loads of addresses that were made before come first.
abbrev pub BeginsWith : List (ℕ × ℕ) → List (ℕ × ℕ) → Type 0
BeginsWith loads before = (more : List (ℕ × ℕ)) × (loads ≡ before ++ more)

-- What the pass knows is so, by the creator's and the publisher's records.
abbrev pub IsSettled : Creator → Publisher → Pass → Type 0
IsSettled creator publisher pass = AgreesWith (view_of pass) (rows_of creator) (units_of publisher)

-- The pass has made its loads of addresses behind those of before.
abbrev pub LoadsOn : Pass → Pass → Type 0
LoadsOn before after = BeginsWith (view_of after).address_loads (view_of before).address_loads

module _ {F : Type 0} {G : Ghosts F} where
  -- The keys are rows of the table: there is room for them, they may be asked, and they differ pairwise.
  abbrev pub AreRowsOf : Table F G → List (List ℕ) → Type 0
  AreRowsOf table keys = AreSound (asked_of table) (room_of table) keys

  -- The unit of a row as the pass has read it between these two of its states, and the units of the rows below n.
  abbrev pub ReadsUnit : Table F G → Pass → Pass → ℕ → Option (Vec ℕ Global) → Type 0
  ReadsUnit table before after row unit = IsReadUnit (fits_of table) (numbers_of table) (view_of before) (view_of after) row unit

  abbrev pub ReadsUnits : Table F G → Pass → Pass → ℕ → Vec (Option (Vec ℕ Global)) Global → Type 0
  ReadsUnits table before after n units = AreReadUnits (fits_of table) (numbers_of table) (view_of before) (view_of after) n units.items

  -- What was given has the unit of each row of the creator, as the publisher built it.
  abbrev pub HoldsUnits : Table F G → Creator → Publisher → Closed → Type 0
  HoldsUnits table creator publisher closed = AreUnitsOf (fits_of table) (numbers_of table).libraries (rows_of creator) (units_of publisher) closed.units.items

  -- The same, if what the pass knows is so.
  abbrev pub HoldsSettledUnits : Table F G → Creator → Publisher → Pass → Closed → Type 0
  HoldsSettledUnits table creator publisher pass closed = IsSettled creator publisher pass → HoldsUnits table creator publisher closed

-- The parts of a table come back: the rows and the units are as they were, and the pass knows at least what it knew.
pub record ComesBack {F : Type 0} {G : Ghosts F} (table : Table F G) (creator : Creator) (publisher : Publisher) (pass : Pass) (back : CloseParts F G) : Type 0 where
  pub same : back.table ≡ table
  pub parts : ArePartsOf table back.creator back.publisher back.pass
  pub rows : rows_of back.creator ≡ rows_of creator
  pub units : units_of back.publisher ≡ units_of publisher
  pub knows : KnowsAtLeast (view_of pass) (view_of back.pass)
  pub address_loads : LoadsOn pass back.pass
