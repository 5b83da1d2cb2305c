-- What a clause reads of a table and of its seats.
use Rattle.std.specs.Prelude.{◌≡◌, ℕ, List}
use Rattle.atomic_table.specs.Seated.{TableId}
use Rattle.inst_table.specs.Subject.{Subject}
use Rattle.inst_table.specs.declared.setup.Numbers.{Numbers}
use Rattle.inst_table.specs.declared.setup.Fit.{Ghosts}
use Rattle.inst_table.specs.declared.table.Table.{Table}
use Rattle.inst_table.specs.declared.pass.Pass.{Pass}
use Rattle.inst_table.specs.declared.creator.Creator.{Creator}
use Rattle.inst_table.specs.declared.publisher.Publisher.{Publisher}
use Rattle.inst_table.specs.declared.view.Unit.{Unit}
use Rattle.inst_table.specs.declared.view.View.{View}

-- the record of a pass: what it knows
abbrev pub view_of : Pass → View
view_of pass = pass.seat.me.0

-- the table that a pass belongs to
abbrev pub home_of : Pass → TableId
home_of pass = pass.seat.table_id

abbrev pub creator_home_of : Creator → TableId
creator_home_of creator = creator.seat.table_id

-- the keys of the rows that the creator has made, in their order
abbrev pub rows_of : Creator → List (List ℕ)
rows_of creator = creator.seat.me.0.rows.linked

abbrev pub publisher_home_of : Publisher → TableId
publisher_home_of publisher = publisher.seat.table_id

-- the units that the publisher has built, with their records, in their order
abbrev pub units_of : Publisher → List Unit
units_of publisher = publisher.seat.me.0.units.built

module _ {F : Type 0} {G : Ghosts F} where
  -- the identity of a table
  abbrev pub id_of : Table F G → TableId
  id_of table = table.words.shared.table_id

  -- the value and the numbers that it was made with
  abbrev pub fit_of : Table F G → F
  fit_of table = table.words.shared.key.fit

  abbrev pub numbers_of : Table F G → Numbers
  numbers_of table = table.words.shared.key.numbers

  -- how many rows there is room for, and how many heap words
  abbrev pub room_of : Table F G → ℕ
  room_of table = (numbers_of table).rows

  abbrev pub heap_room_of : Table F G → ℕ
  heap_room_of table = (numbers_of table).heap

  -- the keys that may be asked, the records that fit a unit, and the greatest length of one
  abbrev pub asked_of : Table F G → List (List ℕ)
  asked_of table = G.asked (fit_of table)

  abbrev pub fits_of : Table F G → Subject → List ℕ → Type 0
  fits_of table = G.fits (fit_of table)

  abbrev pub longest_of : Table F G → Subject → ℕ
  longest_of table = G.longest (fit_of table)

  -- The seats belong to the table.
  abbrev pub ArePartsOf : Table F G → Creator → Publisher → Pass → Type 0
  ArePartsOf table creator publisher pass = (home_of pass ≡ id_of table) × (creator_home_of creator ≡ id_of table) × (publisher_home_of publisher ≡ id_of table)
