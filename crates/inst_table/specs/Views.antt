-- What a seat knows, and how a step adds to it.
use Rattle.std.specs.Prelude.{ℕ, zero, suc, ◌+◌, ◌-◌, List, [], ◌∷◌, ◌++◌, length, max, true, false, None, Some}
use Rattle.inst_table.specs.Bucket.{bucket_of}
use Rattle.inst_table.specs.declared.view.View.{View}
use Rattle.inst_table.specs.declared.view.Rows.{Rows}
use Rattle.inst_table.specs.declared.view.Unit.{Unit}
use Rattle.inst_table.specs.declared.view.Units.{Units}
use Rattle.inst_table.specs.declared.view.KnownWord.{KnownWord}
use Rattle.inst_table.specs.declared.view.KnownWord.TheVariants.{KeyWord, AddressWord, HeapWord}

abbrev pub no_rows : Rows
no_rows = record { count = 0; linked = []; draft = []; joined = false }

abbrev pub no_units : Units
no_units = record { built = []; partly = [] }

-- a view that claims nothing
abbrev pub blank : View
blank = record { seen = 0; looks = 0; known = []; absent = []; walk = None; walked = []; address_loads = []; creates = false; rows = no_rows; publishes = false; units = no_units }

-- the view of the first seat, which creates and publishes
abbrev pub beginning : View
beginning = record blank { creates = true; publishes = true }

-- a load of the count
abbrev pub with_seen : ℕ → View → View
with_seen n v = record v { seen = n; looks = v.looks + 1 }

abbrev pub absences_at : ℕ → List ℕ → ℕ → List (List ℕ × ℕ) → List (List ℕ × ℕ)
absences_at zero key below absences = (key, below) ∷ absences
absences_at (suc row) key below absences = absences

abbrev pub steps_at : ℕ → ℕ → List (ℕ × ℕ) → List (ℕ × ℕ)
steps_at zero bucket rows = rows
steps_at (suc row) bucket rows = (row, bucket) ∷ rows

-- a look-up of the key among the rows below n comes to the row before `place`, or to the end
abbrev pub with_walk : List ℕ → ℕ → ℕ → View → View
with_walk key n place v = record v {
  walk = Some (record { key = key; below = n; place = place });
  walked = steps_at place (bucket_of key) v.walked;
  absent = absences_at place key n v.absent;
}

abbrev pub with_known : KnownWord → View → View
with_known word v = record v { known = word ∷ v.known }

-- a word of the record at an address word
abbrev pub with_record_word : ℕ → ℕ → ℕ → View → View
with_record_word address at word v = with_known (HeapWord (address - 1 + at) word) v

abbrev pub known_with_address : ℕ → ℕ → List KnownWord → List KnownWord
known_with_address unit zero known = known
known_with_address unit (suc place) known = AddressWord unit (suc place) ∷ known

-- a load of the unit's address word
abbrev pub with_address_load : ℕ → ℕ → View → View
with_address_load unit word v = record v { address_loads = v.address_loads ++ (unit, word) ∷ []; known = known_with_address unit word v.known }

-- what the creator knows of the rows once it has stored a key word, the next word and the bucket head
abbrev pub with_rows : Rows → View → View
with_rows rows v = record v { rows = rows }

abbrev pub rows_with_word : ℕ → Rows → Rows
rows_with_word word rows = record rows { draft = rows.draft ++ word ∷ [] }

abbrev pub rows_with_next : Rows → Rows
rows_with_next rows = record rows { joined = true }

abbrev pub rows_with_head : Rows → Rows
rows_with_head rows = record rows { linked = rows.linked ++ rows.draft ∷ []; draft = []; joined = false }

abbrev pub with_key_word : ℕ → View → View
with_key_word word v = with_rows (rows_with_word word v.rows) v

-- all words of a key
abbrev pub with_key : List ℕ → View → View
with_key key v = with_rows (record v.rows { draft = key }) v

abbrev pub with_next : View → View
with_next v = with_rows (rows_with_next v.rows) v

abbrev pub with_head : View → View
with_head v = with_rows (rows_with_head v.rows) v

-- and the count
abbrev pub with_count : View → View
with_count v = record v { seen = v.rows.count + 1; rows = record v.rows { count = v.rows.count + 1 } }

-- what the publisher knows of the units once it has stored a heap word, and the address word
abbrev pub with_units : Units → View → View
with_units units v = record v { units = units }

abbrev pub units_with_word : ℕ → Units → Units
units_with_word word units = record units { partly = units.partly ++ word ∷ [] }

abbrev pub units_with_address : ℕ → Units → Units
units_with_address number units = record { built = units.built ++ (record { number = number; words = units.partly }) ∷ []; partly = [] }

abbrev pub with_heap_word : ℕ → View → View
with_heap_word word v = with_units (units_with_word word v.units) v

-- all words of a record
abbrev pub with_record : List ℕ → View → View
with_record words v = with_units (record v.units { partly = words }) v

abbrev pub with_address : ℕ → View → View
with_address unit v = with_units (units_with_address unit v.units) v

-- the words of a row
abbrev pub words_of_row : ℕ → ℕ → List ℕ → List KnownWord
words_of_row row at [] = []
words_of_row row at (w ∷ ws) = KeyWord row at w ∷ words_of_row row (at + 1) ws

abbrev pub words_of_rows : ℕ → List (List ℕ) → List KnownWord
words_of_rows row [] = []
words_of_rows row (key ∷ keys) = words_of_row row 0 key ++ words_of_rows (row + 1) keys

-- the address words of units
abbrev pub words_of_units : ℕ → List Unit → List KnownWord
words_of_units place [] = []
words_of_units place (u ∷ us) = AddressWord u.number (suc place) ∷ words_of_units (place + length u.words) us

-- what a new seat knows that is split off: the place of a look-up, the loads of addresses and the rights to write stay
abbrev pub split_view : View → View
split_view v = record blank { seen = v.seen; known = v.known; absent = v.absent; walked = v.walked }

abbrev pub row_note : View → View
row_note v = record blank { seen = v.rows.count; known = words_of_rows 0 v.rows.linked ++ v.known; absent = v.absent; walked = v.walked }

abbrev pub unit_note : View → View
unit_note v = record blank { seen = v.seen; known = words_of_units 0 v.units.built ++ v.known; absent = v.absent; walked = v.walked }

-- the right to create, given away and received
abbrev pub without_creation : View → View
without_creation v = record v { creates = false; rows = no_rows }

abbrev pub creation_alone : View → View
creation_alone v = record blank { creates = v.creates; rows = v.rows }

-- the first seat knows what both knew
abbrev pub joint_view : View → View → View
joint_view v w = record v { seen = max v.seen w.seen; known = v.known ++ w.known; absent = v.absent ++ w.absent }

-- what the creator knows once it has added a row
abbrev pub with_row : List ℕ → View → View
with_row key v = record v { seen = v.rows.count + 1; rows = record { count = v.rows.count + 1; linked = v.rows.linked ++ key ∷ []; draft = []; joined = false } }

-- what the publisher knows once it has published the record of a unit
abbrev pub with_unit : ℕ → List ℕ → View → View
with_unit number words v = record v { units = record { built = v.units.built ++ (record { number = number; words = words }) ∷ []; partly = [] } }
