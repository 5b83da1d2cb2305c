-- What each step tells: of the step, the seat before, the number found (at a store, the number stored) and the seat after.
use Rattle.std.specs.Prelude.{◌≡◌, ◌≢◌, ℕ, ◌+◌, ◌^◌, ◌<◌, ◌≤◌, List, [], length, All, Contains, Option, Some, None, slice_index}
use Rattle.atomic_table.specs.Table.{Me, Step}
use Rattle.inst_table.specs.Bucket.{key_words, buckets}
use Rattle.inst_table.specs.Layout.{head_place, key_place, next_place, address_place, heap_place}
use Rattle.inst_table.specs.Chain.{key_word, bucket_at, newest}
use Rattle.inst_table.specs.Views.{with_seen, with_walk, with_known, with_key_word, with_next, with_head, with_count, with_address_load, with_record_word, with_heap_word, with_address}
use Rattle.inst_table.specs.Subject.{Subject, all_subjects}
use Rattle.inst_table.specs.Units.{heap_of, address_of, total}
use Rattle.inst_table.specs.declared.setup.Numbers.{Numbers}
use Rattle.inst_table.specs.declared.view.Units.{Units}
use Rattle.inst_table.specs.Lawful.{AreDistinct, IsOneWay}
use Rattle.inst_table.specs.declared.view.Rows.{Rows}
use Rattle.inst_table.specs.Passes.{KnowsNoRow, KnowsRightKeys, KnowsAddress, IsTheKnownAddress, FitsOnceKnown, MayPublish, IsKnownUnit}
use Rattle.inst_table.specs.declared.view.View.{View}
use Rattle.inst_table.specs.declared.view.KnownWord.TheVariants.{KeyWord, HeapWord}

abbrev pub SeatState : Type 0
SeatState = Me ℕ View

-- The view goes to f of it. What slots the seat has taken stays.
abbrev pub Becomes : (View → View) → SeatState → SeatState → Type 0
Becomes f m n = n ≡ (f m.0, m.1)

abbrev pub Play : Type 1
Play = Step ℕ → SeatState → ℕ → SeatState → Type 0

-- a load of the count
abbrev pub CountLoad : ℕ → Play
CountLoad room st m r n = Becomes (with_seen r) m n × (m.0.seen ≤ r) × (r < 2 ^ 32) × (r ≤ room)

-- a look-up of the key among the rows below n comes to a row or to the end, where no row that is known has the key
abbrev pub HeadLoad : ℕ → List ℕ → ℕ → Play
HeadLoad room key below st m r n = Becomes (with_walk key below r) m n × (r ≤ room) × (r ≡ 0 → KnowsNoRow m.0 key)

-- a load of a next word, below the row
abbrev pub NextLoad : ℕ → List ℕ → ℕ → Play
NextLoad room key below st m r n = HeadLoad room key below st m r n × ((row : ℕ) → st.word ≡ next_place row → r ≤ row)

-- a load of a key word
abbrev pub KeyWordLoad : Play
KeyWordLoad st m r n = (row at : ℕ) → at < key_words → st.word ≡ key_place row at → Becomes (with_known (KeyWord row at r)) m n

-- A word of the rows is what their keys and chains say.
pub record IsOfRows (x : Rows) (word found : ℕ) : Type 0 where
  pub heads : (b : ℕ) → b < buckets → word ≡ head_place b → found ≡ newest (bucket_at x.linked) b (length x.linked)
  pub keys : (row at : ℕ) → row < length x.linked → at < key_words → word ≡ key_place row at → found ≡ key_word x.linked row at
  pub nexts : (row : ℕ) → row < length x.linked → word ≡ next_place row → found ≡ newest (bucket_at x.linked) (bucket_at x.linked row) row

-- There is room for the keys, which are keys that may be asked and differ pairwise.
pub record AreSound (asked : List (List ℕ)) (room : ℕ) (keys : List (List ℕ)) : Type 0 where
  pub within : length keys ≤ room
  pub wide : All (λ key. length key ≡ key_words) keys
  pub asked_for : All (Contains asked) keys
  pub distinct : AreDistinct keys []

-- a load by the creator, which knows all rows
abbrev pub RowReload : List (List ℕ) → ℕ → Play
RowReload asked room st m r n = (n ≡ m) × IsOfRows m.0.rows st.word r × AreSound asked room m.0.rows.linked × KnowsRightKeys m.0 m.0.rows.linked

-- the stores of the creator: of a key word, of a next word, of a bucket head and of the count
abbrev pub KeyWordStore : Play
KeyWordStore st m r n = Becomes (with_key_word st.first) m n

abbrev pub NextStore : Play
NextStore st m r n = Becomes with_next m n

abbrev pub HeadStore : Play
HeadStore st m r n = Becomes with_head m n

abbrev pub CountStore : Play
CountStore st m r n = Becomes with_count m n

-- a load of the address word of a unit, which is the one that is known
abbrev pub AddressLoad : ℕ → Play
AddressLoad unit st m r n = Becomes (with_address_load unit r) m n × IsTheKnownAddress m.0 unit r × IsOneWay n.0.address_loads

-- a load of a word of the record at an address word: whatever record is then known whole fits the unit
abbrev pub HeapLoad : (Subject → List ℕ → Type 0) → Numbers → ℕ → ℕ → ℕ → Play
HeapLoad fits z unit word at st m r n = Becomes (with_record_word word at r) m n × (r < 2 ^ 32) × FitsOnceKnown fits z n.0 unit word

-- A word of the units is what they say.
pub record IsOfUnits (z : Numbers) (y : Units) (word found : ℕ) : Type 0 where
  pub addresses : (unit : ℕ) → unit < z.libraries + z.rows → word ≡ address_place z unit → found ≡ address_of y.built unit
  pub heap : (at : ℕ) → at < length (heap_of y.built) → word ≡ heap_place z at → (found ≡ slice_index (heap_of y.built) at) × (found < 2 ^ 32)

-- Where the heap has room for the greatest records of all units, it has room for one more record.
abbrev pub LeavesRoom : List (List ℕ) → (Subject → List ℕ → Type 0) → (Subject → ℕ) → Numbers → View → Type 0
LeavesRoom asked fits longest z v = total longest (all_subjects z.libraries asked) ≤ z.heap → (unit : ℕ) (words : List ℕ) → MayPublish fits z v unit words
    → address_of v.units.built unit ≡ 0 → length (heap_of v.units.built) + length words ≤ z.heap

-- What the publisher knows of the units: they are built within the heap, and each with its record, which fits.
pub record AreSoundUnits (asked : List (List ℕ)) (fits : Subject → List ℕ → Type 0) (longest : Subject → ℕ) (z : Numbers) (v : View) : Type 0 where
  pub within : length (heap_of v.units.built) ≤ z.heap
  pub inside : (unit : ℕ) → IsKnownUnit z v unit → unit < z.libraries + z.rows
  pub leaves_room : LeavesRoom asked fits longest z v
  pub known : (unit word : ℕ) → KnowsAddress v unit word → (word ≢ 0) × (address_of v.units.built unit ≡ word)
  pub heap_known : (at word : ℕ) → Contains v.known (HeapWord at word) → word ≡ slice_index (heap_of v.units.built) at

-- a load by the publisher, who knows all units
abbrev pub UnitReload : List (List ℕ) → (Subject → List ℕ → Type 0) → (Subject → ℕ) → Numbers → Play
UnitReload asked fits longest z st m r n = (n ≡ m) × IsOfUnits z m.0.units st.word r × AreSoundUnits asked fits longest z m.0

-- the stores of the publisher: of a heap word and of an address word
abbrev pub HeapStore : Play
HeapStore st m r n = Becomes (with_heap_word st.first) m n

abbrev pub AddressStore : ℕ → Play
AddressStore unit st m r n = Becomes (with_address unit) m n

-- what a `Fit` value says, where there is one
abbrev pub asked_by : {F : Type 0} → (F → List (List ℕ)) → Option F → List (List ℕ)
asked_by asked None = []
asked_by asked (Some fit) = asked fit

abbrev pub fits_by : {F : Type 0} → (F → Subject → List ℕ → Type 0) → Option F → Subject → List ℕ → Type 0
fits_by fits None unit words = Unit {0}
fits_by fits (Some fit) unit words = fits fit unit words

abbrev pub longest_by : {F : Type 0} → (F → Subject → ℕ) → Option F → Subject → ℕ
longest_by longest None unit = 0
longest_by longest (Some fit) unit = longest fit unit
