-- The rule of the table, which holds between any two steps of the threads that share it.
use Rattle.std.specs.Prelude.{◌≡◌, ◌≢◌, ℕ, ◌+◌, ◌^◌, ◌<◌, ◌≤◌, ◌⊎◌, List, [], ◌∷◌, ◌++◌, length, true, All, Contains, IfSome, slice_index, slice_index_or}
use mathlib.Core.Option.{some}
use lib.ListN.{get_elem?}
use Rattle.atomic_table.specs.Table.{State}
use Rattle.inst_table.specs.Bucket.{key_words, buckets, bucket_of}
use Rattle.inst_table.specs.Layout.{count_place, head_place, key_place, next_place, address_place, heap_place, width}
use Rattle.inst_table.specs.Chain.{key_at, key_word, bucket_at, newest}
use Rattle.inst_table.specs.Subject.{Subject, library, pair}
use Rattle.inst_table.specs.Units.{IsRecord, heap_of, address_of}
use Rattle.inst_table.specs.declared.setup.Numbers.{Numbers}
use Rattle.inst_table.specs.declared.view.View.{View}
use Rattle.inst_table.specs.declared.view.Walk.{Walk}
use Rattle.inst_table.specs.declared.view.Rows.{Rows}
use Rattle.inst_table.specs.declared.view.Unit.{Unit}
use Rattle.inst_table.specs.declared.view.Units.{Units}
use Rattle.inst_table.specs.declared.view.KnownWord.{KnownWord}
use Rattle.inst_table.specs.declared.view.KnownWord.TheVariants.{KeyWord, AddressWord, HeapWord}

-- What the words of the table stand for.
pub record Content : Type 0 where
  pub rows : Rows
  pub units : Units

-- no two places have one value
abbrev pub AreDistinct : {X : Type 0} → List X → X → Type 0
AreDistinct xs d = (i j : ℕ) → i < j → j < length xs → slice_index_or xs i d ≢ slice_index_or xs j d

-- The words stand for the rows: the count, the head of each bucket, the key and the next word of each row in a chain, and as much of the row behind these as the creator has stored.
pub record StandsForRows (words : List ℕ) (x : Rows) : Type 0 where
  pub count : slice_index words count_place ≡ x.count
  pub heads : (b : ℕ) → b < buckets → slice_index words (head_place b) ≡ newest (bucket_at x.linked) b (length x.linked)
  pub keys : (row at : ℕ) → row < length x.linked → at < key_words → slice_index words (key_place row at) ≡ key_word x.linked row at
  pub nexts : (row : ℕ) → row < length x.linked → slice_index words (next_place row) ≡ newest (bucket_at x.linked) (bucket_at x.linked row) row
  pub draft : (at : ℕ) → at < length x.draft → slice_index words (key_place (length x.linked) at) ≡ slice_index x.draft at
  pub joined : x.joined ≡ true → slice_index words (next_place (length x.linked)) ≡ newest (bucket_at x.linked) (bucket_of x.draft) (length x.linked)

-- The words stand for the units: the address word of each, and the heap up to where the publisher has stored.
pub record StandsForUnits (z : Numbers) (words : List ℕ) (y : Units) : Type 0 where
  pub addresses : (unit : ℕ) → unit < z.libraries + z.rows → slice_index words (address_place z unit) ≡ address_of y.built unit
  pub heap : (at : ℕ) → at < length (heap_of y.built ++ y.partly) → slice_index words (heap_place z at) ≡ slice_index (heap_of y.built ++ y.partly) at

-- The rows are at most as many as there is room for, are keys that may be asked, and differ pairwise.
pub record RowsAreSound (asked : List (List ℕ)) (z : Numbers) (x : Rows) : Type 0 where
  pub behind : x.count ≤ length x.linked
  pub ahead : length x.linked ≤ x.count + 1
  pub room : length x.linked ≤ z.rows
  pub short : length x.draft ≤ key_words
  pub begun : 0 < length x.draft → (length x.linked ≡ x.count) × (length x.linked < z.rows)
  pub whole : x.joined ≡ true → length x.draft ≡ key_words
  pub wide : All (λ key. length key ≡ key_words) x.linked
  pub asked_for : All (Contains asked) x.linked
  pub distinct : AreDistinct x.linked []

-- The unit is a library's or that of a row below the count.
abbrev pub IsUnit : Numbers → Rows → ℕ → Type 0
IsUnit z x unit = (unit < z.libraries) ⊎ ((row : ℕ) × (row < x.count) × (unit ≡ z.libraries + row))

-- The record fits the unit.
pub record FitsUnit (fits : Subject → List ℕ → Type 0) (z : Numbers) (x : Rows) (unit : ℕ) (words : List ℕ) : Type 0 where
  pub as_library : unit < z.libraries → fits (library unit) words
  pub as_pair : (row : ℕ) → row < x.count → unit ≡ z.libraries + row → fits (pair (key_at x.linked row)) words

-- A unit that is built.
pub record IsBuilt (fits : Subject → List ℕ → Type 0) (z : Numbers) (x : Rows) (u : Unit) : Type 0 where
  pub unit : IsUnit z x u.number
  pub whole : IsRecord u.words
  pub small : All (λ w. w < 2 ^ 32) u.words
  pub fitting : FitsUnit fits z x u.number u.words

abbrev pub numbers_of : List Unit → List ℕ
numbers_of [] = []
numbers_of (u ∷ us) = u.number ∷ numbers_of us

-- The units that are built are libraries or rows, each once, their records fit them, and the heap has room for all that is stored.
pub record UnitsAreSound (fits : Subject → List ℕ → Type 0) (z : Numbers) (x : Rows) (y : Units) : Type 0 where
  pub built : All (IsBuilt fits z x) y.built
  pub once : AreDistinct (numbers_of y.built) 0
  pub room : length (heap_of y.built ++ y.partly) ≤ z.heap
  pub small : All (λ w. w < 2 ^ 32) y.partly

-- A word that is known has its value for good.
abbrev pub IsRight : Content → ℕ → KnownWord → Type 0
IsRight c seen (KeyWord row at word) = (row < seen) × (at < key_words) × (word ≡ key_word c.rows.linked row at)
IsRight c seen (AddressWord unit word) = (word ≢ 0) × (address_of c.units.built unit ≡ word)
IsRight c seen (HeapWord at word) = (at < length (heap_of c.units.built)) × (word ≡ slice_index (heap_of c.units.built) at)

-- No row from `low` up to n has the key.
abbrev pub NoneBetween : List (List ℕ) → List ℕ → ℕ → ℕ → Type 0
NoneBetween rows key low n = (row : ℕ) → low ≤ row → row < n → key_at rows row ≢ key

-- A row stands in the chain of a bucket.
abbrev pub StandsIn : List (List ℕ) → ℕ → ℕ → Type 0
StandsIn rows bucket row = (row < length rows) × (bucket_at rows row ≡ bucket)

-- The place of a look-up is the end or a row of the chain of the key's bucket, and each row below n that has the key stands in the chain from there on.
pub record IsOnTheWay (x : Rows) (seen : ℕ) (w : Walk) : Type 0 where
  pub below : w.below ≤ seen
  pub stands : (row : ℕ) → w.place ≡ row + 1 → StandsIn x.linked (bucket_of w.key) row
  pub passed : NoneBetween x.linked w.key w.place w.below

-- After a load that found an address, each later load of that address finds the same.
abbrev pub IsOneWay : List (ℕ × ℕ) → Type 0
IsOneWay mine = (i j : ℕ) → i < j → j < length mine → (slice_index_or mine i (0, 0)).0 ≡ (slice_index_or mine j (0, 0)).0
    → (slice_index_or mine i (0, 0)).1 ≢ 0 → (slice_index_or mine j (0, 0)).1 ≡ (slice_index_or mine i (0, 0)).1

-- What a seat knows is so.
pub record Claims (c : Content) (v : View) : Type 0 where
  pub seen : v.seen ≤ c.rows.count
  pub known : All (IsRight c v.seen) v.known
  pub absent : All (λ a. (a.1 ≤ v.seen) × NoneBetween c.rows.linked a.0 0 a.1) v.absent
  pub walk : IfSome v.walk (IsOnTheWay c.rows v.seen)
  pub walked : All (λ p. StandsIn c.rows.linked p.1 p.0) v.walked
  pub loads : All (λ m. m.1 ≢ 0 → address_of c.units.built m.0 ≡ m.1) v.address_loads
  pub one_way : IsOneWay v.address_loads
  pub creates : v.creates ≡ true → v.rows ≡ c.rows
  pub publishes : v.publishes ≡ true → v.units ≡ c.units

-- At most one seat creates, and at most one publishes.
pub record HasOneWriterEach (views : List View) : Type 0 where
  pub creator : (i j : ℕ) (v w : View) → get_elem? views i ≡ some v → get_elem? views j ≡ some w → v.creates ≡ true → w.creates ≡ true → i ≡ j
  pub publisher : (i j : ℕ) (v w : View) → get_elem? views i ≡ some v → get_elem? views j ≡ some w → v.publishes ≡ true → w.publishes ≡ true → i ≡ j

-- The lawful table.
pub record Lawful (asked : List (List ℕ)) (fits : Subject → List ℕ → Type 0) (z : Numbers) (s : State ℕ View) : Type 0 where
  pub content : Content
  pub wide : length s.words ≡ width z
  pub stands_for_rows : StandsForRows s.words content.rows
  pub stands_for_units : StandsForUnits z s.words content.units
  pub rows : RowsAreSound asked z content.rows
  pub units : UnitsAreSound fits z content.rows content.units
  pub claims : (id : ℕ) (v : View) → get_elem? s.views id ≡ some v → Claims content v
  pub writers : HasOneWriterEach s.views
