-- Where the creator and the publisher stand between two of their steps.
use Rattle.std.specs.Prelude.{◌≡◌, ◌≢◌, ℕ, ◌+◌, ◌<◌, ◌≤◌, List, [], length, Bool, true, false, Contains, Option, MatchBool, MatchOption}
use Rattle.inst_table.specs.Bucket.{key_words, buckets, bucket_of}
use Rattle.inst_table.specs.Chain.{key_at}
use Rattle.inst_table.specs.Units.{heap_of, address_of}
use Rattle.inst_table.specs.Lawful.{NoneBetween}
use Rattle.inst_table.specs.declared.setup.Numbers.{Numbers}
use Rattle.inst_table.specs.declared.view.View.{View}
use Rattle.inst_table.specs.declared.view.Rows.{Rows}
use Rattle.inst_table.specs.declared.view.Units.{Units}

-- It stores the key words of the next row, and hasn't stored its next word.
abbrev pub IsDrafting : View → Type 0
IsDrafting v = (v.creates ≡ true) × (v.rows.joined ≡ false)

-- It has stored no word of the next row.
abbrev pub IsAtRest : View → Type 0
IsAtRest v = (v.creates ≡ true) × (v.rows.joined ≡ false) × (v.rows.draft ≡ [])

-- The row is the next one, and there is room for it.
abbrev pub IsNextRow : ℕ → Rows → ℕ → Type 0
IsNextRow room rows row = (length rows.linked ≡ row) × (rows.count ≡ row) × (row < room)

-- The row stands in its chain, within the table, with a key.
abbrev pub IsLinkedRow : ℕ → Rows → ℕ → Type 0
IsLinkedRow room rows row = (row < length rows.linked) × (row < room) × (length (key_at rows.linked row) ≡ key_words)

-- All key words of the next row are stored, and this is their bucket.
abbrev pub IsDraftIn : ℕ → Rows → Type 0
IsDraftIn bucket rows = (length rows.draft ≡ key_words) × (bucket_of rows.draft ≡ bucket) × (bucket < buckets)

-- No row below n has the key, which may be asked.
abbrev pub IsNewKey : List (List ℕ) → Rows → List ℕ → ℕ → Type 0
IsNewKey asked rows key n = NoneBetween rows.linked key 0 n × Contains asked key

-- The same of the key whose words are stored.
abbrev pub IsNewDraft : List (List ℕ) → Rows → ℕ → Type 0
IsNewDraft asked rows n = IsNewKey asked rows rows.draft n

-- The answer is the row with the key, if there is one.
abbrev pub IsRowWithKey : Rows → List ℕ → ℕ → Option ℕ → Type 0
IsRowWithKey rows key count answer = MatchOption answer (NoneBetween rows.linked key 0 count) (λ row. (row < count) × (key_at rows.linked row ≡ key))

-- Whether two keys are equal.
abbrev pub IsWhetherEqual : Bool → List ℕ → List ℕ → Type 0
IsWhetherEqual answer key other = MatchBool answer (key ≡ other) (key ≢ other)

-- It is the unit's address word, if there is such a unit.
abbrev pub IsOwnAddress : Numbers → Units → ℕ → ℕ → Type 0
IsOwnAddress z units unit word = unit < z.libraries + z.rows → word ≡ address_of units.built unit

-- The place of the next heap word, for which there is room.
abbrev pub IsNextHeapPlace : ℕ → Units → ℕ → Type 0
IsNextHeapPlace room units at = (at ≡ length (heap_of units.built) + length units.partly) × (at < room)

-- The records end here, and there is room for these words behind them.
abbrev pub HasHeapFor : ℕ → Units → ℕ → List ℕ → Type 0
HasHeapFor room units end words = (end ≡ length (heap_of units.built)) × (end + length words ≤ room)
