-- What a pass knows, in the words of its callers.
use Rattle.std.specs.Prelude.{◌≡◌, ◌≢◌, ℕ, ◌+◌, ◌-◌, ◌<◌, ◌≤◌, ◌⊎◌, Bool, List, length, Contains, Option, Some, MatchBool, MatchOption, slice_index}
use Rattle.inst_table.specs.Bucket.{key_words, bucket_of}
use Rattle.inst_table.specs.Subject.{Subject, library, pair}
use Rattle.inst_table.specs.Chain.{key_word}
use Rattle.inst_table.specs.Units.{IsRecord}
use Rattle.inst_table.specs.declared.setup.Numbers.{Numbers}
use Rattle.inst_table.specs.declared.view.View.{View}
use Rattle.inst_table.specs.declared.view.KnownWord.{KnownWord}
use Rattle.inst_table.specs.declared.view.KnownWord.TheVariants.{KeyWord, AddressWord, HeapWord}

-- It knows all words of the row, and they are the key.
abbrev pub KnowsRow : View → ℕ → List ℕ → Type 0
KnowsRow v row key = (at : ℕ) → at < key_words → Contains v.known (KeyWord row at (slice_index key at))

-- It knows that some key is the row's.
abbrev pub KnowsKeyOf : View → ℕ → Type 0
KnowsKeyOf v row = (key : List ℕ) × KnowsRow v row key

-- The key words that it knows are those of the rows.
abbrev pub KnowsRightKeys : View → List (List ℕ) → Type 0
KnowsRightKeys v rows = (row at word : ℕ) → Contains v.known (KeyWord row at word) → (row < length rows) × (word ≡ key_word rows row at)

abbrev pub KnowsAddress : View → ℕ → ℕ → Type 0
KnowsAddress v unit word = Contains v.known (AddressWord unit word)

-- The word is the unit's address word that it knows, which isn't 0, where it knows one.
abbrev pub IsTheKnownAddress : View → ℕ → ℕ → Type 0
IsTheKnownAddress v unit word = (known : ℕ) → KnowsAddress v unit known → (word ≡ known) × (known ≢ 0)

-- It knows a word of the row that differs from the key's.
abbrev pub KnowsDifference : View → ℕ → List ℕ → Type 0
KnowsDifference v row key = (at : ℕ) × (word : ℕ) × (at < key_words) × Contains v.known (KeyWord row at word) × (word ≢ slice_index key at)

-- It has made one more load of the count.
abbrev pub LooksOnce : View → View → Type 0
LooksOnce v w = w.looks ≡ v.looks + 1

-- It knows at least what it knew.
pub record KnowsAtLeast (v w : View) : Type 0 where
  pub seen : v.seen ≤ w.seen
  pub words : (word : KnownWord) → Contains v.known word → Contains w.known word
  pub absences : (absence : List ℕ × ℕ) → Contains v.absent absence → Contains w.absent absence

-- Each key word that it has learnt is of a row to which a look-up in the key's bucket came.
abbrev pub LearnsAlongChain : View → View → List ℕ → Type 0
LearnsAlongChain v w key = (row at word : ℕ) → Contains w.known (KeyWord row at word) → Contains v.known (KeyWord row at word) ⊎ Contains w.walked (row, bucket_of key)

-- It has learnt words of the row, and nothing else.
pub record LearnsRow (v : View) (row : ℕ) (w : View) : Type 0 where
  pub rest : w ≡ record v { known = w.known }
  pub words : (word : KnownWord) → Contains v.known word → Contains w.known word
  pub of_row : (word : KnownWord) → Contains w.known word → Contains v.known word ⊎ ((at : ℕ) × (x : ℕ) × (word ≡ KeyWord row at x))

-- It has gone along the chain of the key's bucket, and learnt words of the rows of the chain.
pub record FollowsChain (v w : View) (key : List ℕ) : Type 0 where
  pub rest : w ≡ record v { known = w.known; absent = w.absent; walk = w.walk; walked = w.walked }
  pub words : (word : KnownWord) → Contains v.known word → Contains w.known word
  pub absences : (absence : List ℕ × ℕ) → Contains v.absent absence → Contains w.absent absence
  pub walked : (step : ℕ × ℕ) → Contains v.walked step → Contains w.walked step
  pub learns : LearnsAlongChain v w key

-- No row that it knows has the key.
abbrev pub KnowsNoRow : View → List ℕ → Type 0
KnowsNoRow v key = (row : ℕ) → KnowsRow v row key → ⊥

-- A row has the key, or is none of those below n, or is known to differ.
abbrev pub IsPassed : View → ℕ → List ℕ → ℕ → Type 0
IsPassed v row key n = (n ≤ row) ⊎ KnowsDifference v row key

-- Whether the row has the key, from its words: a word that differs is known, or all are.
abbrev pub ComparesRow : View → ℕ → List ℕ → Bool → Type 0
ComparesRow v row key answer = MatchBool answer (KnowsRow v row key) (KnowsDifference v row key)

-- Whether the row is one of those below n and has the key.
abbrev pub FindsRow : View → ℕ → List ℕ → ℕ → Bool → Type 0
FindsRow v row key n answer = MatchBool answer ((row < n) × KnowsRow v row key) (IsPassed v row key n)

-- The look-up stands at the row.
abbrev pub StandsAt : View → List ℕ → ℕ → ℕ → Type 0
StandsAt v key n row = v.walk ≡ Some (record { key = key; below = n; place = row + 1 })

-- A look-up among the rows below n went from v to w: it ended at a row that has the key, or no row has it.
abbrev pub EndsLookUp : View → View → List ℕ → ℕ → Option ℕ → Type 0
EndsLookUp v w key n answer = MatchOption answer (Contains w.absent (key, n) × KnowsNoRow v key) (λ row. (row < n) × KnowsRow w row key)

-- The unit is a library's or that of a row that it knows.
abbrev pub IsKnownUnit : Numbers → View → ℕ → Type 0
IsKnownUnit z v unit = (unit < z.libraries) ⊎ ((row : ℕ) × (key : List ℕ) × (unit ≡ z.libraries + row) × KnowsRow v row key)

-- The record fits the unit, which is a library's or that of a row that it knows.
abbrev pub MayPublish : (Subject → List ℕ → Type 0) → Numbers → View → ℕ → List ℕ → Type 0
MayPublish fits z v unit words = ((unit < z.libraries) × fits (library unit) words)
    ⊎ ((row : ℕ) × (key : List ℕ) × (unit ≡ z.libraries + row) × (length key ≡ key_words) × KnowsRow v row key × fits (pair key) words)

-- The record fits the unit, so far as it knows for what the unit is.
pub record FitsKnown (fits : Subject → List ℕ → Type 0) (z : Numbers) (v : View) (unit : ℕ) (words : List ℕ) : Type 0 where
  pub as_library : unit < z.libraries → fits (library unit) words
  pub as_pair : (row : ℕ) (key : List ℕ) → unit ≡ z.libraries + row → length key ≡ key_words → KnowsRow v row key → fits (pair key) words

-- The record may be published as the unit's: it is one, and fits the unit.
pub record MayPublishRecord (fits : Subject → List ℕ → Type 0) (z : Numbers) (v : View) (unit : ℕ) (words : List ℕ) : Type 0 where
  pub whole : IsRecord words
  pub fitting : MayPublish fits z v unit words

-- It knows the words of the record at an address word.
abbrev pub KnowsRecord : View → ℕ → List ℕ → Type 0
KnowsRecord v word words = (at : ℕ) → at < length words → Contains v.known (HeapWord (word - 1 + at) (slice_index words at))

-- Whatever record it knows whole at an address word fits the unit.
abbrev pub FitsOnceKnown : (Subject → List ℕ → Type 0) → Numbers → View → ℕ → ℕ → Type 0
FitsOnceKnown fits z v unit word = (words : List ℕ) → KnowsRecord v word words → IsRecord words → FitsKnown fits z v unit words

-- A place in the record at an address word: one of its two lengths, or a place that these allow, where it knows them.
abbrev pub IsInRecord : View → ℕ → ℕ → Type 0
IsInRecord v word at = (at < 2) ⊎ ((first : ℕ) × (second : ℕ) × Contains v.known (HeapWord (word - 1) first) × Contains v.known (HeapWord (word - 1 + 1) second) × (at < 2 + first + second))

-- It has learnt words, and nothing else.
pub record LearnsWords (v w : View) : Type 0 where
  pub rest : w ≡ record v { known = w.known }
  pub words : (word : KnownWord) → Contains v.known word → Contains w.known word
