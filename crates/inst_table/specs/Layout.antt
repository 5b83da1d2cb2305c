-- Where each word of the table lies: the count, the bucket heads, the rows, each with its key words and then its next word, the address words, and the heap.
use Rattle.std.specs.Prelude.{◌≡◌, ℕ, ◌+◌, ◌-◌, ◌*◌, ◌^◌, ◌<◌, ◌≤◌}
use Rattle.inst_table.specs.declared.setup.Numbers.{Numbers}
use Rattle.inst_table.specs.Bucket.{key_words, buckets}

abbrev pub count_place : ℕ
count_place = 0

abbrev pub head_place : ℕ → ℕ
head_place bucket = 1 + bucket

abbrev pub row_place : ℕ → ℕ
row_place row = 1 + buckets + row * (key_words + 1)

abbrev pub key_place : ℕ → ℕ → ℕ
key_place row at = row_place row + at

abbrev pub next_place : ℕ → ℕ
next_place row = row_place row + key_words

abbrev pub address_place : Numbers → ℕ → ℕ
address_place z unit = row_place z.rows + unit

abbrev pub heap_place : Numbers → ℕ → ℕ
heap_place z at = row_place z.rows + (z.libraries + z.rows) + at

abbrev pub width : Numbers → ℕ
width z = row_place z.rows + (z.libraries + z.rows) + z.heap

-- Units have numbers of 32 bits, and all places have numbers of 64 bits.
abbrev pub AreSmall : Numbers → Type 0
AreSmall z = (z.libraries + z.rows < 2 ^ 32) × (z.heap < 2 ^ 62)

-- The place is that of the unit's address word, if there is such a unit.
abbrev pub IsAddressPlace : Numbers → ℕ → ℕ → Type 0
IsAddressPlace z unit place = unit < z.libraries + z.rows → place ≡ address_place z unit

-- The place is that of a word of the record at an address word, if it lies in the heap.
abbrev pub IsRecordPlace : Numbers → ℕ → ℕ → ℕ → Type 0
IsRecordPlace z word at place = 1 ≤ word → word - 1 + at < z.heap → place ≡ heap_place z (word - 1 + at)
