-- The bucket of a key.
use Rattle.std.specs.Prelude.{ℕ, List, fold, flat_map, bit_xor}
use Rattle.std.specs.Int.{to_le_bytes}
use mir.Syntax.{w64}
use Rattle.limits.specs.declared.TheConstants.{KEY_WORDS}
use Rattle.inst_table.specs.declared.TheConstants.{BUCKETS}

-- the number of words of a key, and the number of buckets
abbrev pub key_words : ℕ
key_words = KEY_WORDS

abbrev pub buckets : ℕ
buckets = BUCKETS

-- the exclusive or of all bytes of all words
unfoldable pub bucket_of : List ℕ → ℕ
bucket_of key = fold bit_xor 0 (flat_map (to_le_bytes w64) key)
