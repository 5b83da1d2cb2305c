-- The rows by bucket. The chain of a bucket begins at its newest row and goes on, at each row, to the newest row of the bucket below it.
use Rattle.std.specs.Prelude.{ℕ, zero, suc, List, [], cond, ◌==◌, slice_index_or, slice_index}
use Rattle.inst_table.specs.Bucket.{bucket_of}

abbrev pub key_at : List (List ℕ) → ℕ → List ℕ
key_at rows row = slice_index_or rows row []

abbrev pub key_word : List (List ℕ) → ℕ → ℕ → ℕ
key_word rows row at = slice_index (key_at rows row) at

abbrev pub bucket_at : List (List ℕ) → ℕ → ℕ
bucket_at rows row = bucket_of (key_at rows row)

-- 1 plus the greatest row below n that is in the bucket, or 0
abbrev pub newest : (ℕ → ℕ) → ℕ → ℕ → ℕ
newest bucket_at_row bucket zero = 0
newest bucket_at_row bucket (suc n) = cond (bucket_at_row n == bucket) (suc n) (newest bucket_at_row bucket n)
