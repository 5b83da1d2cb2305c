-- The rows of the names, and where they are looked for.
use Rattle.std.specs.Prelude.{ℕ, ◌+◌, ◌-◌, ◌*◌, ◌/◌, ◌%◌, min, List, length, take, drop, slice_index, Option, None, Some}
use Rattle.std.specs.Borrow.{Bor}
use Rattle.spv_text.specs.declared.names.TheConstants.{NAMES, ROW_BYTES}

-- the name that was found
abbrev pub seen_name : Option (Bor (List ℕ)) → Option (List ℕ)
seen_name None = None
seen_name (Some name) = Some name.now

-- a row at the front of these bytes, or what there is of it
abbrev pub row_in : List ℕ → List ℕ
row_in bytes = take (min (length bytes) ROW_BYTES) bytes

-- the name of a row, as long as its last byte says
abbrev pub name_in_row : List ℕ → List ℕ
name_in_row row = take (min (length row) (slice_index row (ROW_BYTES - 1))) row

-- the name of the row with this number, counted from 1
unfoldable pub row_name : ℕ → List ℕ
row_name number = name_in_row (row_in (drop (min (ROW_BYTES * number - ROW_BYTES) (length NAMES)) NAMES))

-- a number below 512 that tells the names apart
unfoldable pub name_hash : List ℕ → ℕ
name_hash name =
    (67 * (length name % 512) + 24 * slice_index name 2 + 68 * slice_index name (length name - 1) + 49 * slice_index name (length name / 2)) % 512
