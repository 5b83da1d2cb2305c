-- How far the test for distinct entries has come.
use Rattle.std.specs.Prelude.{ℕ, ◌<◌, List, Option, slice_index_or}
use Rattle.state_model.specs.Lawful.{HaveDifferentIds}
use Rattle.state_model.specs.declared.parts.Entry.{Entry}

abbrev pub DiffersFromEarlier : List (Option Entry) → ℕ → Type 0
DiffersFromEarlier entries i =
    (j : ℕ) (d : Option Entry) → j < i → HaveDifferentIds (slice_index_or entries j d) (slice_index_or entries i d)
