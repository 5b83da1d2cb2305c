-- The answer of a look-up, by its cases.
use Rattle.std.specs.Prelude.{◌≡◌, ℕ, ◌<◌, ◌≤◌, List, Contains, ⊤}
use Rattle.inst_table.specs.Names.{room_of, view_of}
use Rattle.inst_table.specs.Passes.{KnowsRow, KnowsNoRow}
use Rattle.inst_table.specs.declared.setup.Fit.{Ghosts}
use Rattle.inst_table.specs.declared.table.Table.{Table}
use Rattle.inst_table.specs.declared.pass.Pass.{Pass}
use Rattle.inst_table.specs.declared.pass.Find.{Find}
use Rattle.inst_table.specs.declared.pass.Find.TheVariants.{Hit, Miss}

abbrev pub IfHit : Find → (ℕ → Type 0) → Type 0
IfHit (Hit row) P = P row
IfHit (Miss n) P = ⊤

abbrev pub IfMiss : Find → (ℕ → Type 0) → Type 0
IfMiss (Hit row) P = ⊤
IfMiss (Miss n) P = P n

-- The row is one of the table's, and the pass knows that it has the key.
pub record IsHit {F : Type 0} {G : Ghosts F} (table : Table F G) (key : List ℕ) (after : Pass) (row : ℕ) : Type 0 where
  pub inside : row < room_of table
  pub known : KnowsRow (view_of after) row key

-- The count that was read in this call is n, and no row below it has the key.
pub record IsMiss {F : Type 0} {G : Ghosts F} (table : Table F G) (key : List ℕ) (before after : Pass) (n : ℕ) : Type 0 where
  pub seen : (view_of after).seen ≡ n
  pub later : (view_of before).seen ≤ n
  pub inside : n ≤ room_of table
  pub absent : Contains (view_of after).absent (key, n)
  pub never_known : KnowsNoRow (view_of before) key
