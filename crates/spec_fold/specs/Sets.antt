-- Sets of ids.
use Rattle.std.specs.Prelude.{◌≡◌, ℕ, ◌==◌, ◌||◌, Bool, false, is_some}
use Rattle.id_table.specs.Tables.{at}
use Rattle.spec_fold.specs.declared.marks.Marks.{Marks}

-- the id is in the set
abbrev pub has : Marks → ℕ → Bool
has marks id = is_some (at marks.table id)

abbrev pub IsEmpty : Marks → Type 0
IsEmpty marks = (id : ℕ) → has marks id ≡ false

-- the set has those with a property besides
abbrev pub AddsThose : (ℕ → Bool) → Marks → Marks → Type 0
AddsThose property old new = (id : ℕ) → has new id ≡ (has old id || property id)

abbrev pub Adds : ℕ → Marks → Marks → Type 0
Adds id old new = AddsThose (λ other. id == other) old new

-- the set has those with a property, and no others
abbrev pub AreThose : (ℕ → Bool) → Marks → Type 0
AreThose property marks = (id : ℕ) → has marks id ≡ property id
