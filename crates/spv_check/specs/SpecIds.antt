-- Sets of specialization ids, and their numbers in order.
use Rattle.std.specs.Prelude.{◌≡◌, ℕ, ◌||◌, List}
use Rattle.std.specs.List.{list_any}
use Rattle.std.specs.Ordering.{nat_cmp}
use Rattle.std.specs.BTreeSet.{BTreeSet, IsOrdered, contains, keys}
use Rattle.spirv_model.specs.declared.module.Inst.{Inst}
use Rattle.valid_model.specs.EarlierFacts.{has_spec_id}

-- the set has the number, too, by which the instruction says that a constant is set
abbrev pub AddsSpecId : Inst → BTreeSet ℕ → BTreeSet ℕ → Type 0
AddsSpecId inst old new = (number : ℕ) → contains nat_cmp new number ≡ (contains nat_cmp old number || has_spec_id number inst)

abbrev pub HasSpecIds : List Inst → BTreeSet ℕ → Type 0
HasSpecIds insts set = (number : ℕ) → contains nat_cmp set number ≡ list_any (has_spec_id number) insts

-- the numbers of the set
pub record AreInOrder (set : BTreeSet ℕ) (ids : List ℕ) : Type 0 where
  pub are : ids ≡ keys set
  pub ordered : IsOrdered nat_cmp set
