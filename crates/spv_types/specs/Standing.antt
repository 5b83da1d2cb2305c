-- What stands before a place, instruction by instruction.
use Rattle.std.specs.Prelude.{◌≡◌, ℕ, ◌||◌, List}
use Rattle.std.specs.List.{list_any}
use Rattle.std.specs.Ordering.{nat_cmp}
use Rattle.std.specs.BTreeSet.{BTreeSet, contains}
use Rattle.spirv_model.specs.declared.module.Inst.{Inst}
use Rattle.spirv_model.specs.declared.storage_class.TheConstants.{PUSH_CONSTANT}
use Rattle.valid_model.specs.DecorationWords.{decorates, places_member}
use Rattle.valid_model.specs.EarlierFacts.{EarlierFacts, has_spec_id, has_slot, is_variable_of, is_position_variable}
use Rattle.valid_model.specs.ModuleFacts.{ModuleFacts}
use Rattle.spv_types.specs.declared.earlier_facts.EarlierTables.{EarlierTables}
use Rattle.spv_types.specs.declared.module_facts.ModuleTables.{ModuleTables}
use Rattle.spv_types.specs.FactsIn.{before_in, facts_in}
use Rattle.spv_types.specs.Pairs.{has_pair}

-- these instructions stand before
pub record StandsFor (facts : ModuleFacts) (insts : List Inst) (before : EarlierFacts) : Type 0 where
  pub decoration : (id decoration : ℕ) → before.decoration id decoration ≡ list_any (decorates id decoration) insts
  pub offset : (id member : ℕ) → before.offset id member ≡ list_any (places_member id member) insts
  pub spec_id : (number : ℕ) → before.spec_id number ≡ list_any (has_spec_id number) insts
  pub slot : (set binding : ℕ) → before.slot set binding ≡ list_any (has_slot facts set binding) insts
  pub push : before.push ≡ list_any (is_variable_of PUSH_CONSTANT) insts
  pub position : before.position ≡ list_any (is_position_variable facts) insts

-- one more instruction stands before
pub record Adds (facts : ModuleFacts) (inst : Inst) (old now : EarlierFacts) : Type 0 where
  pub decoration : (id decoration : ℕ) → now.decoration id decoration ≡ (old.decoration id decoration || decorates id decoration inst)
  pub offset : (id member : ℕ) → now.offset id member ≡ (old.offset id member || places_member id member inst)
  pub spec_id : (number : ℕ) → now.spec_id number ≡ (old.spec_id number || has_spec_id number inst)
  pub slot : (set binding : ℕ) → now.slot set binding ≡ (old.slot set binding || has_slot facts set binding inst)
  pub push : now.push ≡ (old.push || is_variable_of PUSH_CONSTANT inst)
  pub position : now.position ≡ (old.position || is_position_variable facts inst)

abbrev pub AddsInst : ModuleTables → Inst → EarlierTables → EarlierTables → Type 0
AddsInst whole inst old new = Adds (facts_in whole) inst (before_in old) (before_in new)

-- ---- and so its decoration, its offset of a member, its SpecId and its slot

abbrev pub AddsDecoration : Inst → BTreeSet (ℕ × ℕ) → BTreeSet (ℕ × ℕ) → Type 0
AddsDecoration inst old new = (id decoration : ℕ) → has_pair new id decoration ≡ (has_pair old id decoration || decorates id decoration inst)

abbrev pub AddsOffset : Inst → BTreeSet (ℕ × ℕ) → BTreeSet (ℕ × ℕ) → Type 0
AddsOffset inst old new = (id member : ℕ) → has_pair new id member ≡ (has_pair old id member || places_member id member inst)

abbrev pub AddsSpecId : Inst → BTreeSet ℕ → BTreeSet ℕ → Type 0
AddsSpecId inst old new = (number : ℕ) → contains nat_cmp new number ≡ (contains nat_cmp old number || has_spec_id number inst)

abbrev pub AddsSlot : ModuleTables → Inst → BTreeSet (ℕ × ℕ) → BTreeSet (ℕ × ℕ) → Type 0
AddsSlot whole inst old new = (set binding : ℕ)
    → has_pair new set binding ≡ (has_pair old set binding || has_slot (facts_in whole) set binding inst)
