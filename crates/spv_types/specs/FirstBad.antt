-- The first bad decoration.
use Rattle.std.specs.Prelude.{◌≡◌, ℕ, ◌<◌, true, false, List, Option, None, Some}
use Rattle.spirv_model.specs.declared.module.Inst.{Inst}
use Rattle.valid_model.specs.declared.type_fault.TypeFault.{TypeFault}
use Rattle.valid_model.specs.declared.type_fault.TypeFault.TheVariants.{BadDecoration}
use Rattle.valid_model.specs.Definitions.{definition}
use Rattle.valid_model.specs.Meanings.{known_by}
use Rattle.valid_model.specs.Decorations.{bad_decoration}
use Rattle.valid_model.specs.ModuleFacts.{model_of}
use Rattle.spv_types.specs.declared.module_facts.ModuleTables.{ModuleTables}
use Rattle.spv_types.specs.Decorated.{AreDecorationsOf}
use Rattle.spv_types.specs.Tables.{in_places, in_table}

-- the tables are those of the instructions
pub record IsWhole (whole : ModuleTables) : Type 0 where
  pub decorations : AreDecorationsOf whole.insts.now whole.decorations.now
  pub known : (id : ℕ) → in_table whole.known.now id ≡ known_by whole.insts.now id
  pub places : (id : ℕ) → in_places whole.places.now id ≡ definition whole.insts.now id
  pub model : whole.model ≡ model_of whole.insts.now

-- decorations are bad at this place, and at none before
pub record IsFirstBad (insts : List Inst) (limit place : ℕ) : Type 0 where
  pub within : place < limit
  pub bad : bad_decoration insts place ≡ true
  pub before : (at : ℕ) → at < place → bad_decoration insts at ≡ false

-- the first of so many places with bad decorations
abbrev pub FindsFirstBad : List Inst → ℕ → Option ℕ → Type 0
FindsFirstBad insts limit None = (at : ℕ) → at < limit → bad_decoration insts at ≡ false
FindsFirstBad insts limit (Some place) = IsFirstBad insts limit place

-- the bad decoration, else the other fault
abbrev pub bad_else : Option ℕ → Option TypeFault → Option TypeFault
bad_else (Some place) other = Some (BadDecoration place)
bad_else None other = other
