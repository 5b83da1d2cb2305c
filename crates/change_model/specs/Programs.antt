-- Programs that are alike as far as instructions, variables and outcomes ask.
use Rattle.std.specs.Prelude.{◌≡◌, ℕ, ◌==◌, false}
use Rattle.spirv_model.specs.declared.decoration.TheConstants.{SPEC_ID}
use Rattle.valid_model.specs.declared.meaning.Meaning.{Meaning}
use Rattle.valid_model.specs.declared.meaning.Meaning.TheVariants.{Constant, Value}
use Rattle.stage_model.specs.Program.{Program}
use Rattle.stage_model.specs.Stage.{output_with}

-- what an id means, where constants aren't told from other values
abbrev pub plainly : Meaning → Meaning
plainly (Constant type) = Value type
plainly meaning = meaning

-- ids mean the same, and types have the same layouts
pub record MeanSame (new old : Program) : Type 0 where
  pub meaning : (id : ℕ) → plainly (new.meaning id) ≡ plainly (old.meaning id)
  pub layout : new.layout ≡ old.layout

-- moreover decorations are the same, but for the numbers of specialization constants, and outputs are the same variables
pub record AreProgramsAlike (new old : Program) : Type 0 where
  pub mean : MeanSame new old
  pub decoration : (id decoration : ℕ) → decoration == SPEC_ID ≡ false → new.decoration id decoration ≡ old.decoration id decoration
  pub offset : new.offset ≡ old.offset
  pub output : (decoration word : ℕ) → decoration == SPEC_ID ≡ false → output_with new decoration word ≡ output_with old decoration word
