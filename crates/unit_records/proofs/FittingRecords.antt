-- Records that fit a library or a pipeline are records of valid modules.
use Rattle.std.proofs.Common.{List, ℕ, Option, None, Some}
use Rattle.std.specs.Prelude.{IfSome}
use Rattle.spirv_model.specs.declared.module.Words.{Words}
use Rattle.state_model.specs.declared.parts.State.{State}
use Rattle.check_model.specs.Validity.{IsValidList}
use Rattle.unit_model.specs.Fits.{FitsLibrary, FitsFragments, FitsPipeline}
use Rattle.unit_records.specs.Records.{IsRecord, HasModules}

pub of_library : (own : Words) → IsValidList own → (words : List ℕ) → FitsLibrary own words → IsRecord words own None
of_library own valid words fits = record { is = fits; vertex = valid; fragment = tt }

valid_there : (own_vs : Words) (own_fs fs : Option Words) → FitsFragments own_vs own_fs fs → IfSome fs IsValidList
valid_there own_vs None None fits = tt
valid_there own_vs None (Some fs) fits = absurd fits
valid_there own_vs (Some own) None fits = absurd fits
valid_there own_vs (Some own) (Some fs) fits = fits.valid

pub of_pipeline : (state : State) (own_vs : Words) (own_fs : Option Words) (words : List ℕ) → FitsPipeline state own_vs own_fs words → HasModules words
of_pipeline state own_vs own_fs words fits = record {
  vs = fits.vs;
  fs = fits.fs;
  are = record { is = fits.is; vertex = fits.modules.vertex.valid; fragment = valid_there own_vs own_fs fits.fs fits.modules.fragment };
}
