-- Words that are a record of valid modules.
use Rattle.std.specs.Prelude.{◌≡◌, ℕ, List, Option, IfSome}
use Rattle.spirv_model.specs.declared.module.Words.{Words}
use Rattle.check_model.specs.Validity.{IsValidList}
use Rattle.unit_model.specs.Fits.{words_of, words_there, record_of}

-- they are the record of these modules, which are valid
pub record IsRecord (words : List ℕ) (vs : Words) (fs : Option Words) : Type 0 where
  pub is : words ≡ record_of (words_of vs) (words_there fs)
  pub vertex : IsValidList vs
  pub fragment : IfSome fs IsValidList

-- they are that of some modules
pub record HasModules (words : List ℕ) : Type 0 where
  pub vs : Words
  pub fs : Option Words
  pub are : IsRecord words vs fs

-- the words of some valid module
pub record AreOfModule (words : List ℕ) : Type 0 where
  pub own : Words
  pub valid : IsValidList own
  pub is : words ≡ words_of own
