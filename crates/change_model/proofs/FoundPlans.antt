-- A valid module and the plan that one pass over it finds.
use Rattle.std.proofs.Common.{ℕ, ◌+◌, List}
use Rattle.spirv_model.specs.declared.module.Words.{Words}
use Rattle.check_model.specs.Intervals.{intervals_of}
use Rattle.check_model.specs.Validity.{IsValidList}
use Rattle.change_model.specs.declared.fate.Fate.{Fate}
use Rattle.change_model.specs.Plans.{Plan}
use Rattle.change_model.specs.Passes.{IsFound, fate_found}

pub record Found : Type 0 where
  pub words : Words
  pub valid : IsValidList words
  pub zeros : List ℕ
  pub plan : Plan
  pub is : IsFound words valid zeros plan

-- what the pass finds for a place of the function
abbrev pub found_at : Found → ℕ → Fate
found_at f place = fate_found (intervals_of f.valid.derivation) f.words.insts f.zeros (f.valid.derivation.before + 1) f.plan place
