-- What is asked of the modules that stand for a pipeline's own ones, beside doing the same: nothing is left in them that is known
-- before they run.
use Rattle.std.specs.Prelude.{◌≡◌, true, List, replicate, Option, None, Some}
use Rattle.limits.specs.declared.TheConstants.{LOCATIONS}
use Rattle.spirv_model.specs.declared.module.Inst.{Inst}
use Rattle.spirv_model.specs.declared.module.Words.{Words}
use Rattle.state_model.specs.declared.iface.Iface.{Iface}
use Rattle.check_model.specs.Intervals.{intervals_of}
use Rattle.check_model.specs.Interfaces.{inputs_of, outputs_of}
use Rattle.check_model.specs.Validity.{IsValidList}
use Rattle.unit_model.specs.ConstantScalars.{is_specialized, is_folded, is_straightened}
use Rattle.unit_model.specs.UsedResults.{uses_all_results}
use Rattle.unit_model.specs.UsedInterface.{names_fed_inputs, keeps_read_outputs}

-- nothing that is known before it runs is left to be computed in a valid module
pub record IsFolded (words : Words) (valid : IsValidList words) : Type 0 where
  pub specialized : is_specialized words.insts ≡ true
  pub folded : is_folded words.insts ≡ true
  pub straightened : is_straightened (intervals_of valid.derivation) words.insts ≡ true

abbrev pub no_slots : Iface
no_slots = record { slots = replicate LOCATIONS None }

-- the inputs of the next stage, if there is one
abbrev pub inputs_behind : Option Words → Iface
inputs_behind None = no_slots
inputs_behind (Some fs) = inputs_of fs.insts

-- a vertex module in front of a fragment module, or of none
pub record IsReducedVertex (vs : Words) (valid : IsValidList vs) (fs : Option Words) : Type 0 where
  pub folded : IsFolded vs valid
  pub used : uses_all_results vs.insts ≡ true
  pub read : keeps_read_outputs (inputs_behind fs) vs.insts ≡ true

-- a fragment module behind a pipeline's own vertex module
pub record IsReducedFragment (own_vs : List Inst) (fs : Words) (valid : IsValidList fs) : Type 0 where
  pub folded : IsFolded fs valid
  pub used : uses_all_results fs.insts ≡ true
  pub fed : names_fed_inputs (outputs_of own_vs) fs.insts ≡ true
