-- A valid module, as it is kept.
use Rattle.std.specs.Prelude.{◌≡◌, ℕ, ◌<◌, ◌^◌, Bool, if◌then◌else◌, List, length}
use Rattle.spirv_model.specs.declared.module.Words.{Words}
use Rattle.state_model.specs.declared.iface.Iface.{Iface}
use Rattle.check_model.specs.declared.stage.Stage.{Stage}
use Rattle.check_model.specs.declared.stage.Stage.TheVariants.{Vertex, Fragment}
use Rattle.check_model.specs.Interfaces.{AreSpecIds, inputs_of, outputs_of, stage_of}
use Rattle.check_model.specs.Validity.{IsValidList}
use Rattle.spv_tree.specs.declared.tree.Body.{Body}
use Rattle.spv_tree.specs.Trees.{IsTreeOf}
use Rattle.spv_types.specs.declared.ids.Ids.{Ids}
use Rattle.spv_types.specs.Answers.{AreIdsOf}

-- the words are a valid module, with this tree, these ids, this stage and this interface
pub record IsModule (words : Words) (body : Body) (ids : Ids) (stage : Stage) (inputs outputs : Iface) (spec_ids : List ℕ) : Type 0 where
  pub few : length words.insts < 2 ^ 32
  pub valid : IsValidList words
  pub tree : IsTreeOf words.insts body
  pub told : AreIdsOf words ids
  pub stage_is : stage ≡ stage_of words.insts
  pub inputs_are : inputs ≡ inputs_of words.insts
  pub outputs_are : outputs ≡ outputs_of words.insts
  pub declares : AreSpecIds words.insts spec_ids

abbrev pub stage_by : Bool → Stage
stage_by vertex = if vertex then Vertex else Fragment

-- the module is that of the words, which are valid
pub record IsMadeOf (words made : Words) : Type 0 where
  pub same : made ≡ words
  pub valid : IsValidList words
