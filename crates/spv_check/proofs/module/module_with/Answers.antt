use Rattle.std.proofs.Common.{ap, ◌∙◌}
use Rattle.check_model.specs.Interfaces.{stage_of}
use Rattle.spv_check.specs.Modules.{stage_by}
use Rattle.spv_check.proofs.module.module_with.Goals as goal

pub invariant_of-result : goal.invariant_of-result
unfolding stage_of
invariant_of-result c = record {
  few = c.requires.few;
  valid = c.requires.valid;
  tree = c.requires.tree;
  told = c.requires.ids;
  stage_is = c.stage_by-stage.ensures ∙ ap stage_by c.requires.vertex;
  inputs_are = c.inputs_of-inputs.ensures;
  outputs_are = c.outputs_of-outputs.ensures;
  declares = c.requires.declares;
}
