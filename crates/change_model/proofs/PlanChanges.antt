-- A plan that may be carried out on a valid module without specialization constants, and by which nothing is unread, is a change: a valid
-- module comes of it that does the same in no more words, with the same interface.
use Rattle.std.proofs.Common.{◌≡◌, true}
use Rattle.state_model.specs.declared.parts.SpecValues.{SpecValues}
use Rattle.unit_model.specs.ConstantScalars.{is_specialized}
use Rattle.change_model.specs.Keeping.{IsChange}
use Rattle.change_model.proofs.ChangedInterface.{interface_changed}
use Rattle.change_model.proofs.ChangedWritable.{shortens}
use Rattle.change_model.proofs.Planned.{Planned}
use Rattle.change_model.proofs.PlanRunsKeep.{AllRead, changed_words, plan_keeps}
use Rattle.change_model.proofs.PlanValid.{plan_valid}

pub plan_changes : (g : Planned) → is_specialized g.words.insts ≡ true → AllRead g.plan → (settled entries : SpecValues)
    → IsChange g.zeros (changed_words g.plan g.words g.words.bound) settled g.words entries
plan_changes g specialized read settled entries = record {
  valid = plan_valid g;
  keeps = record {
    does = λ inputs buffers zero. plan_keeps g.words g.valid g.zeros g.plan g.is g.words.bound (plan_valid g) specialized read settled entries inputs buffers zero;
    words = shortens g;
  };
  interface = interface_changed g;
}
