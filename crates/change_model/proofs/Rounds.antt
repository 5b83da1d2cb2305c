-- Changes one after another: constants for the specialization constants, and then plans.
use Rattle.std.proofs.Common.{List, ℕ}
use Rattle.spirv_model.specs.declared.module.Words.{Words}
use Rattle.state_model.specs.declared.parts.SpecValues.{SpecValues}
use Rattle.check_model.specs.Validity.{IsValidList}
use Rattle.change_model.specs.Constants.{with_constants}
use Rattle.change_model.specs.Specialised.{CameOf}
use Rattle.change_model.proofs.Composing.{changes_again}
use Rattle.change_model.proofs.ConstantsSpecialized.{constants_specialized}
use Rattle.change_model.proofs.ConstantsValid.{constants_change}
use Rattle.change_model.proofs.PlanChanges.{plan_changes}
use Rattle.change_model.proofs.PlanRunsKeep.{AllRead, changed_words}
use Rattle.change_model.proofs.Planned.{Planned}
use Rattle.change_model.proofs.SpecializedLeft.{specialized_left}

pub first_round : (zeros : List ℕ) (entries : SpecValues) (words : Words) → IsValidList words → CameOf zeros entries (with_constants entries words) words
first_round zeros entries words v = record { changes = constants_change zeros words v entries; specialized = constants_specialized words v entries }

pub next_round : (entries : SpecValues) (old : Words) (g : Planned) → AllRead g.plan → CameOf g.zeros entries g.words old → CameOf g.zeros entries (changed_words g.plan g.words g.words.bound) old
next_round entries old g read came = record {
  changes = λ any. changes_again g.zeros (changed_words g.plan g.words g.words.bound) g.words old any any entries (plan_changes g came.specialized read any any) (came.changes any);
  specialized = specialized_left g came.specialized;
}
