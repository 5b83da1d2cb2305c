-- What one pass finds is a plan, and the module that it makes came of all that the module before came of.
use Rattle.spirv_model.specs.declared.module.Words.{Words}
use Rattle.check_model.specs.Validity.{IsValidList}
use Rattle.state_model.specs.declared.parts.SpecValues.{SpecValues}
use Rattle.change_model.specs.PlanRules.{IsPlan}
use Rattle.change_model.specs.Specialised.{CameOf}
use Rattle.change_model.proofs.FoundFits.{Owed}
use Rattle.change_model.proofs.FoundIsPlan.{is_plan_with}
use Rattle.change_model.proofs.FoundOnly.{only_pair, resolved_phi}
use Rattle.change_model.proofs.FoundPlans.{Found}
use Rattle.change_model.proofs.FoundResolved.{resolved_value}
use Rattle.change_model.proofs.FoundStays.{phi_stays}
use Rattle.change_model.proofs.FoundUnused.{unused_found}
use Rattle.change_model.proofs.PlanRunsKeep.{changed_words}
use Rattle.change_model.proofs.PlanValid.{plan_valid}
use Rattle.change_model.proofs.Planned.{Planned}
use Rattle.change_model.proofs.Rounds.{next_round}

owed : (f : Found) → Owed f
owed f = record {
  resolved = λ place low high goes.
      let r = resolved_phi f place low high goes in
      let v = resolved_value f place r.pair goes r.found in
      record {
        pair = r.pair;
        is_phi = r.is_phi;
        only = only_pair f place low high goes r.pair r.found;
        origin = v.origin;
        given = v.given;
        earlier = v.earlier;
        stands = v.stands;
        at = v.at;
        defined = v.defined;
        visible = v.visible;
        apart = v.apart;
      };
  kept = phi_stays f;
  unused = unused_found f;
}

pub found_is_plan : (f : Found) → IsPlan f.words f.valid f.zeros f.plan
found_is_plan f = is_plan_with f (owed f)

-- the pass with its plan
abbrev pub planned : Found → Planned
planned f = record { words = f.words; valid = f.valid; zeros = f.zeros; plan = f.plan; is = found_is_plan f }

-- the list that the plan makes is a valid module
pub pass_valid : (f : Found) → IsValidList (changed_words f.plan f.words f.words.bound)
pass_valid f = plan_valid (planned f)

pub pass_again : (f : Found) (entries : SpecValues) (old : Words) → CameOf f.zeros entries f.words old → CameOf f.zeros entries (changed_words f.plan f.words f.words.bound) old
pass_again f entries old came = next_round entries old (planned f) f.is.unread came
