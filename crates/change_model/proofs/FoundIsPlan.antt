-- What one pass over a valid module finds is a plan.
use Rattle.std.proofs.Common.{ℕ, suc, ◌+◌, ap, ◌∙◌, arith}
use Rattle.change_model.specs.Plans.{is_dead}
use Rattle.change_model.specs.PlanRules.{IsPlan}
use Rattle.change_model.proofs.FoundPlans.{Found}
use Rattle.change_model.proofs.FoundFits.{Owed, fate_fits}
use Rattle.change_model.proofs.FoundLabels.{first_alive, same_block, entered_rightly}
use Rattle.change_model.proofs.LeftScopes.{is_label_at}

pub is_plan_with : (f : Found) → Owed f → IsPlan f.words f.valid f.zeros f.plan
is_plan_with f owed = record {
  outside = f.is.outside;
  begins = first_alive f;
  blocks = λ place low high isnt.
      ap (λ (n : ℕ). is_dead (f.plan.fate n)) {x = suc place} {y = place + 1} (omega arith)
      ∙ same_block f place (omega (arith, low)) (omega (arith, high)) (ap (is_label_at f.words.insts) {x = place + 1} {y = suc place} (omega arith) ∙ isnt);
  labels = λ place low high is. entered_rightly f place low high is;
  fits = λ place low high. fate_fits f owed place low high;
  names = f.is.names;
}
