use Rattle.std.proofs.Common.{◌≡◌, ℕ, ◌||◌, map, length}
use Rattle.body_model.specs.Switches.{cases_in, Case}
use Rattle.spec_fold.specs.Facts.{leaves_to}
use Rattle.spec_fold.specs.Sets.{has}
use Rattle.spec_fold.proofs.within.add_cases.Given as goal

abbrev pub invariant-loop-rest : goal.invariant-loop-rest
invariant-loop-rest l =
    (id : ℕ) → (has l.within id || leaves_to l.arms l.place l.limit (map (λ (case : Case). case.target) (cases_in l.rest)) id)
    ≡ (has l.fn.within id || leaves_to l.arms l.place l.limit (map (λ (case : Case). case.target) (cases_in l.cases)) id)

abbrev pub decreases-loop-rest : goal.decreases-loop-rest
decreases-loop-rest l = length l.rest
