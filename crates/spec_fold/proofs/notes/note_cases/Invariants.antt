use Rattle.std.proofs.Common.{◌≡◌, ◌||◌, ℕ, length}
use Rattle.body_model.specs.Switches.{is_among}
use Rattle.spec_fold.specs.Sets.{has}
use Rattle.spec_fold.specs.Walks.{case_targets}
use Rattle.spec_fold.proofs.notes.note_cases.Given as goal

abbrev pub invariant-loop-rest : goal.invariant-loop-rest
invariant-loop-rest l = (label : ℕ) → (has l.named label || is_among label (case_targets l.rest)) ≡ (has l.fn.named label || is_among label (case_targets l.cases))

abbrev pub decreases-loop-rest : goal.decreases-loop-rest
decreases-loop-rest l = length l.rest
