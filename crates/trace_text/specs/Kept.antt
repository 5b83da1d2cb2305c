-- What is kept beside the targets and the steps.
use Rattle.std.specs.Prelude.{◌≡◌, ℕ, ◌≤◌, List, length}
use Rattle.std.specs.List.{count_by}
use Rattle.draw_model.specs.declared.framebuffer.Target.{Target}
use Rattle.trace_model.specs.declared.limit.TheConstants.{TARGETS, TARGET_WORDS, DRAWS}
use Rattle.trace_model.specs.declared.whole.Step.{Step}
use Rattle.trace_model.specs.ObjectCauses.{is_draw, target_words}

-- the targets have so many words, and are few
pub record AreTargets (targets : List (ℕ × Target)) (words : ℕ) : Type 0 where
  pub count : length targets ≤ TARGETS
  pub words_are : words ≡ target_words targets
  pub few : words ≤ TARGET_WORDS

-- so many steps are draws
pub record AreSteps (steps : List (ℕ × Step)) (draws : ℕ) : Type 0 where
  pub draws_are : draws ≡ count_by (λ s. is_draw s.1) steps
  pub few : draws ≤ DRAWS
