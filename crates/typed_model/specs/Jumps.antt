-- Visibility along a branch: what is visible where it leads is visible where it stands.
use Rattle.std.specs.Prelude.{◌≡◌, ℕ, ◌<◌, ◌≤◌, Bool, true, not, ◌||◌, List, Some}
use Rattle.std.specs.List.{list_all}
use Rattle.spirv_model.specs.declared.module.Inst.{Inst}
use Rattle.body_model.specs.Due.{IsDue}
use Rattle.check_model.specs.Intervals.{Interval, has_place}

-- each interval that has the first place has the second
abbrev pub keeps : List Interval → ℕ → ℕ → Bool
keeps intervals a b = list_all (λ i. not (has_place a i) || has_place b i) intervals

-- what is defined before a label and kept there is kept at a terminator, and defined no later
pub record Jump (intervals : List Interval) (terminator label : ℕ) : Type 0 where
  pub before : (a : ℕ) → a < label → keeps intervals a label ≡ true → a ≤ terminator
  pub kept : (a : ℕ) → a < label → keeps intervals a label ≡ true → keeps intervals a terminator ≡ true

-- a label that a terminator names stands between two places, and the branch keeps what is visible there
pub record Lands (insts : List Inst) (intervals : List Interval) (from to terminator label : ℕ) : Type 0 where
  pub place : ℕ
  pub due : IsDue insts (Some label) place
  pub low : from ≤ place
  pub high : place < to
  pub jump : Jump intervals terminator place
