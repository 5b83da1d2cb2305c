-- Where truth values stand among the words of a layout, and memories that hold 0 or 1 there.
use Rattle.std.specs.Prelude.{◌≡◌, ℕ, ◌-◌, ◌<◌, Bool, true, false, nat_lt, if◌then◌else◌, Some}
use Rattle.stage_model.specs.Value.{Layout, OneTruth, OneWord, Several, Layouts, NoLayouts, LayoutsOf, size_of}
use Rattle.stage_model.specs.Program.{Program, held_layout}
use Rattle.stage_model.specs.Start.{Memory}

-- the word at a place of a layout is that of a truth value
abbrev mutual
  pub is_truth_at : Layout → ℕ → Bool
  is_truth_at OneTruth place = true
  is_truth_at OneWord place = false
  is_truth_at (Several layouts) place = is_truth_in layouts place

  pub is_truth_in : Layouts → ℕ → Bool
  is_truth_in NoLayouts place = false
  is_truth_in (LayoutsOf layout layouts) place = if nat_lt place (size_of layout) then is_truth_at layout place else is_truth_in layouts (place - size_of layout)

-- each truth value of a variable is held as 0 or 1
abbrev pub HoldsTruths : Program → Memory → Type 0
HoldsTruths program memory =
    (variable : ℕ) (layout : Layout) (place : ℕ) → held_layout program variable ≡ Some layout → place < size_of layout → is_truth_at layout place ≡ true → memory variable place < 2
