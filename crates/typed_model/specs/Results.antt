-- What a scalar or a vector is made of, and results of a layout.
use Rattle.std.specs.Prelude.{◌≡◌, ℕ, ◌==◌, Bool, true, false, Option, Some}
use Rattle.check_model.specs.declared.components.Components.{Components}
use Rattle.check_model.specs.ScalarOperands.{is_truth}
use Rattle.stage_model.specs.Value.{Value, Layout, OneTruth, OneWord, Several, repeated}
use Rattle.typed_model.specs.Values.{HasLayout}

-- one truth value or one word
abbrev pub scalar_layout : Bool → Layout
scalar_layout true = OneTruth
scalar_layout false = OneWord

-- one of them, or so many
abbrev pub vector_layout : (is_scalar : Bool) → ℕ → (truths : Bool) → Layout
vector_layout true count truths = scalar_layout truths
vector_layout false count truths = Several (repeated count (scalar_layout truths))

abbrev pub layout_of_components : Components → Layout
layout_of_components of = vector_layout (of.count == 1) of.count (is_truth of.component)

-- there is a result, of this layout
pub record HasResult (layout : Layout) (result : Option Value) : Type 0 where
  pub value : Value
  pub is : result ≡ Some value
  pub has : HasLayout layout value
