-- Where terminators may lead.
use Rattle.std.specs.Prelude.{◌≡◌, ◌≢◌, ℕ, ◌==◌, ◌⊎◌, Bool, if◌then◌else◌, List, [], ◌∷◌, slice_index, IsTrue, Option, None, Some}
use Rattle.spirv_model.specs.declared.module.Inst.{Inst}
use Rattle.spirv_model.specs.declared.op.TheConstants.{BRANCH, BRANCH_CONDITIONAL, SWITCH}
use Rattle.body_model.specs.Scope.{Scope}
use Rattle.body_model.specs.Blocks.{exit_to}
use Rattle.body_model.specs.Switches.{targets_of}

-- the labels that a terminator names; other instructions name none
unfoldable pub targets_by : ℕ → List ℕ → List ℕ
targets_by op words =
    if op == BRANCH then slice_index words 0 ∷ []
    else if op == BRANCH_CONDITIONAL then slice_index words 1 ∷ slice_index words 2 ∷ []
    else if op == SWITCH then targets_of words
    else []

abbrev pub targets : Inst → List ℕ
targets inst = targets_by inst.op inst.words

-- a sequence in the scope may be left to the label: behind a condition sequence to the label of the body
abbrev pub MayLeaveTo : Scope → Option ℕ → ℕ → Type 0
MayLeaveTo scope next label = (exit_to scope label ≢ None) ⊎ ((scope.test ≡ Some label) ⊎ (next ≡ Some label))
