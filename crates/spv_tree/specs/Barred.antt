-- Scopes as the code has them: their barred labels are looked up in tables.
use Rattle.std.specs.Prelude.{◌≡◌, ℕ, Bool, false, not, ◌&&◌, ◌||◌, ◌==◌, List, [], ◌∷◌, ◌++◌, map, slice_get, Option, None, Some}
use Rattle.std.specs.declared.cmp.Ordering.{Ordering}
use Rattle.std.specs.Ordering.{nat_cmp, ordering_then}
use Rattle.std.specs.BTreeSet.{BTreeSet, contains}
use Rattle.spirv_model.specs.declared.module.Inst.{Inst}
use Rattle.spirv_model.specs.declared.op.TheConstants.{SWITCH}
use Rattle.body_model.specs.Scope as grammar
use Rattle.body_model.specs.Switches.{Case, is_among, targets_of, without, arm_labels, words_at}
use Rattle.spv_tree.specs.declared.barred.OpenArm.{OpenArm}
use Rattle.spv_tree.specs.declared.cases.SwitchCase.{SwitchCase}
use Rattle.spv_tree.specs.declared.scope.Scope.{Scope}

-- the grammar's scope, with these barred labels
abbrev pub with_barred : Scope → List ℕ → grammar.Scope
with_barred scope barred = record {
  phis = scope.phis;
  first = scope.first;
  merge = scope.merge;
  leave = scope.leave;
  exits = scope.exits;
  header = scope.header;
  test = scope.test;
  barred = barred;
  may_loop = scope.may_loop;
  may_end = scope.may_end;
  depth = scope.depth;
}

-- ---- cases

abbrev pub as_cases : List SwitchCase → List Case
as_cases cases = map (λ (case : SwitchCase). record { literal = case.literal; target = case.target }) cases

abbrev pub literals : List SwitchCase → List ℕ
literals cases = map (λ (case : SwitchCase). case.literal) cases

abbrev pub targets : List SwitchCase → List ℕ
targets cases = map (λ (case : SwitchCase). case.target) cases

-- the set has these labels
abbrev pub HasLabels : BTreeSet ℕ → List ℕ → Type 0
HasLabels set labels = (label : ℕ) → contains nat_cmp set label ≡ is_among label labels

-- ---- targets by the place of their OpSwitch

abbrev pub pair_cmp : ℕ × ℕ → ℕ × ℕ → Ordering
pair_cmp x y = ordering_then (nat_cmp x.0 y.0) (nat_cmp x.1 y.1)

abbrev pub has_pair : BTreeSet (ℕ × ℕ) → ℕ → ℕ → Bool
has_pair set a b = contains pair_cmp set (a, b)

-- the instruction is an OpSwitch with this target
abbrev pub leads_to : Inst → ℕ → Bool
leads_to inst label = (inst.op == SWITCH) && is_among label (targets_of inst.words)

abbrev pub leads_there : Option Inst → ℕ → Bool
leads_there None label = false
leads_there (Some inst) label = leads_to inst label

-- the pairs are the places of OpSwitches with their targets
abbrev pub KnowsTargets : List Inst → BTreeSet (ℕ × ℕ) → Type 0
KnowsTargets insts pairs = (place label : ℕ) → has_pair pairs place label ≡ leads_there (slice_get insts place) label

-- ---- barred labels

-- the label is that of another arm of the same OpSwitch
abbrev pub bars : BTreeSet (ℕ × ℕ) → OpenArm → ℕ → Bool
bars pairs arm label = not (label == arm.label) && not (label == arm.merge) && has_pair pairs arm.place label

abbrev pub is_barred : BTreeSet (ℕ × ℕ) → List OpenArm → ℕ → Bool
is_barred pairs [] label = false
is_barred pairs (arm ∷ arms) label = bars pairs arm label || is_barred pairs arms label

-- these labels are the barred ones
abbrev pub AreBarred : BTreeSet (ℕ × ℕ) → List OpenArm → List ℕ → Type 0
AreBarred pairs arms labels = (label : ℕ) → is_barred pairs arms label ≡ is_among label labels

-- the labels of the arms of an arm's OpSwitch
abbrev pub labels_beside : List Inst → OpenArm → List ℕ
labels_beside insts arm = arm_labels arm.merge (words_at (slice_get insts arm.place))

-- the labels that arms bar, in the grammar's order
abbrev pub barred_by : List Inst → List OpenArm → List ℕ
barred_by insts [] = []
barred_by insts (arm ∷ arms) = without arm.label (labels_beside insts arm) ++ barred_by insts arms

-- the grammar's scope in which the code reads
abbrev pub scope_in : List Inst → List OpenArm → Scope → grammar.Scope
scope_in insts arms scope = with_barred scope (barred_by insts arms)
