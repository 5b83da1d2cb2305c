-- What the parts of the reader keep.
use Rattle.std.specs.Prelude.{◌≡◌, ℕ, ◌+◌, ◌-◌, ◌<◌, ◌≤◌, Bool, false, MatchBool, ◌==◌, ◌&&◌, if◌then◌else◌, List, [], length, take, slice_index_or, slice_get, All, IsTrue, Option, None, Some, Result, Ok, Err}
use Rattle.std.specs.Ordering.{nat_cmp}
use Rattle.std.specs.BTreeMap.{BTreeMap, get}
use Rattle.spirv_model.specs.declared.module.Inst.{Inst}
use Rattle.spirv_model.specs.Operands.{word_at}
use Rattle.spirv_model.specs.declared.op.TheConstants.{LABEL, FUNCTION_END, SWITCH}
use Rattle.limits.specs.declared.TheConstants.{NESTING}
use Rattle.body_model.specs.declared.block_end.BlockEnd.{BlockEnd}
use Rattle.body_model.specs.declared.block_end.BlockEnd.TheVariants.{Broken, Ends, GoesOn, Selects, Picks, Loops}
use Rattle.body_model.specs.declared.block_end.SelectionHead.{SelectionHead}
use Rattle.body_model.specs.declared.block_end.SwitchHead.{SwitchHead}
use Rattle.body_model.specs.declared.block_end.LoopHead.{LoopHead}
use Rattle.body_model.specs.declared.fault.TreeFault.{TreeFault}
use Rattle.body_model.specs.declared.fault.TreeFault.TheVariants.{BadBlock, BadMerge}
use Rattle.body_model.specs.Scope.{Scope, arm, condition, body, continuing}
use Rattle.body_model.specs.Blocks.{block_end, leads_to_loop, may_have_phis, rest_of_block}
use Rattle.body_model.specs.Switches.{is_among}
use Rattle.body_model.specs.Due.{has_label, missing, IsDue}
use Rattle.body_model.specs.Grammar.{Sequence, Arm, ArmsUpTo, IsOp, Begins}
use Rattle.body_model.specs.Faults.{Reached, HasFault, EndsAt}
use Rattle.spv_tree.specs.declared.barred.OpenArm.{OpenArm}
use Rattle.spv_tree.specs.declared.sequence.Tables.{Tables}
use Rattle.spv_tree.specs.declared.sequence.ReadSequence.{ReadSequence}
use Rattle.spv_tree.specs.declared.sequence.ReadArm.{ReadArm}
use Rattle.spv_tree.specs.declared.sequence.ReadArms.{ReadArms}
use Rattle.spv_tree.specs.declared.sequence.ReadNode.{ReadNode}
use Rattle.spv_tree.specs.declared.tree.Node.{Node}
use Rattle.spv_tree.specs.Answers.{is_memory}
use Rattle.spv_tree.specs.Barred.{KnowsTargets}
use Rattle.spv_tree.specs.Trees.{choice, round, run_of, arm_of, runs_of, pick_of, labels_in, arm_number}

-- ---- labels

-- at the place stands an OpLabel whose label stood before
abbrev pub repeats : List Inst → ℕ → Bool
repeats insts place = elim (slice_get insts place) [ None ↦ false | Some inst ↦ (inst.op == LABEL) && has_label (take place insts) (word_at 0 inst) ]

-- the places with a label that stood before are marked
pub record MarksLabels (insts : List Inst) (marks : List Bool) : Type 0 where
  pub lengths : length marks ≡ length insts
  pub each : (place : ℕ) → place < length insts → slice_index_or marks place false ≡ repeats insts place

-- why an instruction isn't an OpLabel that is due, where its label stood before or not and is wanted or not
abbrev pub misses : Inst → Bool → Bool → TreeFault → ℕ → Option TreeFault
misses inst is_repeated is_wanted at_end place =
    if inst.op == LABEL then (if is_repeated then Some (BadBlock place) else if is_wanted then None else Some (BadMerge place))
    else if inst.op == FUNCTION_END then Some at_end
    else Some (BadBlock place)

-- what is known of a list
pub record Knows (insts : List Inst) (tables : Tables) : Type 0 where
  pub labels : MarksLabels insts tables.repeated.items
  pub targets : KnowsTargets insts tables.targets

-- at the places of these arms' OpSwitches such stand
abbrev pub AreSwitches : List Inst → List OpenArm → Type 0
AreSwitches insts arms = All (λ arm. IsOp SWITCH (slice_get insts arm.place)) arms

-- how a block ends, from the instruction after its OpLabel on
abbrev pub rest_from : Scope → ℕ → List Inst → ℕ → BlockEnd
rest_from scope label rest place = rest_of_block scope label (may_have_phis scope.phis (leads_to_loop rest)) scope.first rest place

-- ---- faults

-- if this is so, the list has the fault, unless memory ran out
abbrev pub FaultIf : Type 0 → List Inst → TreeFault → Type 0
FaultIf Reason insts fault = MatchBool (is_memory fault) (Unit {0}) (Reason → HasFault insts fault)

-- the grammar comes to a block in the scope that ends so
pub record ReachedEnd (insts : List Inst) (scope : Scope) (end : BlockEnd) : Type 0 where
  pub wanted : Option ℕ
  pub from : ℕ
  pub reached : Reached insts scope wanted from
  pub here : IsDue insts wanted from
  pub is : block_end insts scope from ≡ end

-- ---- blocks

-- the block that is due at a place can't be taken
pub record Breaks (insts : List Inst) (scope : Scope) (wanted : Option ℕ) (place : ℕ) (fault : TreeFault) : Type 0 where
  pub here : IsDue insts wanted place
  pub is : block_end insts scope place ≡ Broken fault

-- a block that is due stands at a place and ends so, before another place
pub record Stands (insts : List Inst) (scope : Scope) (wanted : Option ℕ) (place after : ℕ) (end : BlockEnd) : Type 0 where
  pub here : IsDue insts wanted place
  pub is : block_end insts scope place ≡ end
  pub forward : place < after
  pub within : after ≤ length insts

-- a block that may open a selection, an OpSwitch or a loop
pub record Opens (insts : List Inst) (scope : Scope) (wanted : Option ℕ) (place after : ℕ) (end : BlockEnd) : Type 0 where
  pub stands : Stands insts scope wanted place after end
  pub depth : scope.depth < NESTING

-- a block that may open an OpSwitch, its last instruction
pub record OpensSwitch (insts : List Inst) (scope : Scope) (wanted : Option ℕ) (place : ℕ) (head : SwitchHead) : Type 0 where
  pub opens : Opens insts scope wanted place head.after (Picks head)
  pub last : IsOp SWITCH (slice_get insts (head.after - 1))

-- how the block that is due ends
abbrev pub IsBlock : List Inst → Scope → Option ℕ → ℕ → BlockEnd → Type 0
IsBlock insts scope wanted place (Broken fault) = Breaks insts scope wanted place fault
IsBlock insts scope wanted place (Ends last) = Stands insts scope wanted place last.after (Ends last)
IsBlock insts scope wanted place (GoesOn after) = Stands insts scope wanted place after (GoesOn after)
IsBlock insts scope wanted place (Selects head) = Opens insts scope wanted place head.after (Selects head)
IsBlock insts scope wanted place (Picks head) = OpensSwitch insts scope wanted place head
IsBlock insts scope wanted place (Loops head) = Opens insts scope wanted place head.after (Loops head)

abbrev pub IsDueBlock : List Inst → Scope → Option ℕ → ℕ → Result BlockEnd TreeFault → Type 0
IsDueBlock insts scope wanted place (Ok end) = IsBlock insts scope wanted place end
IsDueBlock insts scope wanted place (Err fault) = FaultIf (Reached insts scope wanted place) insts fault

-- ---- sequences

abbrev pub IsSequence : List Inst → Scope → Option ℕ → ℕ → Result ReadSequence TreeFault → Type 0
IsSequence insts scope wanted place (Ok read) = (d : Sequence insts scope wanted place read.place read.next) × (read.run ≡ run_of d)
IsSequence insts scope wanted place (Err fault) = FaultIf (Reached insts scope wanted place) insts fault

-- one way of a selection
abbrev pub IsArm : List Inst → Scope → ℕ → ℕ → ℕ → Result ReadArm TreeFault → Type 0
IsArm insts scope merge target place (Ok read) = (a : Arm insts scope merge target place read.place) × (read.run ≡ arm_of a)
IsArm insts scope merge target place (Err fault) = FaultIf ((target ≡ merge → ⊥) → Reached insts (arm scope merge) (Some target) place) insts fault

-- the arms of a selection up to a place, and its node
pub record IsChoice (insts : List Inst) (scope : Scope) (head : SelectionHead) (to : ℕ) (node : Node) : Type 0 where
  pub second : ℕ
  pub on_true : Arm insts scope head.merge head.on_true head.after second
  pub on_false : Arm insts scope head.merge head.on_false second to
  pub node_is : node ≡ choice head.cond head.merge (arm_of on_true) (arm_of on_false)

abbrev pub IsSelection : List Inst → Scope → SelectionHead → Result ReadNode TreeFault → Type 0
IsSelection insts scope head (Ok read) = IsChoice insts scope head read.place read.node
IsSelection insts scope head (Err fault) = FaultIf (ReachedEnd insts scope (Selects head)) insts fault

-- the label of an arm that stands at a place, of those that are left
pub record FindsArm (insts : List Inst) (left : List ℕ) (place label : ℕ) : Type 0 where
  pub among : IsTrue (is_among label left)
  pub here : IsDue insts (Some label) place

abbrev pub IsArmLabel : List Inst → List ℕ → ℕ → Result ℕ TreeFault → Type 0
IsArmLabel insts left place (Ok label) = FindsArm insts left place label
IsArmLabel insts left place (Err fault) = missing insts (Some left) place ≡ Some fault

-- the map has the numbers of arms with these labels in their order
abbrev pub Numbers : BTreeMap ℕ ℕ → List ℕ → Type 0
Numbers numbers labels = (label : ℕ) → get nat_cmp numbers label ≡ arm_number labels label

-- the arms of an OpSwitch, and their numbers by their labels
pub record AreArms (insts : List Inst) (scope : Scope) (head : SwitchHead) (read : ReadArms) : Type 0 where
  pub arms : ArmsUpTo insts scope head [] read.place
  pub runs_are : read.runs ≡ runs_of arms
  pub numbers_are : Numbers read.numbers (labels_in arms)

abbrev pub IsArms : List Inst → Scope → SwitchHead → Result ReadArms TreeFault → Type 0
IsArms insts scope head (Ok read) = AreArms insts scope head read
IsArms insts scope head (Err fault) = FaultIf (ReachedEnd insts scope (Picks head)) insts fault

-- the arms of an OpSwitch up to a place, and its node
pub record IsPick (insts : List Inst) (scope : Scope) (head : SwitchHead) (to : ℕ) (node : Node) : Type 0 where
  pub arms : ArmsUpTo insts scope head [] to
  pub node_is : node ≡ pick_of insts head arms

abbrev pub IsSwitch : List Inst → Scope → SwitchHead → Result ReadNode TreeFault → Type 0
IsSwitch insts scope head (Ok read) = IsPick insts scope head read.place read.node
IsSwitch insts scope head (Err fault) = FaultIf (ReachedEnd insts scope (Picks head)) insts fault

-- the three sequences of a loop up to a place, and its node
pub record IsRound (insts : List Inst) (scope : Scope) (head : LoopHead) (to : ℕ) (node : Node) : Type 0 where
  pub inner : ℕ
  pub first : ℕ
  pub second : ℕ
  pub tested : Sequence insts (condition scope head.merge) (Some head.test) head.after first (Some inner)
  pub inside : Sequence insts (body scope head.merge head.next) (Some inner) first second None
  pub step : Sequence insts (continuing scope head.header) (Some head.next) second to None
  pub node_is : node ≡ round head.header head.merge head.next (run_of tested) (run_of inside) (run_of step)

abbrev pub IsLoop : List Inst → Scope → LoopHead → Result ReadNode TreeFault → Type 0
IsLoop insts scope head (Ok read) = IsRound insts scope head read.place read.node
IsLoop insts scope head (Err fault) = FaultIf (ReachedEnd insts scope (Loops head)) insts fault

-- ---- the whole list

abbrev pub FindsFunction : List Inst → Result ℕ TreeFault → Type 0
FindsFunction insts (Ok place) = Begins insts place
FindsFunction insts (Err fault) = HasFault insts fault

-- OpFunctionEnd stands last, at a place
pub record Closes (insts : List Inst) (place : ℕ) : Type 0 where
  pub function_end : IsOp FUNCTION_END (slice_get insts place)
  pub last : length insts ≡ place + 1

abbrev pub FindsEnd : List Inst → ℕ → Result (Unit {0}) TreeFault → Type 0
FindsEnd insts place (Ok done) = Closes insts place
FindsEnd insts place (Err fault) = EndsAt insts place → HasFault insts fault
