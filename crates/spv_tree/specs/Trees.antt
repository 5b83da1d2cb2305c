-- The tree of a function's derivation, and the instructions of its blocks on the flat list.
use Rattle.std.specs.Prelude.{◌≡◌, ℕ, ◌+◌, ◌-◌, ◌==◌, if◌then◌else◌, List, [], ◌∷◌, ◌++◌, length, map, take, slice_get, Option, None, Some}
use Rattle.std.specs.Option.{option_map}
use Rattle.spirv_model.specs.declared.module.Inst.{Inst}
use Rattle.spirv_model.specs.Operands.{word_at}
use Rattle.spirv_model.specs.declared.op.TheConstants.{FUNCTION}
use Rattle.body_model.specs.declared.scope.End.{End}
use Rattle.body_model.specs.declared.block_end.SwitchHead.{SwitchHead}
use Rattle.body_model.specs.Scope.{Scope}
use Rattle.body_model.specs.Switches.{Case, cases_of, switch_words}
use Rattle.body_model.specs.Grammar.{Sequence, ends, goes_on, selects, picks, loops, Arm, straight, through, Arms, no_arm, arm_behind, ArmsUpTo, Derives}
use Rattle.spv_tree.specs.declared.tree.Body.{Body}
use Rattle.spv_tree.specs.declared.tree.Run.{Run, roll-Run}
use Rattle.spv_tree.specs.declared.tree.Choice.{roll-Choice}
use Rattle.spv_tree.specs.declared.tree.Pick.{roll-Pick}
use Rattle.spv_tree.specs.declared.tree.PickCase.{PickCase}
use Rattle.spv_tree.specs.declared.tree.Round.{roll-Round}
use Rattle.spv_tree.specs.declared.tree.Block.{Block}
use Rattle.spv_tree.specs.declared.tree.Node.{Node}
use Rattle.spv_tree.specs.declared.tree.Node.TheVariants as node

abbrev pub first_word : Option Inst → ℕ
first_word None = 0
first_word (Some inst) = word_at 0 inst

-- the block from its OpLabel at a place up to the place after its terminator
abbrev pub block_at : List Inst → ℕ → ℕ → Block
block_at insts first after = record { label = first_word (slice_get insts first); first = first; count = after - first }

abbrev pub run : List Node → End → Run
run nodes end = roll-Run (record { nodes = nodes; end = end })

abbrev pub choice : ℕ → ℕ → Option Run → Option Run → Node
choice cond merge on_yes on_no = node.Choice (roll-Choice (record { cond = cond; merge = merge; yes = on_yes; no = on_no }))

abbrev pub pick : ℕ → ℕ → List PickCase → Option ℕ → List Run → Node
pick selector merge cases default arms = node.Pick (roll-Pick (record { selector = selector; merge = merge; cases = cases; default = default; arms = arms }))

abbrev pub round : ℕ → ℕ → ℕ → Run → Run → Run → Node
round header merge next test inner step = node.Round (roll-Round (record { header = header; merge = merge; next = next; test = test; inner = inner; step = step }))

-- the number of the arm with a label, of arms with these labels in their order; no arm has the label of the merge block
abbrev pub arm_number : List ℕ → ℕ → Option ℕ
arm_number [] label = None
arm_number (first ∷ labels) label = if first == label then Some 0 else option_map (λ number. number + 1) (arm_number labels label)

-- the literals with the numbers of their arms
abbrev pub numbered : List Case → List ℕ → List PickCase
numbered cases labels = map (λ (case : Case). record { literal = case.literal; arm = arm_number labels case.target }) cases

-- the labels of arms in their order
abbrev pub labels_in : {insts : List Inst} {scope : Scope} {merge : ℕ} {all due left : List ℕ} {from to : ℕ} → Arms insts scope merge all due from left to → List ℕ
labels_in (no_arm is none) = []
labels_in (arm_behind label between before arms among is sequence) = labels_in arms ++ label ∷ []

-- how a sequence ends
abbrev pub end_of : {insts : List Inst} {scope : Scope} {wanted next : Option ℕ} {from to : ℕ} → Sequence insts scope wanted from to next → End
end_of (ends last here is label_is place_is) = last.end
end_of (goes_on after here is rest) = end_of rest
end_of (selects head second join here is on_true on_false rest) = end_of rest
end_of (picks head join here is arms rest) = end_of rest
end_of (loops head inner first second third here is tested inside step rest) = end_of rest

abbrev mutual
  -- the blocks and constructs of a sequence
  pub nodes_of : {insts : List Inst} {scope : Scope} {wanted next : Option ℕ} {from to : ℕ} → Sequence insts scope wanted from to next → List Node
  nodes_of {insts = insts} {from = from} (ends last here is label_is place_is) = node.Block (block_at insts from last.after) ∷ []
  nodes_of {insts = insts} {from = from} (goes_on after here is rest) = node.Block (block_at insts from after) ∷ nodes_of rest
  nodes_of {insts = insts} {from = from} (selects head second join here is on_true on_false rest) =
      node.Block (block_at insts from head.after) ∷ choice head.cond head.merge (arm_of on_true) (arm_of on_false) ∷ nodes_of rest
  nodes_of {insts = insts} {from = from} (picks head join here is arms rest) =
      node.Block (block_at insts from head.after)
      ∷ pick head.selector head.merge (numbered (cases_of (switch_words insts head)) (labels_in arms)) (arm_number (labels_in arms) head.default) (runs_of arms)
      ∷ nodes_of rest
  nodes_of {insts = insts} {from = from} (loops head inner first second third here is tested inside step rest) =
      node.Block (block_at insts from head.after)
      ∷ round head.header head.merge head.next (run (nodes_of tested) (end_of tested)) (run (nodes_of inside) (end_of inside)) (run (nodes_of step) (end_of step))
      ∷ nodes_of rest

  pub arm_of : {insts : List Inst} {scope : Scope} {merge target from to : ℕ} → Arm insts scope merge target from to → Option Run
  arm_of (straight is none) = None
  arm_of (through isnt sequence) = Some (run (nodes_of sequence) (end_of sequence))

  pub runs_of : {insts : List Inst} {scope : Scope} {merge : ℕ} {all due left : List ℕ} {from to : ℕ} → Arms insts scope merge all due from left to → List Run
  runs_of (no_arm is none) = []
  runs_of (arm_behind label between before arms among is sequence) = runs_of arms ++ run (nodes_of sequence) (end_of sequence) ∷ []

-- the node of an OpSwitch with these arms
abbrev pub pick_of : (insts : List Inst) {scope : Scope} (head : SwitchHead) {left : List ℕ} {to : ℕ} → ArmsUpTo insts scope head left to → Node
pick_of insts head arms = pick head.selector head.merge (numbered (cases_of (switch_words insts head)) (labels_in arms)) (arm_number (labels_in arms) head.default) (runs_of arms)

abbrev pub run_of : {insts : List Inst} {scope : Scope} {wanted next : Option ℕ} {from to : ℕ} → Sequence insts scope wanted from to next → Run
run_of sequence = run (nodes_of sequence) (end_of sequence)

-- the body is the tree of the instructions' derivation: there is one, and whichever there is has this tree
pub record IsTreeOf (insts : List Inst) (body : Body) : Type 0 where
  pub derives : Derives insts
  pub run_is : (derivation : Derives insts) → body.run ≡ run_of derivation.sequence

-- what stands behind the first OpFunction
abbrev pub behind_function : List Inst → List Inst
behind_function [] = []
behind_function (inst ∷ rest) = if inst.op == FUNCTION then rest else behind_function rest

abbrev pub without_last : List Inst → List Inst
without_last insts = take (length insts - 1) insts

-- the function's blocks: what stands between the first OpFunction and the last instruction
unfoldable pub function_blocks : List Inst → List Inst
function_blocks insts = without_last (behind_function insts)
