-- Why a list is no module with one structured function: each fault as a fact, at the first place that the grammar can't take.
use Rattle.std.specs.Prelude.{◌≡◌, ◌≢◌, ℕ, ◌+◌, ◌<◌, ◌≤◌, false, List, [], length, take, All, IsTrue, slice_get, Option, None, Some}
use Rattle.spirv_model.specs.declared.module.Inst.{Inst}
use Rattle.spirv_model.specs.declared.op.TheConstants.{FUNCTION, FUNCTION_END}
use Rattle.body_model.specs.declared.block_end.SelectionHead.{SelectionHead}
use Rattle.body_model.specs.declared.block_end.SwitchHead.{SwitchHead}
use Rattle.body_model.specs.declared.block_end.LoopHead.{LoopHead}
use Rattle.body_model.specs.declared.block_end.BlockEnd.TheVariants.{Broken, GoesOn, Selects, Picks, Loops}
use Rattle.body_model.specs.declared.fault.TreeFault.{TreeFault}
use Rattle.body_model.specs.declared.fault.TreeFault.TheVariants.{BadBlock}
use Rattle.body_model.specs.Classes.{is_module_level}
use Rattle.body_model.specs.Scope.{Scope, main}
use Rattle.body_model.specs.Scope as scopes
use Rattle.body_model.specs.Blocks.{block_end}
use Rattle.body_model.specs.Due.{missing, only, IsDue}
use Rattle.body_model.specs.Switches.{is_among, without, labels_of}
use Rattle.body_model.specs.Grammar.{Sequence, Arm, ArmsUpTo, IsOp, Begins}

-- the grammar comes to the place, where the block with the wanted label, if one is given, is due in the scope: all parts before it stand whole
pub data Reached (insts : List Inst) : Scope → Option ℕ → ℕ → Type 0 where
  first_block : {place : ℕ} (before : ℕ) → Begins insts before → before + 1 ≡ place → Reached insts main None place
  behind_block : {scope : Scope} {wanted : Option ℕ} {from place : ℕ} → Reached insts scope wanted from → IsDue insts wanted from
      → block_end insts scope from ≡ GoesOn place → Reached insts (scopes.behind_block scope) None place
  arm_on_true : {scope : Scope} {wanted : Option ℕ} {from : ℕ} (head : SelectionHead) → Reached insts scope wanted from → IsDue insts wanted from
      → block_end insts scope from ≡ Selects head → head.on_true ≢ head.merge → Reached insts (scopes.arm scope head.merge) (Some head.on_true) head.after
  arm_on_false : {scope : Scope} {wanted : Option ℕ} {from second : ℕ} (head : SelectionHead) → Reached insts scope wanted from → IsDue insts wanted from
      → block_end insts scope from ≡ Selects head → Arm insts scope head.merge head.on_true head.after second
      → head.on_false ≢ head.merge → Reached insts (scopes.arm scope head.merge) (Some head.on_false) second
  behind_selection : {scope : Scope} {wanted : Option ℕ} {from second join : ℕ} (head : SelectionHead) → Reached insts scope wanted from → IsDue insts wanted from
      → block_end insts scope from ≡ Selects head
      → Arm insts scope head.merge head.on_true head.after second → Arm insts scope head.merge head.on_false second join
      → Reached insts (scopes.behind_selection scope) (Some head.merge) join
  arm_of_switch : {scope : Scope} {wanted : Option ℕ} {from place : ℕ} {left : List ℕ} (head : SwitchHead) (label : ℕ) → Reached insts scope wanted from → IsDue insts wanted from
      → block_end insts scope from ≡ Picks head → ArmsUpTo insts scope head left place
      → IsTrue (is_among label left) → IsDue insts (Some label) place
      → Reached insts (scopes.switch_arm scope head.merge (without label (labels_of insts head))) (Some label) place
  behind_switch : {scope : Scope} {wanted : Option ℕ} {from join : ℕ} (head : SwitchHead) → Reached insts scope wanted from → IsDue insts wanted from
      → block_end insts scope from ≡ Picks head → ArmsUpTo insts scope head [] join → Reached insts (scopes.behind_selection scope) (Some head.merge) join
  condition : {scope : Scope} {wanted : Option ℕ} {from : ℕ} (head : LoopHead) → Reached insts scope wanted from → IsDue insts wanted from
      → block_end insts scope from ≡ Loops head → Reached insts (scopes.condition scope head.merge) (Some head.test) head.after
  body : {scope : Scope} {wanted : Option ℕ} {from first inner : ℕ} (head : LoopHead) → Reached insts scope wanted from → IsDue insts wanted from
      → block_end insts scope from ≡ Loops head
      → Sequence insts (scopes.condition scope head.merge) (Some head.test) head.after first (Some inner)
      → Reached insts (scopes.body scope head.merge head.next) (Some inner) first
  continuing : {scope : Scope} {wanted : Option ℕ} {from first second inner : ℕ} (head : LoopHead) → Reached insts scope wanted from → IsDue insts wanted from
      → block_end insts scope from ≡ Loops head
      → Sequence insts (scopes.condition scope head.merge) (Some head.test) head.after first (Some inner)
      → Sequence insts (scopes.body scope head.merge head.next) (Some inner) first second None
      → Reached insts (scopes.continuing scope head.header) (Some head.next) second
  behind_loop : {scope : Scope} {wanted : Option ℕ} {from first second third inner : ℕ} (head : LoopHead) → Reached insts scope wanted from → IsDue insts wanted from
      → block_end insts scope from ≡ Loops head
      → Sequence insts (scopes.condition scope head.merge) (Some head.test) head.after first (Some inner)
      → Sequence insts (scopes.body scope head.merge head.next) (Some inner) first second None
      → Sequence insts (scopes.continuing scope head.header) (Some head.next) second third None
      → Reached insts (scopes.behind_loop scope) (Some head.merge) third

-- the instruction, if there is one, is neither OpFunction nor one of the module's level
abbrev pub LeavesModuleLevel : Option Inst → Type 0
LeavesModuleLevel None = Unit {0}
LeavesModuleLevel (Some inst) = (inst.op ≢ FUNCTION) × (is_module_level inst.op ≡ false)

-- the function's sequence stands whole before the place
pub record EndsAt (insts : List Inst) (place : ℕ) : Type 0 where
  pub before : ℕ
  pub begins : Begins insts before
  pub sequence : Sequence insts main None (before + 1) place None

-- the list is no module with one structured function, and this is why
pub data HasFault (insts : List Inst) : TreeFault → Type 0 where
  no_function : (place : ℕ) → All (λ inst. IsTrue (is_module_level inst.op)) (take place insts) → place ≤ length insts
      → LeavesModuleLevel (slice_get insts place) → HasFault insts (BadBlock place)
  -- no block, or another one than is due
  no_block : {scope : Scope} {wanted : Option ℕ} {place : ℕ} {fault : TreeFault} → Reached insts scope wanted place
      → missing insts (only wanted) place ≡ Some fault → HasFault insts fault
  -- none of the arms of an OpSwitch that are left
  no_arm : {scope : Scope} {wanted : Option ℕ} {from place : ℕ} {left : List ℕ} {fault : TreeFault} (head : SwitchHead) → Reached insts scope wanted from → IsDue insts wanted from
      → block_end insts scope from ≡ Picks head → ArmsUpTo insts scope head left place → left ≢ []
      → missing insts (Some left) place ≡ Some fault → HasFault insts fault
  -- the block that is due has an instruction that the grammar can't take
  broken_block : {scope : Scope} {wanted : Option ℕ} {place : ℕ} {fault : TreeFault} → Reached insts scope wanted place → IsDue insts wanted place
      → block_end insts scope place ≡ Broken fault → HasFault insts fault
  no_function_end : (place : ℕ) → EndsAt insts place → (IsOp FUNCTION_END (slice_get insts place) → ⊥) → HasFault insts (BadBlock place)
  behind_function_end : (place : ℕ) → EndsAt insts place → IsOp FUNCTION_END (slice_get insts place) → place + 1 < length insts
      → HasFault insts (BadBlock (place + 1))
