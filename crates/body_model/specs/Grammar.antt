-- The grammar of a structured function: a relation on the places of its flat list of instructions.
use Rattle.std.specs.Prelude.{◌≡◌, ℕ, ◌+◌, List, [], length, take, All, IsTrue, slice_get, Option, None, Some}
use Rattle.spirv_model.specs.declared.module.Inst.{Inst}
use Rattle.spirv_model.specs.declared.op.TheConstants.{FUNCTION, FUNCTION_END}
use Rattle.body_model.specs.declared.block_end.SequenceEnd.{SequenceEnd}
use Rattle.body_model.specs.declared.block_end.SelectionHead.{SelectionHead}
use Rattle.body_model.specs.declared.block_end.SwitchHead.{SwitchHead}
use Rattle.body_model.specs.declared.block_end.LoopHead.{LoopHead}
use Rattle.body_model.specs.declared.block_end.BlockEnd.TheVariants.{Ends, GoesOn, Selects, Picks, Loops}
use Rattle.body_model.specs.Classes.{is_module_level}
use Rattle.body_model.specs.Scope.{Scope, main, behind_block, behind_selection, behind_loop, arm, switch_arm, condition, body, continuing}
use Rattle.body_model.specs.Blocks.{block_end}
use Rattle.body_model.specs.Due.{IsDue}
use Rattle.body_model.specs.Switches.{is_among, without, labels_of}

mutual
  -- the places from the first up to the second are a sequence in the scope, whose first block has the wanted label, if one is given; behind a condition sequence the block with the label `next` stands
  pub data Sequence (insts : List Inst) : Scope → Option ℕ → ℕ → ℕ → Option ℕ → Type 0 where
    ends : {scope : Scope} {wanted next : Option ℕ} {from to : ℕ} (last : SequenceEnd) → IsDue insts wanted from
        → block_end insts scope from ≡ Ends last → last.next ≡ next → last.after ≡ to → Sequence insts scope wanted from to next
    goes_on : {scope : Scope} {wanted next : Option ℕ} {from to : ℕ} (after : ℕ) → IsDue insts wanted from
        → block_end insts scope from ≡ GoesOn after → Sequence insts (behind_block scope) None after to next → Sequence insts scope wanted from to next
    selects : {scope : Scope} {wanted next : Option ℕ} {from to : ℕ} (head : SelectionHead) (second join : ℕ) → IsDue insts wanted from
        → block_end insts scope from ≡ Selects head
        → Arm insts scope head.merge head.on_true head.after second → Arm insts scope head.merge head.on_false second join
        → Sequence insts (behind_selection scope) (Some head.merge) join to next → Sequence insts scope wanted from to next
    picks : {scope : Scope} {wanted next : Option ℕ} {from to : ℕ} (head : SwitchHead) (join : ℕ) → IsDue insts wanted from
        → block_end insts scope from ≡ Picks head
        → Arms insts scope head.merge (labels_of insts head) (labels_of insts head) head.after [] join
        → Sequence insts (behind_selection scope) (Some head.merge) join to next → Sequence insts scope wanted from to next
    loops : {scope : Scope} {wanted next : Option ℕ} {from to : ℕ} (head : LoopHead) (inner first second third : ℕ) → IsDue insts wanted from
        → block_end insts scope from ≡ Loops head
        → Sequence insts (condition scope head.merge) (Some head.test) head.after first (Some inner)
        → Sequence insts (body scope head.merge head.next) (Some inner) first second None
        → Sequence insts (continuing scope head.header) (Some head.next) second third None
        → Sequence insts (behind_loop scope) (Some head.merge) third to next → Sequence insts scope wanted from to next

  -- one way of a selection: straight to the merge block, or an arm with its label
  pub data Arm (insts : List Inst) : Scope → ℕ → ℕ → ℕ → ℕ → Type 0 where
    straight : {scope : Scope} {merge target from to : ℕ} → target ≡ merge → from ≡ to → Arm insts scope merge target from to
    through : {scope : Scope} {merge target from to : ℕ} → (target ≡ merge → ⊥) → Sequence insts (arm scope merge) (Some target) from to None → Arm insts scope merge target from to

  -- some arms of an OpSwitch, one behind the other: of its arms with the first labels, those with the second ones are due at the first place, and those with the third ones are left at the second place
  pub data Arms (insts : List Inst) : Scope → ℕ → List ℕ → List ℕ → ℕ → List ℕ → ℕ → Type 0 where
    no_arm : {scope : Scope} {merge : ℕ} {all due left : List ℕ} {from to : ℕ} → due ≡ left → from ≡ to → Arms insts scope merge all due from left to
    arm_behind : {scope : Scope} {merge : ℕ} {all due left : List ℕ} {from to : ℕ} (label between : ℕ) (before : List ℕ)
        → Arms insts scope merge all due from before between → IsTrue (is_among label before) → without label before ≡ left
        → Sequence insts (switch_arm scope merge (without label all)) (Some label) between to None → Arms insts scope merge all due from left to

-- arms of an OpSwitch stand from its head up to the place, and those with these labels are left
abbrev pub ArmsUpTo : List Inst → Scope → SwitchHead → List ℕ → ℕ → Type 0
ArmsUpTo insts scope head left place = Arms insts scope head.merge (labels_of insts head) (labels_of insts head) head.after left place

-- there is an instruction, with this opcode
abbrev pub IsOp : ℕ → Option Inst → Type 0
IsOp op None = ⊥
IsOp op (Some inst) = inst.op ≡ op

-- OpFunction stands at the place, and only the module's level before it
pub record Begins (insts : List Inst) (place : ℕ) : Type 0 where
  pub module_level : All (λ inst. IsTrue (is_module_level inst.op)) (take place insts)
  pub function : IsOp FUNCTION (slice_get insts place)

-- the list is a module with one structured function
pub record Derives (insts : List Inst) : Type 0 where
  pub before : ℕ
  pub after : ℕ
  pub begins : Begins insts before
  pub sequence : Sequence insts main None (before + 1) after None
  pub function_end : IsOp FUNCTION_END (slice_get insts after)
  pub last : length insts ≡ after + 1
