-- Reading a function block after block, which computes what the grammar says of a list: that it derives, or its fault.
use Rattle.std.specs.Prelude.{ℕ, zero, suc, ◌+◌, ◌==◌, if◌then◌else◌, List, [], ◌∷◌, length, drop, slice_index, Option, None, Some, Result, Ok, Err}
use Rattle.spirv_model.specs.declared.module.Inst.{Inst}
use Rattle.spirv_model.specs.declared.op.TheConstants.{FUNCTION, FUNCTION_END}
use Rattle.body_model.specs.declared.block_end.BlockEnd.{BlockEnd}
use Rattle.body_model.specs.declared.block_end.BlockEnd.TheVariants.{Broken, Ends, GoesOn, Selects, Picks, Loops}
use Rattle.body_model.specs.declared.block_end.SelectionHead.{SelectionHead}
use Rattle.body_model.specs.declared.block_end.SwitchHead.{SwitchHead}
use Rattle.body_model.specs.declared.block_end.LoopHead.{LoopHead}
use Rattle.body_model.specs.declared.fault.TreeFault.{TreeFault}
use Rattle.body_model.specs.declared.fault.TreeFault.TheVariants.{BadBlock}
use Rattle.body_model.specs.Classes.{is_module_level}
use Rattle.body_model.specs.Scope.{Scope, main, behind_block, behind_selection, behind_loop, arm, switch_arm, condition, body, continuing}
use Rattle.body_model.specs.Blocks.{block_end}
use Rattle.body_model.specs.Due.{missing, only}
use Rattle.body_model.specs.Switches.{without, labels_of}

-- the place behind a sequence, and the label of the body behind a condition sequence
pub record Read : Type 0 where
  pub after : ℕ
  pub next : Option ℕ

-- what reading a sequence in a scope gives, whose first block with the wanted label is due at a place
abbrev pub Reader : Type 0
Reader = Scope → Option ℕ → ℕ → Result Read TreeFault

-- the answer, unless there is a fault before
abbrev pub unless : {T : Type 0} → Option TreeFault → Result T TreeFault → Result T TreeFault
unless (Some fault) answer = Err fault
unless None answer = answer

-- what comes of the answer, unless it is a fault
abbrev pub with : {S T : Type 0} → Result S TreeFault → (S → Result T TreeFault) → Result T TreeFault
with (Err fault) go = Err fault
with (Ok value) go = go value

-- the place behind one way of a selection
abbrev pub read_arm : Reader → Scope → ℕ → ℕ → ℕ → Result ℕ TreeFault
read_arm read scope merge target place = if target == merge then Ok place else with (read (arm scope merge) (Some target) place) (λ arm. Ok arm.after)

-- the label that stands at a place
abbrev pub label_at : List Inst → ℕ
label_at [] = 0
label_at (inst ∷ rest) = slice_index inst.words 0

-- the place behind the arms of an OpSwitch that are left, at most so many
abbrev pub read_arms : List Inst → Reader → ℕ → Scope → ℕ → List ℕ → List ℕ → ℕ → Result ℕ TreeFault
read_arms insts read n scope merge all [] place = Ok place
read_arms insts read zero scope merge all (label ∷ left) place = Err (BadBlock place)
read_arms insts read (suc n) scope merge all (first ∷ left) place =
    let label = label_at (drop place insts) in
    unless (missing insts (Some (first ∷ left)) place)
    (with (read (switch_arm scope merge (without label all)) (Some label) place)
    (λ arm. read_arms insts read n scope merge all (without label (first ∷ left)) arm.after))

abbrev pub read_selection : Reader → Scope → SelectionHead → Result Read TreeFault
read_selection read scope head =
    with (read_arm read scope head.merge head.on_true head.after) (λ second.
    with (read_arm read scope head.merge head.on_false second) (λ join.
    read (behind_selection scope) (Some head.merge) join))

abbrev pub read_switch : List Inst → Reader → Scope → SwitchHead → Result Read TreeFault
read_switch insts read scope head =
    with (read_arms insts read (length (labels_of insts head)) scope head.merge (labels_of insts head) (labels_of insts head) head.after) (λ join.
    read (behind_selection scope) (Some head.merge) join)

abbrev pub read_loop : Reader → Scope → LoopHead → Result Read TreeFault
read_loop read scope head =
    with (read (condition scope head.merge) (Some head.test) head.after) (λ test.
    with (read (body scope head.merge head.next) test.next test.after) (λ inner.
    with (read (continuing scope head.header) (Some head.next) inner.after) (λ step.
    read (behind_loop scope) (Some head.merge) step.after)))

-- behind a block that ends so
abbrev pub read_behind : List Inst → Reader → Scope → BlockEnd → Result Read TreeFault
read_behind insts read scope (Broken fault) = Err fault
read_behind insts read scope (Ends last) = Ok (record { after = last.after; next = last.next })
read_behind insts read scope (GoesOn after) = read (behind_block scope) None after
read_behind insts read scope (Selects head) = read_selection read scope head
read_behind insts read scope (Picks head) = read_switch insts read scope head
read_behind insts read scope (Loops head) = read_loop read scope head

-- a sequence of at most so many blocks, one after or in the other
abbrev pub read_blocks : ℕ → List Inst → Reader
read_blocks zero insts scope wanted place = Err (BadBlock place)
read_blocks (suc n) insts scope wanted place =
    unless (missing insts (only wanted) place) (read_behind insts (read_blocks n insts) scope (block_end insts scope place))

-- why OpFunctionEnd isn't the last of these instructions, and the first of them, which stands at a place
abbrev pub closing : List Inst → ℕ → Option TreeFault
closing [] place = Some (BadBlock place)
closing (inst ∷ []) place = if inst.op == FUNCTION_END then None else Some (BadBlock place)
closing (inst ∷ next ∷ rest) place = Some (BadBlock (if inst.op == FUNCTION_END then place + 1 else place))

abbrev pub fault_behind : List Inst → Result Read TreeFault → Option TreeFault
fault_behind insts (Err fault) = Some fault
fault_behind insts (Ok read) = closing (drop read.after insts) read.after

-- from these instructions of the module's level on, the first of them at a place
abbrev pub fault_from : List Inst → List Inst → ℕ → Option TreeFault
fault_from insts [] place = Some (BadBlock place)
fault_from insts (inst ∷ rest) place =
    if inst.op == FUNCTION then fault_behind insts (read_blocks (length insts) insts main None (place + 1))
    else if is_module_level inst.op then fault_from insts rest (place + 1)
    else Some (BadBlock place)

-- the fault of a list, if it has one
unfoldable pub tree_fault : List Inst → Option TreeFault
tree_fault insts = fault_from insts insts 0
