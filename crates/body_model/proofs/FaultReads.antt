-- A fault in what the grammar comes to is the fault of the list.
use Rattle.std.proofs.Common.{◌≡◌, ◌≢◌, ℕ, zero, suc, ◌+◌, ◌≤◌, Bool, false, ◌==◌, if◌then◌else◌, List, [], ◌∷◌, length, drop, Option, None, Some, Result, Ok, Err, refl, ap, ◌∙◌, arith}
use Rattle.std.specs.Prelude.{IsTrue}
use Rattle.std.proofs.lemmas.Bool.{ne_eqb}
use Rattle.spirv_model.specs.declared.module.Inst.{Inst}
use Rattle.body_model.specs.declared.block_end.BlockEnd.TheVariants.{Broken, GoesOn, Selects, Picks, Loops}
use Rattle.body_model.specs.declared.block_end.SelectionHead.{SelectionHead}
use Rattle.body_model.specs.declared.block_end.SwitchHead.{SwitchHead}
use Rattle.body_model.specs.declared.block_end.LoopHead.{LoopHead}
use Rattle.body_model.specs.declared.fault.TreeFault.{TreeFault}
use Rattle.body_model.specs.declared.fault.TreeFault.TheVariants.{BadBlock}
use Rattle.body_model.specs.Scope.{Scope, main, behind_selection, behind_loop, arm, switch_arm, condition, body, continuing}
use Rattle.body_model.specs.Blocks.{block_end}
use Rattle.body_model.specs.Due.{missing, only, IsDue}
use Rattle.body_model.specs.Switches.{is_among, without, labels_of}
use Rattle.body_model.specs.Grammar.{Sequence, Arm, ArmsUpTo}
use Rattle.body_model.specs.Faults.{Reached}
use Rattle.body_model.specs.Faults as faults
use Rattle.body_model.specs.Reading.{Read, Reader, unless, with, read_arm, label_at, read_arms, read_behind, read_blocks, fault_behind, tree_fault}
use Rattle.body_model.proofs.Dues.{missing_past}
use Rattle.body_model.proofs.Forward.{sound_at, forward, arm_forward, arms_forward}
use Rattle.body_model.proofs.WholeReads.{arm_after, opened, next_arm, whole, whole_arm, whole_arms}
use Rattle.body_model.proofs.ModuleLevels.{fault_of_function}

-- reading from a place comes to the fault, however many blocks may be read
abbrev pub Meets : List Inst → Scope → Option ℕ → ℕ → TreeFault → Type 0
Meets insts scope wanted place fault = (n : ℕ) → length insts ≤ place + n → read_blocks n insts scope wanted place ≡ Err fault

arm_by : (read : Reader) (scope : Scope) (merge target place : ℕ) (fault : TreeFault) (same : Bool) → same ≡ false → read (arm scope merge) (Some target) place ≡ Err fault
    → (if same then Ok place else with (read (arm scope merge) (Some target) place) (λ arm. Ok arm.after)) ≡ Err fault
arm_by read scope merge target place fault same isnt meets =
    ap (λ (b : Bool). if b then Ok place else with (read (arm scope merge) (Some target) place) (λ arm. Ok arm.after)) isnt
    ∙ ap (λ (r : Result Read TreeFault). with r (λ arm. Ok arm.after)) meets

arm_meets : (read : Reader) (scope : Scope) (merge target place : ℕ) (fault : TreeFault) → target ≢ merge → read (arm scope merge) (Some target) place ≡ Err fault → read_arm read scope merge target place ≡ Err fault
arm_meets read scope merge target place fault isnt meets = arm_by read scope merge target place fault (target == merge) (ne_eqb target merge isnt) meets

-- ---- behind the head of a selection

abbrev Selection : List Inst → ℕ → Scope → SelectionHead → Result ℕ TreeFault → Result Read TreeFault
Selection insts n scope head first =
    with first (λ second. with (read_arm (read_blocks n insts) scope head.merge head.on_false second) (λ join. read_blocks n insts (behind_selection scope) (Some head.merge) join))

abbrev Behind : List Inst → ℕ → Scope → (merge : ℕ) → Result ℕ TreeFault → Result Read TreeFault
Behind insts n scope merge last = with last (λ join. read_blocks n insts (behind_selection scope) (Some merge) join)

on_true_meets : (insts : List Inst) (scope : Scope) (wanted : Option ℕ) (from : ℕ) (head : SelectionHead) (fault : TreeFault) → IsDue insts wanted from → block_end insts scope from ≡ Selects head
    → head.on_true ≢ head.merge → Meets insts (arm scope head.merge) (Some head.on_true) head.after fault → Meets insts scope wanted from fault
on_true_meets insts scope wanted from head fault here is isnt meets =
    opened insts scope wanted from (Selects head) (Err fault) here is (λ n enough.
    let ahead = (sound_at insts scope from (Selects head) is).0.forward in
    ap (Selection insts n scope head) (arm_meets (read_blocks n insts) scope head.merge head.on_true head.after fault isnt (meets n (omega arith))))

on_false_meets : (insts : List Inst) (scope : Scope) (wanted : Option ℕ) (from second : ℕ) (head : SelectionHead) (fault : TreeFault) → IsDue insts wanted from → block_end insts scope from ≡ Selects head
    → Arm insts scope head.merge head.on_true head.after second → head.on_false ≢ head.merge → Meets insts (arm scope head.merge) (Some head.on_false) second fault → Meets insts scope wanted from fault
on_false_meets insts scope wanted from second head fault here is on_true isnt meets =
    opened insts scope wanted from (Selects head) (Err fault) here is (λ n enough.
    let ahead = (sound_at insts scope from (Selects head) is).0.forward in
    let past_true = arm_forward insts on_true in
    ap (Selection insts n scope head) (whole_arm insts on_true n (omega arith))
    ∙ ap (Behind insts n scope head.merge) (arm_meets (read_blocks n insts) scope head.merge head.on_false second fault isnt (meets n (omega arith))))

selection_meets : (insts : List Inst) (scope : Scope) (wanted : Option ℕ) (from second join : ℕ) (head : SelectionHead) (fault : TreeFault) → IsDue insts wanted from → block_end insts scope from ≡ Selects head
    → Arm insts scope head.merge head.on_true head.after second → Arm insts scope head.merge head.on_false second join → Meets insts (behind_selection scope) (Some head.merge) join fault
    → Meets insts scope wanted from fault
selection_meets insts scope wanted from second join head fault here is on_true on_false meets =
    opened insts scope wanted from (Selects head) (Err fault) here is (λ n enough.
    let ahead = (sound_at insts scope from (Selects head) is).0.forward in
    let past_true = arm_forward insts on_true in
    let past_false = arm_forward insts on_false in
    ap (Selection insts n scope head) (whole_arm insts on_true n (omega arith))
    ∙ ap (Behind insts n scope head.merge) (whole_arm insts on_false n (omega arith))
    ∙ meets n (omega arith))

-- ---- behind the head of an OpSwitch

-- reading the arms that are left comes to the fault
abbrev ArmsMeet : List Inst → Scope → SwitchHead → (left : List ℕ) → ℕ → TreeFault → Type 0
ArmsMeet insts scope head left place fault =
    (n : ℕ) → length insts ≤ place + n → (most : ℕ) → length left ≤ most → read_arms insts (read_blocks n insts) most scope head.merge (labels_of insts head) left place ≡ Err fault

arms_meet : (insts : List Inst) (scope : Scope) (wanted : Option ℕ) (from place : ℕ) (left : List ℕ) (head : SwitchHead) (fault : TreeFault) → IsDue insts wanted from → block_end insts scope from ≡ Picks head
    → ArmsUpTo insts scope head left place → ArmsMeet insts scope head left place fault → Meets insts scope wanted from fault
arms_meet insts scope wanted from place left head fault here is arms meets =
    opened insts scope wanted from (Picks head) (Err fault) here is (λ n enough.
    let ahead = (sound_at insts scope from (Picks head) is).0.forward in
    let past_arms = arms_forward insts arms in
    let rest = whole_arms insts arms n (omega arith) (length (labels_of insts head)) (omega arith) in
    ap (Behind insts n scope head.merge) (rest.comes ∙ meets n (omega arith) rest.most rest.enough))

unless_some : {T : Type 0} (fault : TreeFault) (m : Option TreeFault) (answer : Result T TreeFault) → m ≡ Some fault → unless m answer ≡ Err fault
unless_some fault m answer is = ap (λ (n : Option TreeFault). unless n answer) is

missing_meets : (insts : List Inst) (scope : Scope) (head : SwitchHead) (left : List ℕ) (place : ℕ) (fault : TreeFault) → left ≢ [] → missing insts (Some left) place ≡ Some fault
    → ArmsMeet insts scope head left place fault
missing_meets insts scope head [] place fault some none n enough most few = absurd (some refl)
missing_meets insts scope head (first ∷ left) place fault some none n enough zero few = absurd (omega arith)
missing_meets insts scope head (first ∷ left) place fault some none n enough (suc most) few =
    unless_some fault (missing insts (Some (first ∷ left)) place) (arm_after insts (read_blocks n insts) most scope head.merge (labels_of insts head) (first ∷ left) place (label_at (drop place insts))) none

next_meets : (insts : List Inst) (scope : Scope) (head : SwitchHead) (left : List ℕ) (place label : ℕ) (fault : TreeFault) → IsTrue (is_among label left) → IsDue insts (Some label) place
    → Meets insts (switch_arm scope head.merge (without label (labels_of insts head))) (Some label) place fault → ArmsMeet insts scope head left place fault
next_meets insts scope head [] place label fault among here meets n enough most few = cc
next_meets insts scope head (first ∷ left) place label fault among here meets n enough zero few = absurd (omega arith)
next_meets insts scope head (first ∷ left) place label fault among here meets n enough (suc most) few =
    next_arm insts (read_blocks n insts) most scope head.merge (labels_of insts head) first left place label among here
    ∙ ap (λ (r : Result Read TreeFault). with r (λ arm. read_arms insts (read_blocks n insts) most scope head.merge (labels_of insts head) (without label (first ∷ left)) arm.after)) (meets n enough)

switch_meets : (insts : List Inst) (scope : Scope) (wanted : Option ℕ) (from join : ℕ) (head : SwitchHead) (fault : TreeFault) → IsDue insts wanted from → block_end insts scope from ≡ Picks head
    → ArmsUpTo insts scope head [] join → Meets insts (behind_selection scope) (Some head.merge) join fault → Meets insts scope wanted from fault
switch_meets insts scope wanted from join head fault here is arms meets =
    opened insts scope wanted from (Picks head) (Err fault) here is (λ n enough.
    let ahead = (sound_at insts scope from (Picks head) is).0.forward in
    let past_arms = arms_forward insts arms in
    ap (Behind insts n scope head.merge) (whole_arms insts arms n (omega arith) (length (labels_of insts head)) (omega arith)).comes ∙ meets n (omega arith))

-- ---- behind the head of a loop

abbrev Behind_step : List Inst → ℕ → Scope → LoopHead → Result Read TreeFault → Result Read TreeFault
Behind_step insts n scope head step = with step (λ third. read_blocks n insts (behind_loop scope) (Some head.merge) third.after)

abbrev Behind_body : List Inst → ℕ → Scope → LoopHead → Result Read TreeFault → Result Read TreeFault
Behind_body insts n scope head inner = with inner (λ second. Behind_step insts n scope head (read_blocks n insts (continuing scope head.header) (Some head.next) second.after))

abbrev Behind_test : List Inst → ℕ → Scope → LoopHead → Result Read TreeFault → Result Read TreeFault
Behind_test insts n scope head test = with test (λ first. Behind_body insts n scope head (read_blocks n insts (body scope head.merge head.next) first.next first.after))

test_meets : (insts : List Inst) (scope : Scope) (wanted : Option ℕ) (from : ℕ) (head : LoopHead) (fault : TreeFault) → IsDue insts wanted from → block_end insts scope from ≡ Loops head
    → Meets insts (condition scope head.merge) (Some head.test) head.after fault → Meets insts scope wanted from fault
test_meets insts scope wanted from head fault here is meets =
    opened insts scope wanted from (Loops head) (Err fault) here is (λ n enough.
    let ahead = (sound_at insts scope from (Loops head) is).0.forward in
    ap (Behind_test insts n scope head) (meets n (omega arith)))

body_meets : (insts : List Inst) (scope : Scope) (wanted : Option ℕ) (from first inner : ℕ) (head : LoopHead) (fault : TreeFault) → IsDue insts wanted from → block_end insts scope from ≡ Loops head
    → Sequence insts (condition scope head.merge) (Some head.test) head.after first (Some inner)
    → Meets insts (body scope head.merge head.next) (Some inner) first fault → Meets insts scope wanted from fault
body_meets insts scope wanted from first inner head fault here is tested meets =
    opened insts scope wanted from (Loops head) (Err fault) here is (λ n enough.
    let ahead = (sound_at insts scope from (Loops head) is).0.forward in
    let past_test = (forward insts tested).forward in
    ap (Behind_test insts n scope head) (whole insts tested n (omega arith)) ∙ ap (Behind_body insts n scope head) (meets n (omega arith)))

step_meets : (insts : List Inst) (scope : Scope) (wanted : Option ℕ) (from first second inner : ℕ) (head : LoopHead) (fault : TreeFault) → IsDue insts wanted from → block_end insts scope from ≡ Loops head
    → Sequence insts (condition scope head.merge) (Some head.test) head.after first (Some inner) → Sequence insts (body scope head.merge head.next) (Some inner) first second None
    → Meets insts (continuing scope head.header) (Some head.next) second fault → Meets insts scope wanted from fault
step_meets insts scope wanted from first second inner head fault here is tested inside meets =
    opened insts scope wanted from (Loops head) (Err fault) here is (λ n enough.
    let ahead = (sound_at insts scope from (Loops head) is).0.forward in
    let past_test = (forward insts tested).forward in
    let past_body = (forward insts inside).forward in
    ap (Behind_test insts n scope head) (whole insts tested n (omega arith)) ∙ ap (Behind_body insts n scope head) (whole insts inside n (omega arith))
    ∙ ap (Behind_step insts n scope head) (meets n (omega arith)))

loop_meets : (insts : List Inst) (scope : Scope) (wanted : Option ℕ) (from first second third inner : ℕ) (head : LoopHead) (fault : TreeFault) → IsDue insts wanted from → block_end insts scope from ≡ Loops head
    → Sequence insts (condition scope head.merge) (Some head.test) head.after first (Some inner) → Sequence insts (body scope head.merge head.next) (Some inner) first second None
    → Sequence insts (continuing scope head.header) (Some head.next) second third None
    → Meets insts (behind_loop scope) (Some head.merge) third fault → Meets insts scope wanted from fault
loop_meets insts scope wanted from first second third inner head fault here is tested inside step meets =
    opened insts scope wanted from (Loops head) (Err fault) here is (λ n enough.
    let ahead = (sound_at insts scope from (Loops head) is).0.forward in
    let past_test = (forward insts tested).forward in
    let past_body = (forward insts inside).forward in
    let past_step = (forward insts step).forward in
    ap (Behind_test insts n scope head) (whole insts tested n (omega arith)) ∙ ap (Behind_body insts n scope head) (whole insts inside n (omega arith))
    ∙ ap (Behind_step insts n scope head) (whole insts step n (omega arith)) ∙ meets n (omega arith))

-- ---- from where the grammar comes to

pub fault_found : (insts : List Inst) {scope : Scope} {wanted : Option ℕ} {place : ℕ} (fault : TreeFault) → Reached insts scope wanted place → Meets insts scope wanted place fault → tree_fault insts ≡ Some fault
fault_found insts fault (faults.first_block before begins is) meets =
    fault_of_function insts before begins ∙ ap (λ (n : ℕ). fault_behind insts (read_blocks (length insts) insts main None n)) is
    ∙ ap (fault_behind insts) (meets (length insts) (omega arith))
fault_found insts {place = place} fault (faults.behind_block {scope = scope} {wanted = wanted} {from = from} reached here is) meets =
    fault_found insts fault reached (opened insts scope wanted from (GoesOn place) (Err fault) here is (λ n enough. meets n (omega (arith, (sound_at insts scope from (GoesOn place) is).forward))))
fault_found insts fault (faults.arm_on_true head reached here is isnt) meets = fault_found insts fault reached (on_true_meets insts _ _ _ head fault here is isnt meets)
fault_found insts fault (faults.arm_on_false head reached here is on_true isnt) meets = fault_found insts fault reached (on_false_meets insts _ _ _ _ head fault here is on_true isnt meets)
fault_found insts fault (faults.behind_selection head reached here is on_true on_false) meets = fault_found insts fault reached (selection_meets insts _ _ _ _ _ head fault here is on_true on_false meets)
fault_found insts fault (faults.arm_of_switch {left = left} head label reached here is arms among there) meets =
    fault_found insts fault reached (arms_meet insts _ _ _ _ left head fault here is arms (next_meets insts _ head left _ label fault among there meets))
fault_found insts fault (faults.behind_switch head reached here is arms) meets = fault_found insts fault reached (switch_meets insts _ _ _ _ head fault here is arms meets)
fault_found insts fault (faults.condition head reached here is) meets = fault_found insts fault reached (test_meets insts _ _ _ head fault here is meets)
fault_found insts fault (faults.body head reached here is tested) meets = fault_found insts fault reached (body_meets insts _ _ _ _ _ head fault here is tested meets)
fault_found insts fault (faults.continuing head reached here is tested inside) meets = fault_found insts fault reached (step_meets insts _ _ _ _ _ _ head fault here is tested inside meets)
fault_found insts fault (faults.behind_loop head reached here is tested inside step) meets = fault_found insts fault reached (loop_meets insts _ _ _ _ _ _ _ head fault here is tested inside step meets)

-- ---- the faults of a block that is due

past_fault : (place : ℕ) (fault : TreeFault) (m : Option TreeFault) → m ≡ Some (BadBlock place) → m ≡ Some fault → ◌≡◌ {A = Result Read TreeFault} (Err (BadBlock place)) (Err fault)
past_fault place fault m a b = cc

pub missing_found : (insts : List Inst) (scope : Scope) (wanted : Option ℕ) (place : ℕ) (fault : TreeFault) → Reached insts scope wanted place → missing insts (only wanted) place ≡ Some fault → tree_fault insts ≡ Some fault
missing_found insts scope wanted place fault reached none = fault_found insts fault reached meets
  where
    meets : (n : ℕ) → length insts ≤ place + n → read_blocks n insts scope wanted place ≡ Err fault
    meets zero enough = past_fault place fault (missing insts (only wanted) place) (missing_past insts (only wanted) place (omega arith)) none
    meets (suc n) enough = ap (λ (m : Option TreeFault). unless m (read_behind insts (read_blocks n insts) scope (block_end insts scope place))) none

pub broken_found : (insts : List Inst) (scope : Scope) (wanted : Option ℕ) (place : ℕ) (fault : TreeFault) → Reached insts scope wanted place → IsDue insts wanted place → block_end insts scope place ≡ Broken fault
    → tree_fault insts ≡ Some fault
broken_found insts scope wanted place fault reached here is = fault_found insts fault reached (opened insts scope wanted place (Broken fault) (Err fault) here is (λ n enough. refl))

pub no_arm_found : (insts : List Inst) (scope : Scope) (wanted : Option ℕ) (from place : ℕ) (left : List ℕ) (head : SwitchHead) (fault : TreeFault) → Reached insts scope wanted from → IsDue insts wanted from
    → block_end insts scope from ≡ Picks head → ArmsUpTo insts scope head left place → left ≢ [] → missing insts (Some left) place ≡ Some fault → tree_fault insts ≡ Some fault
no_arm_found insts scope wanted from place left head fault reached here is arms some none =
    fault_found insts fault reached (arms_meet insts scope wanted from place left head fault here is arms (missing_meets insts scope head left place fault some none))
