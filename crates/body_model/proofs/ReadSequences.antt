-- What reading gives is so: a sequence that stands, or a fault where the grammar comes to its start.
use Rattle.std.proofs.Common.{◌≡◌, ◌≢◌, ℕ, zero, suc, ◌+◌, ◌<◌, ◌≤◌, Bool, true, false, ◌==◌, if◌then◌else◌, List, [], ◌∷◌, length, drop, Option, None, Some, Result, Ok, refl, arith}
use Rattle.std.proofs.lemmas.Bool.{eqb-true, eqb-false}
use Rattle.spirv_model.specs.declared.module.Inst.{Inst}
use Rattle.body_model.specs.declared.block_end.BlockEnd.{BlockEnd}
use Rattle.body_model.specs.declared.block_end.BlockEnd.TheVariants.{Broken, Ends, GoesOn, Selects, Picks, Loops}
use Rattle.body_model.specs.declared.block_end.SelectionHead.{SelectionHead}
use Rattle.body_model.specs.declared.block_end.SwitchHead.{SwitchHead}
use Rattle.body_model.specs.declared.block_end.LoopHead.{LoopHead}
use Rattle.body_model.specs.declared.fault.TreeFault.{TreeFault}
use Rattle.body_model.specs.declared.fault.TreeFault.TheVariants.{BadBlock}
use Rattle.body_model.specs.Scope.{Scope, behind_block, behind_selection, behind_loop, arm, switch_arm, condition, body, continuing}
use Rattle.body_model.specs.Blocks.{block_end}
use Rattle.body_model.specs.Due.{missing, only, IsDue}
use Rattle.body_model.specs.Switches.{without, labels_of}
use Rattle.body_model.specs.Grammar.{Sequence, Arm, Arms, ArmsUpTo}
use Rattle.body_model.specs.Grammar as grammar
use Rattle.body_model.specs.Faults.{Reached, HasFault}
use Rattle.body_model.specs.Faults as faults
use Rattle.body_model.specs.Reading.{Read, Reader, unless, with, read_arm, label_at, read_arms, read_selection, read_switch, read_loop, read_behind, read_blocks}
use Rattle.body_model.proofs.Dues.{missing_past, due_one}
use Rattle.body_model.proofs.Forward.{sound_at, forward, arm_forward, arms_forward}
use Rattle.body_model.proofs.NextLabels.{IsKnown, next_known, unlabelled}
use Rattle.body_model.proofs.Shorter.{shorter}
use Rattle.body_model.proofs.Tells.{Tells, tells_value, tells_fault, tells_with, tells_more}

abbrev pub Stands : List Inst → Scope → Option ℕ → ℕ → Read → Type 0
Stands insts scope wanted place read = Sequence insts scope wanted place read.after read.next

abbrev pub Fails : List Inst → Scope → Option ℕ → ℕ → TreeFault → Type 0
Fails insts scope wanted place fault = Reached insts scope wanted place → HasFault insts fault

abbrev pub IsRead : List Inst → Scope → Option ℕ → ℕ → Result Read TreeFault → Type 0
IsRead insts scope wanted place answer = Tells (Stands insts scope wanted place) (Fails insts scope wanted place) answer

-- what is read behind a place is so
pub record Reads (insts : List Inst) (from : ℕ) (read : Reader) : Type 0 where
  pub at : (scope : Scope) (wanted : Option ℕ) (place : ℕ) → from < place → IsRead insts scope wanted place (read scope wanted place)

-- ---- one way of a selection

abbrev ArmFails : List Inst → Scope → ℕ → ℕ → ℕ → TreeFault → Type 0
ArmFails insts scope merge target place fault = (target ≢ merge → Reached insts (arm scope merge) (Some target) place) → HasFault insts fault

arm_by : (insts : List Inst) (read : Reader) (scope : Scope) (from merge target place : ℕ) (same : Bool) → target == merge ≡ same → from < place → Reads insts from read
    → Tells (Arm insts scope merge target place) (ArmFails insts scope merge target place) (if same then Ok place else with (read (arm scope merge) (Some target) place) (λ arm. Ok arm.after))
arm_by insts read scope from merge target place true is ahead reads =
    tells_value (Arm insts scope merge target place) (ArmFails insts scope merge target place) place (grammar.straight (eqb-true target merge is) refl)
arm_by insts read scope from merge target place false is ahead reads =
    tells_with (Stands insts (arm scope merge) (Some target) place) (Fails insts (arm scope merge) (Some target) place) (Arm insts scope merge target place) (ArmFails insts scope merge target place)
    (read (arm scope merge) (Some target) place) (λ arm. Ok arm.after) (reads.at (arm scope merge) (Some target) place ahead)
    (λ fault fails reached. fails (reached (eqb-false target merge is)))
    (λ there sequence. tells_value (Arm insts scope merge target place) (ArmFails insts scope merge target place) there.after
    (grammar.through (eqb-false target merge is) (unlabelled insts (arm scope merge) refl sequence)))

arm_read : (insts : List Inst) (read : Reader) (scope : Scope) (from merge target place : ℕ) → from < place → Reads insts from read
    → Tells (Arm insts scope merge target place) (ArmFails insts scope merge target place) (read_arm read scope merge target place)
arm_read insts read scope from merge target place ahead reads = arm_by insts read scope from merge target place (target == merge) refl ahead reads

selection_read : (insts : List Inst) (read : Reader) (scope : Scope) (wanted : Option ℕ) (from : ℕ) (head : SelectionHead) → Reads insts from read → IsDue insts wanted from → block_end insts scope from ≡ Selects head
    → from < head.after → IsRead insts scope wanted from (read_selection read scope head)
selection_read insts read scope wanted from head reads here is ahead =
    tells_with (Arm insts scope head.merge head.on_true head.after) (ArmFails insts scope head.merge head.on_true head.after) (Stands insts scope wanted from) (Fails insts scope wanted from)
    (read_arm read scope head.merge head.on_true head.after) _ (arm_read insts read scope from head.merge head.on_true head.after ahead reads)
    (λ fault fails reached. fails (λ isnt. faults.arm_on_true head reached here is isnt))
    (λ second on_true. let further : from < second = omega (arith, arm_forward insts on_true) in
    tells_with (Arm insts scope head.merge head.on_false second) (ArmFails insts scope head.merge head.on_false second) (Stands insts scope wanted from) (Fails insts scope wanted from)
    (read_arm read scope head.merge head.on_false second) _ (arm_read insts read scope from head.merge head.on_false second further reads)
    (λ fault fails reached. fails (λ isnt. faults.arm_on_false head reached here is on_true isnt))
    (λ join on_false.
    tells_more (Stands insts (behind_selection scope) (Some head.merge) join) (Stands insts scope wanted from) (Fails insts (behind_selection scope) (Some head.merge) join) (Fails insts scope wanted from) _
    (reads.at (behind_selection scope) (Some head.merge) join (omega (arith, arm_forward insts on_false)))
    (λ there rest. grammar.selects head second join here is on_true on_false rest)
    (λ fault fails reached. fails (faults.behind_selection head reached here is on_true on_false))))

-- ---- the arms of an OpSwitch

unless_missing : (insts : List Inst) {T : Type 0} (wanted : Option (List ℕ)) (place : ℕ) (Good : T → Type 0) (Bad : TreeFault → Type 0) (answer : Result T TreeFault) (m : Option TreeFault)
    → missing insts wanted place ≡ m → ((fault : TreeFault) → missing insts wanted place ≡ Some fault → Bad fault) → (missing insts wanted place ≡ None → Tells Good Bad answer) → Tells Good Bad (unless m answer)
unless_missing insts wanted place Good Bad answer (Some fault) is fails there = tells_fault Good Bad fault (fails fault is)
unless_missing insts wanted place Good Bad answer None is fails there = there is

-- the head of an OpSwitch that is due
record Head (insts : List Inst) (scope : Scope) (wanted : Option ℕ) (from : ℕ) (head : SwitchHead) : Type 0 where
  here : IsDue insts wanted from
  is : block_end insts scope from ≡ Picks head
  ahead : from < head.after

arms_read : (insts : List Inst) (read : Reader) (scope : Scope) (wanted : Option ℕ) (from : ℕ) (head : SwitchHead) → Reads insts from read → Head insts scope wanted from head
    → (n : ℕ) (due : List ℕ) (place : ℕ) → length due ≤ n → ArmsUpTo insts scope head due place
    → Tells (ArmsUpTo insts scope head []) (Fails insts scope wanted from) (read_arms insts read n scope head.merge (labels_of insts head) due place)
arms_read insts read scope wanted from head reads there n [] place few arms = tells_value (ArmsUpTo insts scope head []) (Fails insts scope wanted from) place arms
arms_read insts read scope wanted from head reads there zero (first ∷ due) place few arms = absurd (omega arith)
arms_read insts read scope wanted from head reads there (suc n) (first ∷ due) place few arms =
    let label = label_at (drop place insts) in
    let inside = switch_arm scope head.merge (without label (labels_of insts head)) in
    unless_missing insts (Some (first ∷ due)) place (ArmsUpTo insts scope head []) (Fails insts scope wanted from) _ (missing insts (Some (first ∷ due)) place) refl
    (λ fault none reached. faults.no_arm head reached there.here there.is arms (λ same. cc) none)
    (λ some. let one = due_one insts (first ∷ due) place some in
    tells_with (Stands insts inside (Some label) place) (Fails insts inside (Some label) place) (ArmsUpTo insts scope head []) (Fails insts scope wanted from)
    (read inside (Some label) place) _ (reads.at inside (Some label) place (omega (arith, there.ahead, arms_forward insts arms)))
    (λ fault fails reached. fails (faults.arm_of_switch head label reached there.here there.is arms one.0 one.1))
    (λ found sequence. arms_read insts read scope wanted from head reads there n (without label (first ∷ due)) found.after (omega (arith, shorter label (first ∷ due) one.0))
    (grammar.arm_behind label place (first ∷ due) arms one.0 refl (unlabelled insts inside refl sequence))))

switch_read : (insts : List Inst) (read : Reader) (scope : Scope) (wanted : Option ℕ) (from : ℕ) (head : SwitchHead) → Reads insts from read → Head insts scope wanted from head
    → IsRead insts scope wanted from (read_switch insts read scope head)
switch_read insts read scope wanted from head reads there =
    tells_with (ArmsUpTo insts scope head []) (Fails insts scope wanted from) (Stands insts scope wanted from) (Fails insts scope wanted from)
    (read_arms insts read (length (labels_of insts head)) scope head.merge (labels_of insts head) (labels_of insts head) head.after) _
    (arms_read insts read scope wanted from head reads there (length (labels_of insts head)) (labels_of insts head) head.after (omega arith) (grammar.no_arm refl refl))
    (λ fault fails. fails)
    (λ join arms.
    tells_more (Stands insts (behind_selection scope) (Some head.merge) join) (Stands insts scope wanted from) (Fails insts (behind_selection scope) (Some head.merge) join) (Fails insts scope wanted from) _
    (reads.at (behind_selection scope) (Some head.merge) join (omega (arith, there.ahead, arms_forward insts arms)))
    (λ found rest. grammar.picks head join there.here there.is arms rest)
    (λ fault fails reached. fails (faults.behind_switch head reached there.here there.is arms)))

-- ---- a loop

abbrev Inside : List Inst → Scope → LoopHead → ℕ → Read → Type 0
Inside insts scope head first read = (inner : ℕ) × Sequence insts (body scope head.merge head.next) (Some inner) first read.after None × Sequence insts (condition scope head.merge) (Some head.test) head.after first (Some inner)

body_read : (insts : List Inst) (read : Reader) (scope : Scope) (wanted : Option ℕ) (from : ℕ) (head : LoopHead) (first : ℕ) (next : Option ℕ) → Reads insts from read → IsDue insts wanted from
    → block_end insts scope from ≡ Loops head → from < first → Sequence insts (condition scope head.merge) (Some head.test) head.after first next → IsKnown next
    → Tells (Inside insts scope head first) (Fails insts scope wanted from) (read (body scope head.merge head.next) next first)
body_read insts read scope wanted from head first None reads here is ahead tested known = (let never = known.1 in cc)
body_read insts read scope wanted from head first (Some inner) reads here is ahead tested known =
    tells_more (Stands insts (body scope head.merge head.next) (Some inner) first) (Inside insts scope head first) (Fails insts (body scope head.merge head.next) (Some inner) first) (Fails insts scope wanted from) _
    (reads.at (body scope head.merge head.next) (Some inner) first ahead)
    (λ there sequence. (inner, unlabelled insts (body scope head.merge head.next) refl sequence, tested))
    (λ fault fails reached. fails (faults.body head reached here is tested))

loop_read : (insts : List Inst) (read : Reader) (scope : Scope) (wanted : Option ℕ) (from : ℕ) (head : LoopHead) → Reads insts from read → IsDue insts wanted from → block_end insts scope from ≡ Loops head
    → from < head.after → IsRead insts scope wanted from (read_loop read scope head)
loop_read insts read scope wanted from head reads here is ahead =
    tells_with (Stands insts (condition scope head.merge) (Some head.test) head.after) (Fails insts (condition scope head.merge) (Some head.test) head.after) (Stands insts scope wanted from) (Fails insts scope wanted from)
    (read (condition scope head.merge) (Some head.test) head.after) _ (reads.at (condition scope head.merge) (Some head.test) head.after ahead)
    (λ fault fails reached. fails (faults.condition head reached here is))
    (λ first tested. let past_test : from < first.after = omega (arith, (forward insts tested).forward) in
    tells_with (Inside insts scope head first.after) (Fails insts scope wanted from) (Stands insts scope wanted from) (Fails insts scope wanted from)
    (read (body scope head.merge head.next) first.next first.after) _ (body_read insts read scope wanted from head first.after first.next reads here is past_test tested (next_known insts scope head.merge tested))
    (λ fault fails. fails)
    (λ second inside. let past_body : from < second.after = omega (arith, (forward insts inside.1).forward) in
    tells_with (Stands insts (continuing scope head.header) (Some head.next) second.after) (Fails insts (continuing scope head.header) (Some head.next) second.after) (Stands insts scope wanted from) (Fails insts scope wanted from)
    (read (continuing scope head.header) (Some head.next) second.after) _ (reads.at (continuing scope head.header) (Some head.next) second.after past_body)
    (λ fault fails reached. fails (faults.continuing head reached here is inside.2 inside.1))
    (λ third step. let whole = unlabelled insts (continuing scope head.header) refl step in
    tells_more (Stands insts (behind_loop scope) (Some head.merge) third.after) (Stands insts scope wanted from) (Fails insts (behind_loop scope) (Some head.merge) third.after) (Fails insts scope wanted from) _
    (reads.at (behind_loop scope) (Some head.merge) third.after (omega (arith, (forward insts step).forward)))
    (λ there rest. grammar.loops head inside.0 first.after second.after third.after here is inside.2 inside.1 whole rest)
    (λ fault fails reached. fails (faults.behind_loop head reached here is inside.2 inside.1 whole)))))

-- ---- a sequence

behind_read : (insts : List Inst) (read : Reader) (scope : Scope) (wanted : Option ℕ) (from : ℕ) (end : BlockEnd) → Reads insts from read → IsDue insts wanted from → block_end insts scope from ≡ end
    → IsRead insts scope wanted from (read_behind insts read scope end)
behind_read insts read scope wanted from (Broken fault) reads here is =
    tells_fault (Stands insts scope wanted from) (Fails insts scope wanted from) fault (λ reached. faults.broken_block reached here is)
behind_read insts read scope wanted from (Ends last) reads here is =
    tells_value (Stands insts scope wanted from) (Fails insts scope wanted from) (record { after = last.after; next = last.next }) (grammar.ends last here is refl refl)
behind_read insts read scope wanted from (GoesOn after) reads here is =
    tells_more (Stands insts (behind_block scope) None after) (Stands insts scope wanted from) (Fails insts (behind_block scope) None after) (Fails insts scope wanted from) _
    (reads.at (behind_block scope) None after (sound_at insts scope from (GoesOn after) is).forward)
    (λ there rest. grammar.goes_on after here is rest)
    (λ fault fails reached. fails (faults.behind_block reached here is))
behind_read insts read scope wanted from (Selects head) reads here is = selection_read insts read scope wanted from head reads here is (sound_at insts scope from (Selects head) is).0.forward
behind_read insts read scope wanted from (Picks head) reads here is =
    switch_read insts read scope wanted from head reads (record { here = here; is = is; ahead = (sound_at insts scope from (Picks head) is).0.forward })
behind_read insts read scope wanted from (Loops head) reads here is = loop_read insts read scope wanted from head reads here is (sound_at insts scope from (Loops head) is).0.forward

-- the fuel is enough: each block takes a place
pub reads_blocks : (n : ℕ) (insts : List Inst) (scope : Scope) (wanted : Option ℕ) (place : ℕ) → length insts ≤ place + n → IsRead insts scope wanted place (read_blocks n insts scope wanted place)
reads_blocks zero insts scope wanted place enough =
    tells_fault (Stands insts scope wanted place) (Fails insts scope wanted place) (BadBlock place) (λ reached. faults.no_block reached (missing_past insts (only wanted) place (omega arith)))
reads_blocks (suc n) insts scope wanted place enough =
    unless_missing insts (only wanted) place (Stands insts scope wanted place) (Fails insts scope wanted place) _ (missing insts (only wanted) place) refl
    (λ fault none reached. faults.no_block reached none)
    (λ here. behind_read insts (read_blocks n insts) scope wanted place (block_end insts scope place) (record { at = λ inside label further ahead. reads_blocks n insts inside label further (omega arith) }) here refl)
