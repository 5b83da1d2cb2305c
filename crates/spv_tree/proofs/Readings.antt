-- What reading the parts of a construct comes to.
use Rattle.std.proofs.Common.{◌≡◌, ◌≢◌, ℕ, ◌-◌, get_or, length, map, List, [], ◌∷◌, ◌++◌, Option, None, Some, refl, ap, subst, sym, ◌∙◌}
use Rattle.std.specs.Prelude.{slice_get, slice_index}
use Rattle.std.specs.Ordering.{nat_cmp}
use Rattle.std.specs.BTreeMap.{get}
use Rattle.std.proofs.lemmas.Option.{slice_get_read, slice_get_within}
use Rattle.spirv_model.specs.declared.module.Inst.{Inst}
use Rattle.spirv_model.specs.declared.op.TheConstants.{SWITCH}
use Rattle.body_model.specs.declared.block_end.SelectionHead.{SelectionHead}
use Rattle.body_model.specs.declared.block_end.SwitchHead.{SwitchHead}
use Rattle.body_model.specs.declared.block_end.LoopHead.{LoopHead}
use Rattle.body_model.specs.declared.block_end.BlockEnd.TheVariants.{Selects, Picks, Loops}
use Rattle.body_model.specs.declared.fault.TreeFault.{TreeFault}
use Rattle.body_model.specs.Scope.{Scope, arm, switch_arm, condition, body, continuing}
use Rattle.body_model.specs.Switches.{Case, without, arm_labels, cases_of, labels_of, switch_words, words_at}
use Rattle.body_model.specs.Due.{missing}
use Rattle.body_model.specs.Grammar.{Sequence, Arm, through, ArmsUpTo, IsOp}
use Rattle.body_model.specs.Faults.{Reached}
use Rattle.body_model.specs.Faults as faults
use Rattle.body_model.proofs.NextLabels.{no_next, next_known}
use Rattle.std.proofs.lemmas.List.Elements.{All-cons}
use Rattle.spv_tree.specs.declared.barred.OpenArm.{OpenArm}
use Rattle.spv_tree.specs.declared.scope.Scope as code
use Rattle.spv_tree.specs.declared.cases.SwitchCase.{SwitchCase}
use Rattle.spv_tree.specs.declared.sequence.ReadArms.{ReadArms}
use Rattle.spv_tree.specs.declared.tree.PickCase.{PickCase}
use Rattle.spv_tree.specs.declared.tree.Run.{Run}
use Rattle.spv_tree.specs.declared.tree.Node.{Node}
use Rattle.spv_tree.specs.Barred.{with_barred, barred_by, scope_in, labels_beside, as_cases, targets}
use Rattle.spv_tree.specs.Trees.{arm_number, labels_in, numbered, pick, round, run_of, arm_of}
use Rattle.spv_tree.specs.Parts.{AreSwitches, FaultIf, FindsArm, AreArms, IsPick, IsRound, Numbers, ReachedEnd}
use Rattle.spv_tree.proofs.FaultReasons.{reason, reason_for}
use Rattle.spv_tree.proofs.TargetTables.{targets_are}

-- a run is that of a sequence
abbrev pub IsRun : List Inst → Scope → Option ℕ → ℕ → ℕ → Option ℕ → Run → Type 0
IsRun insts scope wanted from to next built = (d : Sequence insts scope wanted from to next) × (built ≡ run_of d)

pub in_scope : (insts : List Inst) (scope other : Scope) (wanted : Option ℕ) (from to : ℕ) (next : Option ℕ) (built : Run) → scope ≡ other
    → IsRun insts scope wanted from to next built → IsRun insts other wanted from to next built
in_scope insts scope other wanted from to next built is read = subst (λ (s : Scope). IsRun insts s wanted from to next built) is read

-- no label is known behind a sequence that is no condition sequence
pub unlabelled : (insts : List Inst) (scope other : Scope) (wanted : Option ℕ) (from to : ℕ) (next : Option ℕ) (built : Run) → scope ≡ other → other.test ≡ None
    → IsRun insts scope wanted from to next built → IsRun insts other wanted from to None built
unlabelled insts scope other wanted from to next built is none read =
    let r = in_scope insts scope other wanted from to next built is read in
    subst (λ (n : Option ℕ). IsRun insts other wanted from to n built) (no_next insts other none r.0) r

-- ---- selections

pub arm_read : (insts : List Inst) (scope inner : Scope) (merge target from to : ℕ) (next : Option ℕ) (built : Run) → (target ≡ merge → ⊥) → inner ≡ arm scope merge
    → IsRun insts inner (Some target) from to next built → (a : Arm insts scope merge target from to) × (Some built ≡ arm_of a)
arm_read insts scope inner merge target from to next built isnt is read =
    let r = unlabelled insts inner (arm scope merge) (Some target) from to next built is refl read in
    (through isnt r.0, ap (λ (b : Run). Some b) r.1)

pub arm_fails : (insts : List Inst) (scope inner : Scope) (merge target from : ℕ) (fault : TreeFault) → (target ≡ merge → ⊥) → inner ≡ arm scope merge
    → FaultIf (Reached insts inner (Some target) from) insts fault → FaultIf ((target ≡ merge → ⊥) → Reached insts (arm scope merge) (Some target) from) insts fault
arm_fails insts scope inner merge target from fault isnt is fails = reason _ _ insts fault (λ reached. subst (λ (s : Scope). Reached insts s (Some target) from) (sym is) (reached isnt)) fails

pub first_arm_fails : (insts : List Inst) (scope : Scope) (head : SelectionHead) (fault : TreeFault)
    → FaultIf ((head.on_true ≡ head.merge → ⊥) → Reached insts (arm scope head.merge) (Some head.on_true) head.after) insts fault → FaultIf (ReachedEnd insts scope (Selects head)) insts fault
first_arm_fails insts scope head fault fails = reason _ _ insts fault (λ r isnt. faults.arm_on_true head r.reached r.here r.is isnt) fails

pub second_arm_fails : (insts : List Inst) (scope : Scope) (head : SelectionHead) (second : ℕ) (fault : TreeFault) → Arm insts scope head.merge head.on_true head.after second
    → FaultIf ((head.on_false ≡ head.merge → ⊥) → Reached insts (arm scope head.merge) (Some head.on_false) second) insts fault → FaultIf (ReachedEnd insts scope (Selects head)) insts fault
second_arm_fails insts scope head second fault first fails = reason _ _ insts fault (λ r isnt. faults.arm_on_false head r.reached r.here r.is first isnt) fails

-- ---- loops

-- the condition sequence of a loop, and the label of the body behind it
record Tested (insts : List Inst) (scope : Scope) (merge test from to : ℕ) (next : Option ℕ) (built : Run) : Type 0 where
  label : ℕ
  known : next ≡ Some label
  read : IsRun insts (condition scope merge) (Some test) from to (Some label) built

tested : (insts : List Inst) (scope inner : Scope) (merge test from to : ℕ) (next : Option ℕ) (built : Run) → inner ≡ condition scope merge
    → IsRun insts inner (Some test) from to next built → Tested insts scope merge test from to next built
tested insts scope inner merge test from to next built is read =
    let r = in_scope insts inner (condition scope merge) (Some test) from to next built is read in
    let known = next_known insts scope merge r.0 in
    record { label = known.0; known = known.1; read = subst (λ (n : Option ℕ). IsRun insts (condition scope merge) (Some test) from to n built) known.1 r }

labelled : (insts : List Inst) (scope inner : Scope) (merge next : ℕ) (wanted : Option ℕ) (label from to : ℕ) (past : Option ℕ) (built : Run) → inner ≡ body scope merge next → wanted ≡ Some label
    → IsRun insts inner wanted from to past built → IsRun insts (body scope merge next) (Some label) from to None built
labelled insts scope inner merge next wanted label from to past built is known read =
    subst (λ (w : Option ℕ). IsRun insts (body scope merge next) w from to None built) known (unlabelled insts inner (body scope merge next) wanted from to past built is refl read)

pub test_fails : (insts : List Inst) (scope of_test : Scope) (head : LoopHead) (fault : TreeFault) → of_test ≡ condition scope head.merge
    → FaultIf (Reached insts of_test (Some head.test) head.after) insts fault → FaultIf (ReachedEnd insts scope (Loops head)) insts fault
test_fails insts scope of_test head fault is fails =
    reason _ _ insts fault (λ r. subst (λ (s : Scope). Reached insts s (Some head.test) head.after) (sym is) (faults.condition head r.reached r.here r.is)) fails

pub body_fails : (insts : List Inst) (scope of_test of_inner : Scope) (head : LoopHead) (first : ℕ) (next : Option ℕ) (test : Run) (fault : TreeFault) → of_test ≡ condition scope head.merge → of_inner ≡ body scope head.merge head.next
    → IsRun insts of_test (Some head.test) head.after first next test → FaultIf (Reached insts of_inner next first) insts fault → FaultIf (ReachedEnd insts scope (Loops head)) insts fault
body_fails insts scope of_test of_inner head first next test fault is_test is_inner read fails =
    let t = tested insts scope of_test head.merge head.test head.after first next test is_test read in
    reason _ _ insts fault
    (λ r. subst (λ (w : Option ℕ). Reached insts of_inner w first) (sym t.known) (subst (λ (s : Scope). Reached insts s (Some t.label) first) (sym is_inner) (faults.body head r.reached r.here r.is t.read.0))) fails

pub step_fails : (insts : List Inst) (scope of_test of_inner of_step : Scope) (head : LoopHead) (first second : ℕ) (next past : Option ℕ) (test inner : Run) (fault : TreeFault)
    → of_test ≡ condition scope head.merge → of_inner ≡ body scope head.merge head.next → of_step ≡ continuing scope head.header
    → IsRun insts of_test (Some head.test) head.after first next test → IsRun insts of_inner next first second past inner
    → FaultIf (Reached insts of_step (Some head.next) second) insts fault → FaultIf (ReachedEnd insts scope (Loops head)) insts fault
step_fails insts scope of_test of_inner of_step head first second next past test inner fault is_test is_inner is_step read_test read_inner fails =
    let t = tested insts scope of_test head.merge head.test head.after first next test is_test read_test in
    let b = labelled insts scope of_inner head.merge head.next next t.label first second past inner is_inner t.known read_inner in
    reason _ _ insts fault (λ r. subst (λ (s : Scope). Reached insts s (Some head.next) second) (sym is_step) (faults.continuing head r.reached r.here r.is t.read.0 b.0)) fails

pub round_read : (insts : List Inst) (scope of_test of_inner of_step : Scope) (head : LoopHead) (first second to : ℕ) (next past last : Option ℕ) (test inner step : Run) (built : Node)
    → of_test ≡ condition scope head.merge → of_inner ≡ body scope head.merge head.next → of_step ≡ continuing scope head.header
    → IsRun insts of_test (Some head.test) head.after first next test → IsRun insts of_inner next first second past inner → IsRun insts of_step (Some head.next) second to last step
    → built ≡ round head.header head.merge head.next test inner step → IsRound insts scope head to built
round_read insts scope of_test of_inner of_step head first second to next past last test inner step built is_test is_inner is_step read_test read_inner read_step is =
    let t = tested insts scope of_test head.merge head.test head.after first next test is_test read_test in
    let b = labelled insts scope of_inner head.merge head.next next t.label first second past inner is_inner t.known read_inner in
    let s = unlabelled insts of_step (continuing scope head.header) (Some head.next) second to last step is_step refl read_step in
    record {
      inner = t.label;
      first = first;
      second = second;
      tested = t.read.0;
      inside = b.0;
      step = s.0;
      node_is = is ∙ ap (λ (r : Run). round head.header head.merge head.next r inner step) t.read.1 ∙ ap (λ (r : Run). round head.header head.merge head.next (run_of t.read.0) r step) b.1
          ∙ ap (λ (r : Run). round head.header head.merge head.next (run_of t.read.0) (run_of b.0) r) s.1;
    }

-- ---- OpSwitches

-- an arm of an OpSwitch
abbrev pub own_arm : SwitchHead → ℕ → OpenArm
own_arm head label = record { place = head.after - 1; merge = head.merge; label = label }

pub scope_of_arm : (insts : List Inst) (arms all : List OpenArm) (head : SwitchHead) (label : ℕ) (scope inner : code.Scope) → all ≡ own_arm head label ∷ arms
    → ((others barred : List ℕ) → with_barred inner (others ++ barred) ≡ switch_arm (with_barred scope barred) head.merge others)
    → scope_in insts all inner ≡ switch_arm (scope_in insts arms scope) head.merge (without label (labels_of insts head))
unfolding labels_of switch_words
scope_of_arm insts arms all head label scope inner is of_scope =
    ap (λ (l : List OpenArm). scope_in insts l inner) is ∙ of_scope (without label (labels_beside insts (own_arm head label))) (barred_by insts arms)

pub more_switches : (insts : List Inst) (arms all : List OpenArm) (head : SwitchHead) (label : ℕ) → all ≡ own_arm head label ∷ arms → IsOp SWITCH (slice_get insts (head.after - 1)) → AreSwitches insts arms → AreSwitches insts all
more_switches insts arms all head label is last are = subst (AreSwitches insts) (sym is) (All-cons (λ (arm : OpenArm). IsOp SWITCH (slice_get insts arm.place)) (own_arm head label) arms last are)

pub switch_arm_fails : (insts : List Inst) (scope : Scope) (head : SwitchHead) (left : List ℕ) (place label : ℕ) (fault : TreeFault) → ArmsUpTo insts scope head left place → FindsArm insts left place label
    → FaultIf (Reached insts (switch_arm scope head.merge (without label (labels_of insts head))) (Some label) place) insts fault → FaultIf (ReachedEnd insts scope (Picks head)) insts fault
switch_arm_fails insts scope head left place label fault arms found fails =
    reason _ _ insts fault (λ r. faults.arm_of_switch head label r.reached r.here r.is arms found.among found.here) fails

pub no_arm_fails : (insts : List Inst) (scope : Scope) (head : SwitchHead) (left : List ℕ) (place : ℕ) (fault : TreeFault) → ArmsUpTo insts scope head left place → left ≢ []
    → missing insts (Some left) place ≡ Some fault → FaultIf (ReachedEnd insts scope (Picks head)) insts fault
no_arm_fails insts scope head left place fault arms some is = reason_for _ insts fault (λ r. faults.no_arm head r.reached r.here r.is arms some is)

-- the OpSwitch that ends a block
switch_at : (insts : List Inst) (place : ℕ) (inst : Inst) (found : Option Inst) → slice_get insts place ≡ found → IsOp SWITCH found → inst ≡ get_or insts place inst → slice_get insts place ≡ Some inst
switch_at insts place inst None is none same = absurd none
switch_at insts place inst (Some other) is some same = slice_get_read insts (length insts) place inst refl (slice_get_within insts place other is) same

pub words_are : (insts : List Inst) (head : SwitchHead) (inst : Inst) → IsOp SWITCH (slice_get insts (head.after - 1)) → inst ≡ get_or insts (head.after - 1) inst → switch_words insts head ≡ inst.words
unfolding switch_words
words_are insts head inst last same = ap words_at (switch_at insts (head.after - 1) inst (slice_get insts (head.after - 1)) refl last same)

pub labels_are : (insts : List Inst) (head : SwitchHead) (inst : Inst) (first : ℕ) (cases : List SwitchCase) → switch_words insts head ≡ inst.words → first ≡ slice_index inst.words 1 → as_cases cases ≡ cases_of inst.words
    → without head.merge (first ∷ targets cases) ≡ labels_of insts head
unfolding labels_of
labels_are insts head inst first cases words_is first_is cases_is =
    ap (λ (n : ℕ). without head.merge (n ∷ targets cases)) first_is
    ∙ ap (λ (l : List ℕ). without head.merge (slice_index inst.words 1 ∷ l)) (sym (targets_are cases) ∙ ap (map (λ (case : Case). case.target)) cases_is)
    ∙ ap (arm_labels head.merge) (sym words_is)

-- its node
pub pick_read : (insts : List Inst) (scope : Scope) (head : SwitchHead) (read : ReadArms) (inst : Inst) (literals : List SwitchCase) (cases : List PickCase) (default : Option ℕ) (built : Node)
    → AreArms insts scope head read → switch_words insts head ≡ inst.words → as_cases literals ≡ cases_of inst.words
    → ((labels : List ℕ) → Numbers read.numbers labels → cases ≡ numbered (as_cases literals) labels) → default ≡ get nat_cmp read.numbers head.default
    → built ≡ pick head.selector head.merge cases default read.runs → IsPick insts scope head read.place built
pick_read insts scope head read inst literals cases default built are words_is literals_are cases_are default_is is =
    let labels = labels_in are.arms in
    record {
      arms = are.arms;
      node_is = is
          ∙ ap (λ (l : List PickCase). pick head.selector head.merge l default read.runs) (cases_are labels are.numbers_are ∙ ap (λ (l : List Case). numbered l labels) (literals_are ∙ ap cases_of (sym words_is)))
          ∙ ap (λ (n : Option ℕ). pick head.selector head.merge (numbered (cases_of (switch_words insts head)) labels) n read.runs) (default_is ∙ are.numbers_are head.default)
          ∙ ap (pick head.selector head.merge (numbered (cases_of (switch_words insts head)) labels) (arm_number labels head.default)) are.runs_are;
    }
