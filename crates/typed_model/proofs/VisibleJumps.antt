-- Each label that a terminator names stands in the function, and what is visible there is visible at the terminator.
use Rattle.std.proofs.Common.{◌≡◌, ℕ, zero, suc, ◌+◌, ◌-◌, ◌<◌, ◌≤◌, ◌==◌, ◌⊎◌, inl, inr, Bool, true, false, List, [], ◌∷◌, ◌++◌, length, refl, ap, sym, ◌∙◌, subst, arith, Option, None, Some}
use Rattle.std.specs.Prelude.{slice_get}
use Rattle.std.proofs.lemmas.Bool.{cases_lt}
use Rattle.spirv_model.specs.declared.module.Inst.{Inst}
use Rattle.body_model.specs.declared.block_end.BlockEnd.{BlockEnd}
use Rattle.body_model.specs.declared.block_end.BlockEnd.TheVariants as way
use Rattle.body_model.specs.Classes.{is_terminator}
use Rattle.body_model.specs.Scope.{Scope}
use Rattle.body_model.specs.Due.{IsDue}
use Rattle.body_model.specs.Switches.{is_among, without}
use Rattle.body_model.specs.Targets.{targets, MayLeaveTo}
use Rattle.body_model.specs.Grammar.{Sequence, ends, goes_on, selects, picks, loops, Arm, straight, through, Arms, no_arm, arm_behind}
use Rattle.body_model.proofs.Shapes.{AreStraight, after_of}
use Rattle.body_model.proofs.Slices.{slice_get-drop}
use Rattle.body_model.proofs.Forward.{forward, arm_forward, arms_forward}
use Rattle.check_model.specs.Intervals.{Interval, around, inside, of_arm, of_arms}
use Rattle.stage_model.proofs.Jumps.{same_label}
use Rattle.stage_model.proofs.WholeBlocks.{BlockAt, block_at}
use Rattle.stage_model.proofs.Exits.{arm_exit, switch_exit, condition_exit, body_exit, continue_exit}
use Rattle.stage_model.proofs.CodeRuns.{due_of, one_name, other_name, due_as, stands_as, own_label, at_behind, among_arms, not_before}
use Rattle.typed_model.specs.Jumps.{Lands}
use Rattle.typed_model.proofs.Keeping.{LieIn, wider, lie_both, lie_around, Covers, covers_none, covers_front, covers_behind, covers_more, covers_around, over, beside, behind, within}

-- ---- where the intervals lie

two_lie : (from middle to : ℕ) (is js : List Interval) → from ≤ middle → middle ≤ to → LieIn from middle is → LieIn middle to js → LieIn from to (is ++ js)
two_lie from middle to is js low high lie also = lie_both from to is js (wider from middle from to is (omega arith) high lie) (wider middle to from to js low (omega arith) also)

three_lie : (from second third to : ℕ) (is js ks : List Interval) → from ≤ second → second ≤ third → third ≤ to → LieIn from second is → LieIn second third js → LieIn third to ks → LieIn from to (is ++ (js ++ ks))
three_lie from second third to is js ks p q r lie also more = two_lie from second to is (js ++ ks) p (omega (arith, q, r)) lie (two_lie second third to js ks q r also more)

four_lie : (from first second third to : ℕ) (hs is js ks : List Interval) → from ≤ first → first ≤ second → second ≤ third → third ≤ to → LieIn from first hs → LieIn first second is → LieIn second third js → LieIn third to ks → LieIn from to (hs ++ (is ++ (js ++ ks)))
four_lie from first second third to hs is js ks p q r u a b c d = two_lie from first to hs (is ++ (js ++ ks)) p (omega (arith, q, r, u)) a (three_lie first second third to is js ks q r u b c d)

mutual
  pub lies : (insts : List Inst) {scope : Scope} {wanted next : Option ℕ} {from to : ℕ} → (s : Sequence insts scope wanted from to next) → LieIn from to (inside s)
  lies insts (ends last here is label_is place_is) = tt
  lies insts {scope = scope} {wanted = wanted} {from = from} {to = to} (goes_on after here is rest) =
      let b = block_at insts scope wanted from (way.GoesOn after) here is tt in
      wider after to from to (inside rest) (omega (arith, b.after)) (omega arith) (lies insts rest)
  lies insts {scope = scope} {wanted = wanted} {from = from} {to = to} (selects head second join here is on_true on_false rest) =
      let b = block_at insts scope wanted from (way.Selects head) here is tt in
      let p = arm_forward insts on_true in let q = arm_forward insts on_false in let r = forward insts rest in
      wider head.after to from to (of_arm on_true ++ (of_arm on_false ++ inside rest)) (omega (arith, b.after)) (omega arith)
      (three_lie head.after second join to (of_arm on_true) (of_arm on_false) (inside rest) p q (omega (arith, r.forward)) (arm_lies insts on_true) (arm_lies insts on_false) (lies insts rest))
  lies insts {scope = scope} {wanted = wanted} {from = from} {to = to} (picks head join here is arms rest) =
      let b = block_at insts scope wanted from (way.Picks head) here is tt in
      let p = arms_forward insts arms in let r = forward insts rest in
      wider head.after to from to (of_arms arms ++ inside rest) (omega (arith, b.after)) (omega arith)
      (two_lie head.after join to (of_arms arms) (inside rest) p (omega (arith, r.forward)) (arms_lie insts arms) (lies insts rest))
  lies insts {scope = scope} {wanted = wanted} {from = from} {to = to} (loops head inner first second third here is condition body step rest) =
      let b = block_at insts scope wanted from (way.Loops head) here is tt in
      let p = forward insts condition in let q = forward insts body in let r = forward insts step in let u = forward insts rest in
      wider head.after to from to (around head.after first (inside condition) ++ (around first second (inside body) ++ (around second third (inside step) ++ inside rest))) (omega (arith, b.after)) (omega arith)
      (four_lie head.after first second third to (around head.after first (inside condition)) (around first second (inside body)) (around second third (inside step)) (inside rest)
      (omega (arith, p.forward)) (omega (arith, q.forward)) (omega (arith, r.forward)) (omega (arith, u.forward))
      (lie_around head.after first (inside condition) (lies insts condition)) (lie_around first second (inside body) (lies insts body)) (lie_around second third (inside step) (lies insts step)) (lies insts rest))

  pub arm_lies : (insts : List Inst) {scope : Scope} {merge target from to : ℕ} → (a : Arm insts scope merge target from to) → LieIn from to (of_arm a)
  arm_lies insts (straight is none) = tt
  arm_lies insts {from = from} {to = to} (through isnt sequence) = lie_around from to (inside sequence) (lies insts sequence)

  pub arms_lie : (insts : List Inst) {scope : Scope} {merge : ℕ} {all due left : List ℕ} {from to : ℕ} → (a : Arms insts scope merge all due from left to) → LieIn from to (of_arms a)
  arms_lie insts (no_arm is none) = tt
  arms_lie insts {from = from} {to = to} (arm_behind label between before arms among left sequence) =
      let p = arms_forward insts arms in let q = forward insts sequence in
      two_lie from between to (of_arms arms) (around between to (inside sequence)) p (omega (arith, q.forward)) (arms_lie insts arms) (lie_around between to (inside sequence) (lies insts sequence))

-- ---- what arms cover

arm_covers : (insts : List Inst) {scope : Scope} {merge target from to : ℕ} → (a : Arm insts scope merge target from to) → Covers (of_arm a) from to
arm_covers insts {from = from} {to = to} (straight is none) = covers_none [] from to (omega (arith, none))
arm_covers insts {from = from} {to = to} (through isnt sequence) = covers_around from to (inside sequence)

arms_cover : (insts : List Inst) {scope : Scope} {merge : ℕ} {all due left : List ℕ} {from to : ℕ} → (a : Arms insts scope merge all due from left to) → Covers (of_arms a) from to
arms_cover insts {from = from} {to = to} (no_arm is none) = covers_none [] from to (omega (arith, none))
arms_cover insts {from = from} {to = to} (arm_behind label between before arms among left sequence) =
    let q = forward insts sequence in
    covers_more (of_arms arms ++ around between to (inside sequence)) from between to (omega (arith, q.forward))
    (covers_front (of_arms arms) (around between to (inside sequence)) from between (arms_cover insts arms))
    (covers_behind (of_arms arms) (around between to (inside sequence)) between to (covers_around between to (inside sequence)))

-- ---- the terminator of a block

-- a terminator among these instructions is the one at their end
straight_last : (front : List Inst) (last : Inst) (more : List Inst) (index : ℕ) (inst : Inst) → AreStraight front → slice_get (front ++ last ∷ more) index ≡ Some inst → index < length front + 1 → is_terminator inst.op ≡ true
    → (index ≡ length front) × (last ≡ inst)
straight_last [] last more zero inst plain at less is = (refl, cc)
straight_last [] last more (suc index) inst plain at less is = absurd (omega arith)
straight_last (first ∷ front) last more zero inst plain at less is =
    let e : first ≡ inst = cc in
    let f : is_terminator first.op ≡ true = ap (λ (i : Inst). is_terminator i.op) e ∙ is in
    let g = plain.0 in cc
straight_last (first ∷ front) last more (suc index) inst plain at less is =
    let r = straight_last front last more index inst plain.1 at (omega (arith, less)) is in (ap (λ (n : ℕ). suc n) r.0, r.1)

pub block_last : (insts : List Inst) (scope : Scope) (from : ℕ) (end : BlockEnd) (b : BlockAt insts scope from end) (place : ℕ) (inst : Inst) → from ≤ place → place < after_of end → slice_get insts place ≡ Some inst → is_terminator inst.op ≡ true
    → (place + 1 ≡ after_of end) × (b.last ≡ inst)
block_last insts scope from end b place inst low high at is =
    let e : from + (place - from) ≡ place = omega arith in
    let found : slice_get (b.front ++ b.last ∷ b.behind) (place - from) ≡ Some inst =
    ap (λ (l : List Inst). slice_get l (place - from)) (sym b.here) ∙ (slice_get-drop from (place - from) insts ∙ (ap (slice_get insts) e ∙ at)) in
    let r = straight_last b.front b.last b.behind (place - from) inst b.straight found (omega (arith, b.after)) is in
    (omega (arith, b.after, r.0), r.1)

-- ---- branches

-- a terminator stands at the place, and names the label
pub record Names (insts : List Inst) (place label : ℕ) : Type 0 where
  pub inst : Inst
  pub at : slice_get insts place ≡ Some inst
  pub terminator : is_terminator inst.op ≡ true
  pub among : is_among label (targets inst) ≡ true

named_last : (insts : List Inst) (scope : Scope) (from : ℕ) (end : BlockEnd) (b : BlockAt insts scope from end) (place label : ℕ) (n : Names insts place label) → from ≤ place → place < after_of end
    → (place + 1 ≡ after_of end) × (is_among label (targets b.last) ≡ true)
named_last insts scope from end b place label n low high =
    let l = block_last insts scope from end b place n.inst low high n.at n.terminator in (l.0, ap (λ (i : Inst). is_among label (targets i)) l.1 ∙ n.among)

-- a branch within a sequence, or out of it
abbrev pub Leads : List Inst → List Interval → (ℕ → Type 0) → ℕ → ℕ → ℕ → ℕ → Type 0
Leads insts intervals MayGo from to place label = Lands insts intervals from to place label ⊎ MayGo label

-- where other intervals stand behind them, or before
in_first : (insts : List Inst) (is js : List Interval) (first second from to terminator label : ℕ) → LieIn second to js → from ≤ first → second ≤ to → Lands insts is first second terminator label → Lands insts (is ++ js) from to terminator label
in_first insts is js first second from to terminator label lie down up l =
    record { place = l.place; due = l.due; low = omega (arith, l.low); high = omega (arith, l.high); jump = beside is js second to terminator l.place lie (inl l.high) l.jump }

in_rest : (insts : List Inst) (is js : List Interval) (first second from to terminator label : ℕ) → LieIn first second is → from ≤ second → Lands insts js second to terminator label → Lands insts (is ++ js) from to terminator label
in_rest insts is js first second from to terminator label lie down l =
    record { place = l.place; due = l.due; low = omega (arith, l.low); high = l.high; jump = behind is js first second terminator l.place lie (inr l.low) l.jump }

in_around : (insts : List Inst) (intervals : List Interval) (from to terminator label : ℕ) → from ≤ terminator → terminator < to → Lands insts intervals from to terminator label → Lands insts (around from to intervals) from to terminator label
in_around insts intervals from to terminator label low high l = record { place = l.place; due = l.due; low = l.low; high = l.high; jump = within from to intervals terminator l.place low high l.jump }

from_start : (insts : List Inst) (intervals : List Interval) (start from to terminator label : ℕ) → start ≤ from → Lands insts intervals from to terminator label → Lands insts intervals start to terminator label
from_start insts intervals start from to terminator label down l = record { place = l.place; due = l.due; low = omega (arith, l.low); high = l.high; jump = l.jump }

-- where an arm leads: to the merge block, or where the sequence around may be left
abbrev LeavesArm : Scope → ℕ → ℕ → Type 0
LeavesArm scope merge label = label == merge ≡ false → (next : Option ℕ) → MayLeaveTo scope next label

test_label : {Q : Type 0} (b : Bool) → (b ≡ true → Q) → (b ≡ false → Q) → Q
test_label true f g = f refl
test_label false f g = g refl

-- to the merge block, over the arms
to_merge : (insts : List Inst) (intervals : List Interval) (scope : Scope) (next : Option ℕ) (merge start from join to place label : ℕ) → LieIn start to intervals → Covers intervals start join → IsDue insts (Some merge) join → from ≤ join → join < to → start ≤ place + 1
    → LeavesArm scope merge label → Leads insts intervals (MayLeaveTo scope next) from to place label
to_merge insts intervals scope next merge start from join to place label lie covers due low high before leaves =
    test_label (label == merge)
    (λ is. inl (record { place = join; due = due_as insts label merge join (same_label label merge is) due; low = low; high = high; jump = over intervals start to place join lie covers before }))
    (λ isnt. inr (leaves isnt next))

lands : (insts : List Inst) (intervals : List Interval) (known start from to terminator label place : ℕ) → LieIn start to intervals → Covers intervals start place → IsDue insts (Some known) place → label ≡ known → from ≤ place → place < to → start ≤ terminator + 1
    → Lands insts intervals from to terminator label
lands insts intervals known start from to terminator label place lie covers due is low high before =
    record { place = place; due = due_as insts label known place is due; low = low; high = high; jump = over intervals start to terminator place lie covers before }

-- where the first block of an arm stands
arm_begins : (insts : List Inst) {scope : Scope} {merge target from to : ℕ} → (a : Arm insts scope merge target from to) → (target ≡ merge) ⊎ (IsDue insts (Some target) from × (from < to))
arm_begins insts (straight is none) = inl is
arm_begins insts (through isnt sequence) = inr (due_of sequence, (let q = forward insts sequence in omega (arith, q.forward)))

-- where the arm with a label stands
record ArmBegins (insts : List Inst) (intervals : List Interval) (from to label : ℕ) : Type 0 where
  place : ℕ
  due : IsDue insts (Some label) place
  low : from ≤ place
  high : place < to
  covers : Covers intervals from place

true_false : true ≡ false → ⊥
true_false is = cc

arms_begin : (insts : List Inst) {scope : Scope} {merge : ℕ} {all due left : List ℕ} {from to : ℕ} → (a : Arms insts scope merge all due from left to) → (label : ℕ) → is_among label due ≡ true → is_among label left ≡ false → ArmBegins insts (of_arms a) from to label
arms_begin insts (no_arm is none) label among gone = absurd (true_false (sym among ∙ ap (is_among label) is ∙ gone))
arms_begin insts {from = from} {to = to} (arm_behind own between before arms is_due is_left sequence) label among gone =
    let p = arms_forward insts arms in let q = forward insts sequence in
    test_label (label == own)
    (λ is. record { place = between; due = due_as insts label own between (same_label label own is) (due_of sequence); low = p; high = omega (arith, q.forward); covers = covers_front (of_arms arms) (around between to (inside sequence)) from between (arms_cover insts arms) })
    (λ isnt. let e = arms_begin insts arms label among (not_before label own before isnt (ap (is_among label) is_left ∙ gone)) in
    record { place = e.place; due = e.due; low = e.low; high = omega (arith, q.forward, e.high); covers = covers_front (of_arms arms) (around between to (inside sequence)) from e.place e.covers })

-- ---- by the derivation

mutual
  pub jumps : (insts : List Inst) {scope : Scope} {wanted next : Option ℕ} {from to : ℕ} → (s : Sequence insts scope wanted from to next) → (place label : ℕ) → Names insts place label → from ≤ place → place < to
      → Leads insts (inside s) (MayLeaveTo scope next) from to place label
  jumps insts {scope} {wanted} {next} {from} {to} (ends last here is label_is place_is) place label n low high =
      let b = block_at insts scope wanted from (way.Ends last) here is tt in
      let l = named_last insts scope from (way.Ends last) b place label n low (omega (arith, high, place_is)) in
      inr (subst (λ n. MayLeaveTo scope n label) label_is (b.ends label l.1))
  jumps insts {scope} {wanted} {next} {from} {to} (goes_on after here is rest) place label n low high =
      let b = block_at insts scope wanted from (way.GoesOn after) here is tt in
      let r = forward insts rest in
      elim (cases_lt place after) [
        | inl early ↦
            let l = named_last insts scope from (way.GoesOn after) b place label n low early in
            inl (lands insts (inside rest) b.ends.0 after from to place label after (lies insts rest) (covers_none (inside rest) after after (omega arith))
            (stands_as insts None b.ends.0 after b.behind (at_behind insts scope from (way.GoesOn after) b) b.ends.2 (due_of rest)) (one_name label b.ends.0 (targets b.last) b.ends.1 l.1) (omega (arith, b.after)) (omega (arith, r.forward)) (omega (arith, l.0)))
        | inr late ↦ elim (jumps insts rest place label n late high) [ inl l ↦ inl (from_start insts (inside rest) from after to place label (omega (arith, b.after)) l) | inr may ↦ inr may ]
      ]
  jumps insts {scope} {wanted} {next} {from} {to} (selects head second join here is on_true on_false rest) place label n low high =
      let b = block_at insts scope wanted from (way.Selects head) here is tt in
      let p = arm_forward insts on_true in let q = arm_forward insts on_false in let r = forward insts rest in
      let A : List Interval = of_arm on_true in let B : List Interval = of_arm on_false in let R : List Interval = inside rest in
      let a = arm_lies insts on_true in let c = arm_lies insts on_false in let d = lies insts rest in
      let lie = three_lie head.after second join to A B R p q (omega (arith, r.forward)) a c d in
      let first = covers_front A (B ++ R) head.after second (arm_covers insts on_true) in
      let both = covers_more (A ++ (B ++ R)) head.after second join q first (covers_behind A (B ++ R) second join (covers_front B R second join (arm_covers insts on_false))) in
      let merges : LeavesArm scope head.merge label → head.after ≤ place + 1 → Leads insts (A ++ (B ++ R)) (MayLeaveTo scope next) from to place label =
      λ leaves before. to_merge insts (A ++ (B ++ R)) scope next head.merge head.after from join to place label lie both (due_of rest) (omega (arith, b.after, p, q)) (omega (arith, r.forward)) before leaves in
      let merge_is : label ≡ head.merge → head.after ≤ place + 1 → Leads insts (A ++ (B ++ R)) (MayLeaveTo scope next) from to place label =
      λ is before. inl (lands insts (A ++ (B ++ R)) head.merge head.after from to place label join lie both (due_of rest) is (omega (arith, b.after, p, q)) (omega (arith, r.forward)) before) in
      elim (cases_lt place head.after) [
        | inl early ↦
            let l = named_last insts scope from (way.Selects head) b place label n low early in
            test_label (label == head.on_true)
            (λ is. elim (arm_begins insts on_true) [
              | inl straight_on ↦ merge_is (same_label label head.on_true is ∙ straight_on) (omega (arith, l.0))
              | inr begins ↦ inl (lands insts (A ++ (B ++ R)) head.on_true head.after from to place label head.after lie (covers_none (A ++ (B ++ R)) head.after head.after (omega arith)) begins.0 (same_label label head.on_true is) (omega (arith, b.after)) (omega (arith, begins.1, q, r.forward)) (omega (arith, l.0)))
            ])
            (λ isnt. let other = other_name label head.on_true head.on_false (targets b.last) b.ends l.1 isnt in
            elim (arm_begins insts on_false) [
              | inl straight_on ↦ merge_is (other ∙ straight_on) (omega (arith, l.0))
              | inr begins ↦ inl (lands insts (A ++ (B ++ R)) head.on_false head.after from to place label second lie first begins.0 other (omega (arith, b.after, p)) (omega (arith, begins.1, r.forward)) (omega (arith, l.0)))
            ])
        | inr late ↦ elim (cases_lt place second) [
          | inl in_true ↦ elim (arm_jumps insts on_true place label n late in_true) [
            | inl l ↦ inl (in_first insts A (B ++ R) head.after second from to place label (two_lie second join to B R q (omega (arith, r.forward)) c d) (omega (arith, b.after)) (omega (arith, q, r.forward)) l)
            | inr leaves ↦ merges leaves (omega (arith, late))
          ]
          | inr past ↦ elim (cases_lt place join) [
            | inl in_false ↦ elim (arm_jumps insts on_false place label n past in_false) [
              | inl l ↦ inl (in_rest insts A (B ++ R) head.after second from to place label a (omega (arith, b.after, p)) (in_first insts B R second join second to place label d (omega arith) (omega (arith, r.forward)) l))
              | inr leaves ↦ merges leaves (omega (arith, late))
            ]
            | inr beyond ↦ elim (jumps insts rest place label n beyond high) [
              | inl l ↦ inl (in_rest insts A (B ++ R) head.after second from to place label a (omega (arith, b.after, p)) (in_rest insts B R second join second to place label c q l))
              | inr may ↦ inr may
            ]
          ]
        ]
      ]
  jumps insts {scope} {wanted} {next} {from} {to} (picks head join here is arms rest) place label n low high =
      let b = block_at insts scope wanted from (way.Picks head) here is tt in
      let p = arms_forward insts arms in let r = forward insts rest in
      let A : List Interval = of_arms arms in let R : List Interval = inside rest in
      let a = arms_lie insts arms in let d = lies insts rest in
      let lie = two_lie head.after join to A R p (omega (arith, r.forward)) a d in
      let covers = covers_front A R head.after join (arms_cover insts arms) in
      let merges : LeavesArm scope head.merge label → head.after ≤ place + 1 → Leads insts (A ++ R) (MayLeaveTo scope next) from to place label =
      λ leaves before. to_merge insts (A ++ R) scope next head.merge head.after from join to place label lie covers (due_of rest) (omega (arith, b.after, p)) (omega (arith, r.forward)) before leaves in
      elim (cases_lt place head.after) [
        | inl early ↦
            let l = named_last insts scope from (way.Picks head) b place label n low early in
            test_label (label == head.merge)
            (λ is. inl (lands insts (A ++ R) head.merge head.after from to place label join lie covers (due_of rest) (same_label label head.merge is) (omega (arith, b.after, p)) (omega (arith, r.forward)) (omega (arith, l.0))))
            (λ isnt. let e = arms_begin insts arms label (among_arms insts scope from head b label l.1 isnt) refl in
            inl (lands insts (A ++ R) label head.after from to place label e.place lie (covers_front A R head.after e.place e.covers) e.due refl (omega (arith, b.after, e.low)) (omega (arith, e.high, r.forward)) (omega (arith, l.0))))
        | inr late ↦ elim (cases_lt place join) [
          | inl in_arms ↦ elim (arms_jump insts arms place label n late in_arms) [
            | inl l ↦ inl (in_first insts A R head.after join from to place label d (omega (arith, b.after)) (omega (arith, r.forward)) l)
            | inr leaves ↦ merges leaves (omega (arith, late))
          ]
          | inr beyond ↦ elim (jumps insts rest place label n beyond high) [
            | inl l ↦ inl (in_rest insts A R head.after join from to place label a (omega (arith, b.after, p)) l)
            | inr may ↦ inr may
          ]
        ]
      ]
  jumps insts {scope} {wanted} {next} {from} {to} (loops head inner first second third here is condition body step rest) place label n low high =
      let b = block_at insts scope wanted from (way.Loops head) here is tt in
      let p = forward insts condition in let q = forward insts body in let r = forward insts step in let u = forward insts rest in
      let C : List Interval = around head.after first (inside condition) in let D : List Interval = around first second (inside body) in let E : List Interval = around second third (inside step) in let R : List Interval = inside rest in
      let c = lie_around head.after first (inside condition) (lies insts condition) in let d = lie_around first second (inside body) (lies insts body) in let e = lie_around second third (inside step) (lies insts step) in let f = lies insts rest in
      let J : List Interval = C ++ (D ++ (E ++ R)) in
      let lie = four_lie head.after first second third to C D E R (omega (arith, p.forward)) (omega (arith, q.forward)) (omega (arith, r.forward)) (omega (arith, u.forward)) c d e f in
      let to_body = covers_front C (D ++ (E ++ R)) head.after first (covers_around head.after first (inside condition)) in
      let to_step = covers_more J head.after first second (omega (arith, q.forward)) to_body (covers_behind C (D ++ (E ++ R)) first second (covers_front D (E ++ R) first second (covers_around first second (inside body)))) in
      let to_end = covers_more J head.after second third (omega (arith, r.forward)) to_step (covers_behind C (D ++ (E ++ R)) second third (covers_behind D (E ++ R) second third (covers_front E R second third (covers_around second third (inside step))))) in
      let exits : label ≡ head.merge → head.after ≤ place + 1 → Leads insts J (MayLeaveTo scope next) from to place label =
      λ is before. inl (lands insts J head.merge head.after from to place label third lie to_end (due_of rest) is (omega (arith, b.after, p.forward, q.forward, r.forward)) (omega (arith, u.forward)) before) in
      elim (cases_lt place head.after) [
        | inl early ↦
            let l = named_last insts scope from (way.Loops head) b place label n low early in
            inl (lands insts J head.test head.after from to place label head.after lie (covers_none J head.after head.after (omega arith)) (due_of condition) (one_name label head.test (targets b.last) b.ends.0 l.1) (omega (arith, b.after)) (omega (arith, p.forward, q.forward, r.forward, u.forward)) (omega (arith, l.0)))
        | inr late ↦ elim (cases_lt place first) [
          | inl in_condition ↦ elim (jumps insts condition place label n late in_condition) [
            | inl l ↦ inl (in_first insts C (D ++ (E ++ R)) head.after first from to place label (three_lie first second third to D E R (omega (arith, q.forward)) (omega (arith, r.forward)) (omega (arith, u.forward)) d e f) (omega (arith, b.after)) (omega (arith, q.forward, r.forward, u.forward))
                (in_around insts (inside condition) head.after first place label late in_condition l))
            | inr may ↦ test_label (label == head.merge) (λ is. exits (same_label label head.merge is) (omega (arith, late)))
                (λ isnt. inl (lands insts J inner head.after from to place label first lie to_body (due_of body) (condition_exit scope head.merge inner label may isnt) (omega (arith, b.after, p.forward)) (omega (arith, q.forward, r.forward, u.forward)) (omega (arith, late))))
          ]
          | inr past ↦ elim (cases_lt place second) [
            | inl in_body ↦ elim (jumps insts body place label n past in_body) [
              | inl l ↦ inl (in_rest insts C (D ++ (E ++ R)) head.after first from to place label c (omega (arith, b.after, p.forward))
                  (in_first insts D (E ++ R) first second first to place label (two_lie second third to E R (omega (arith, r.forward)) (omega (arith, u.forward)) e f) (omega arith) (omega (arith, r.forward, u.forward)) (in_around insts (inside body) first second place label past in_body l)))
              | inr may ↦ test_label (label == head.merge) (λ is. exits (same_label label head.merge is) (omega (arith, late)))
                  (λ isnt. inl (lands insts J head.next head.after from to place label second lie to_step (due_of step) (body_exit scope head.merge head.next label may isnt) (omega (arith, b.after, p.forward, q.forward)) (omega (arith, r.forward, u.forward)) (omega (arith, late))))
            ]
            | inr further ↦ elim (cases_lt place third) [
              | inl in_step ↦ elim (jumps insts step place label n further in_step) [
                | inl l ↦ inl (in_rest insts C (D ++ (E ++ R)) head.after first from to place label c (omega (arith, b.after, p.forward)) (in_rest insts D (E ++ R) first second first to place label d (omega (arith, q.forward))
                    (in_first insts E R second third second to place label f (omega arith) (omega (arith, u.forward)) (in_around insts (inside step) second third place label further in_step l))))
                | inr may ↦
                    let back = continue_exit scope head.header label may ∙ b.ends.1 in
                    inl (lands insts J b.label from from to place label from (wider head.after to from to J (omega (arith, b.after)) (omega arith) lie) (covers_none J from from (omega arith)) (own_label insts scope wanted from (way.Loops head) b here) back (omega arith) (omega (arith, low, high)) (omega (arith, low)))
              ]
              | inr beyond ↦ elim (jumps insts rest place label n beyond high) [
                | inl l ↦ inl (in_rest insts C (D ++ (E ++ R)) head.after first from to place label c (omega (arith, b.after, p.forward)) (in_rest insts D (E ++ R) first second first to place label d (omega (arith, q.forward))
                    (in_rest insts E R second third second to place label e (omega (arith, r.forward)) l)))
                | inr may ↦ inr may
              ]
            ]
          ]
        ]
      ]

  arm_jumps : (insts : List Inst) {scope : Scope} {merge target from to : ℕ} → (a : Arm insts scope merge target from to) → (place label : ℕ) → Names insts place label → from ≤ place → place < to
      → Leads insts (of_arm a) (LeavesArm scope merge) from to place label
  arm_jumps insts {scope} {merge} {target} {from} {to} (straight is none) place label n low high = absurd (omega (arith, low, high, none))
  arm_jumps insts {scope} {merge} {target} {from} {to} (through isnt sequence) place label n low high =
      elim (jumps insts sequence place label n low high) [
        | inl l ↦ inl (in_around insts (inside sequence) from to place label low high l)
        | inr may ↦ inr (λ differs next. arm_exit scope merge next label may differs)
      ]

  arms_jump : (insts : List Inst) {scope : Scope} {merge : ℕ} {all due left : List ℕ} {from to : ℕ} → (a : Arms insts scope merge all due from left to) → (place label : ℕ) → Names insts place label → from ≤ place → place < to
      → Leads insts (of_arms a) (LeavesArm scope merge) from to place label
  arms_jump insts {scope} {merge} {all} {due} {left} {from} {to} (no_arm is none) place label n low high = absurd (omega (arith, low, high, none))
  arms_jump insts {scope} {merge} {all} {due} {left} {from} {to} (arm_behind own between before arms is_due is_left sequence) place label n low high =
      let p = arms_forward insts arms in let q = forward insts sequence in
      elim (cases_lt place between) [
        | inl early ↦ elim (arms_jump insts arms place label n low early) [
          | inl l ↦ inl (in_first insts (of_arms arms) (around between to (inside sequence)) from between from to place label (lie_around between to (inside sequence) (lies insts sequence)) (omega arith) (omega (arith, q.forward)) l)
          | inr leaves ↦ inr leaves
        ]
        | inr late ↦ elim (jumps insts sequence place label n late high) [
          | inl l ↦ inl (in_rest insts (of_arms arms) (around between to (inside sequence)) from between from to place label (arms_lie insts arms) p (in_around insts (inside sequence) between to place label late high l))
          | inr may ↦ inr (λ differs next. switch_exit scope merge (without own all) next label may differs)
        ]
      ]
