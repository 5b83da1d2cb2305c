-- Which labels the merge instructions of a sequence name, and the branches behind those of its selections: labels that stand in it, and later.
use Rattle.std.proofs.Common.{◌≡◌, ℕ, ◌+◌, ◌-◌, ◌<◌, ◌≤◌, ◌⊎◌, inl, inr, Bool, true, false, ◌==◌, List, length, refl, ap, sym, ◌∙◌, arith, Option, Some}
use Rattle.std.proofs.lemmas.Bool.{cases_lt, eqb-true}
use Rattle.std.proofs.lemmas.Option.{slice_get-get_or}
use Rattle.spirv_model.specs.declared.module.Inst.{Inst}
use Rattle.spirv_model.specs.declared.op.TheConstants as op
use Rattle.body_model.specs.declared.block_end.BlockEnd.TheVariants as way
use Rattle.body_model.specs.declared.block_end.SwitchHead.{SwitchHead}
use Rattle.body_model.specs.Classes.{is_terminator}
use Rattle.body_model.specs.Scope.{Scope}
use Rattle.body_model.specs.Blocks.{block_end}
use Rattle.body_model.specs.Due.{IsDue}
use Rattle.body_model.specs.Switches.{is_among, labels_of}
use Rattle.body_model.specs.Targets.{targets}
use Rattle.body_model.specs.Grammar.{Sequence, ends, goes_on, selects, picks, loops, Arm, straight, through, Arms, no_arm, arm_behind}
use Rattle.body_model.proofs.ClassFacts.{ends_switch}
use Rattle.body_model.proofs.Forward.{sound_at, forward, arm_forward, arms_forward}
use Rattle.valid_model.specs.Definitions.{inst_at, no_instruction}
use Rattle.stage_model.proofs.CodeRuns.{due_of, among_arms, not_before}
use Rattle.stage_model.proofs.WholeBlocks.{block_at}
use Rattle.typed_model.proofs.VisibleJumps.{block_last}
use Rattle.change_model.proofs.LeftFronts.{old_block}
use Rattle.change_model.proofs.LeftBlockNames.{Merges, StandsIn, block_merges, stands_due, stands_wider}

-- where the first block of an arm stands
pub arm_first : (insts : List Inst) {scope : Scope} {merge target from to : ℕ} → Arm insts scope merge target from to → (target ≡ merge) ⊎ (IsDue insts (Some target) from × (from < to))
arm_first insts (straight is none) = inl is
arm_first insts (through isnt sequence) = inr (due_of sequence, (let f = forward insts sequence in let g = f.forward in omega (arith, g)))

true_false : true ≡ false → ⊥
true_false is = cc

test_label : {Q : Type 0} (b : Bool) → (b ≡ true → Q) → (b ≡ false → Q) → Q
test_label true f g = f refl
test_label false f g = g refl

-- an arm of an OpSwitch with a label that is due stands among them
pub arms_first : (insts : List Inst) {scope : Scope} {merge : ℕ} {all due left : List ℕ} {from to : ℕ} → Arms insts scope merge all due from left to → (label : ℕ) → is_among label due ≡ true → is_among label left ≡ false → StandsIn insts from to label
arms_first insts (no_arm is none) label among gone = absurd (true_false (sym among ∙ ap (is_among label) is ∙ gone))
arms_first insts {from = from} {to = to} (arm_behind own between before arms is_due is_left sequence) label among gone =
    let f = forward insts sequence in
    let g = f.forward in
    let p = arms_forward insts arms in
    test_label (label == own)
    (λ is. stands_due insts from to label own between p (omega (arith, g)) (eqb-true label own is) (due_of sequence))
    (λ isnt. stands_wider insts from between from to label (omega arith) (omega (arith, g)) (arms_first insts arms label among (not_before label own before isnt (ap (is_among label) is_left ∙ gone))))

-- a target of an OpSwitch is its merge block or the label of an arm
pub switched : (insts : List Inst) (scope : Scope) (wanted : Option ℕ) (from : ℕ) (head : SwitchHead) → IsDue insts wanted from → block_end insts scope from ≡ way.Picks head → (label : ℕ) → (inst_at insts (head.after - 1)).op ≡ op.SWITCH
    → is_among label (targets (inst_at insts (head.after - 1))) ≡ true → (label ≡ head.merge) ⊎ (is_among label (labels_of insts head) ≡ true)
switched insts scope wanted from head here is label switch among =
    let b = block_at insts scope wanted from (way.Picks head) here is tt in
    let a = b.after in
    let f = (sound_at insts scope from (way.Picks head) is).0 in
    let low = f.forward in
    let high = f.within in
    let within : head.after - 1 < length insts = omega (arith, low, high) in
    let last = block_last insts scope from (way.Picks head) b (head.after - 1) (inst_at insts (head.after - 1)) (omega (arith, a)) (omega (arith, a, low)) (slice_get-get_or insts (head.after - 1) no_instruction within)
    (ap is_terminator switch ∙ ends_switch) in
    test_label (label == head.merge) (λ same. inl (eqb-true label head.merge same))
    (λ isnt. inr (among_arms insts scope from head b label (ap (λ (i : Inst). is_among label (targets i)) last.1 ∙ among) isnt))

-- what is merged stands in the sequence, later
mutual
  pub merges_in : (insts : List Inst) {scope : Scope} {wanted next : Option ℕ} {from to : ℕ} → Sequence insts scope wanted from to next → (place label : ℕ) → from ≤ place → place < to → Merges insts place label → StandsIn insts (place + 1) to label
  merges_in insts {scope} {wanted} {next} {from} {to} (ends last here is label_is place_is) place label low high m =
      absurd (block_merges insts scope from (way.Ends last) (old_block insts scope wanted from (way.Ends last) here is tt) tt place label low (omega (arith, high, place_is)) m)
  merges_in insts {scope} {wanted} {next} {from} {to} (goes_on after here is rest) place label low high m = elim (cases_lt place after) [
    | inl early ↦ absurd (block_merges insts scope from (way.GoesOn after) (old_block insts scope wanted from (way.GoesOn after) here is tt) tt place label low early m)
    | inr late ↦ merges_in insts rest place label late high m
  ]
  merges_in insts {scope} {wanted} {next} {from} {to} (selects head second join here is on_true on_false rest) place label low high m =
      let p = arm_forward insts on_true in
      let q = arm_forward insts on_false in
      let f = forward insts rest in
      let g = f.forward in
      let merge_is : place < join → label ≡ head.merge → StandsIn insts (place + 1) to label = λ less is. stands_due insts (place + 1) to label head.merge join (omega (arith, less)) g is (due_of rest) in
      elim (cases_lt place head.after) [
        | inl early ↦ elim (block_merges insts scope from (way.Selects head) (old_block insts scope wanted from (way.Selects head) here is tt) tt place label low early m) [
          | inl merges ↦ merge_is (omega (arith, early, p, q)) merges
          | inr (inl is_true) ↦ elim (arm_first insts on_true) [
            | inl straight_on ↦ merge_is (omega (arith, early, p, q)) (is_true ∙ straight_on)
            | inr first ↦ stands_due insts (place + 1) to label head.on_true head.after (omega (arith, early)) (let h = first.1 in omega (arith, h, q, g)) is_true first.0
          ]
          | inr (inr is_false) ↦ elim (arm_first insts on_false) [
            | inl straight_on ↦ merge_is (omega (arith, early, p, q)) (is_false ∙ straight_on)
            | inr first ↦ stands_due insts (place + 1) to label head.on_false second (omega (arith, early, p)) (let h = first.1 in omega (arith, h, g)) is_false first.0
          ]
        ]
        | inr late ↦ elim (cases_lt place second) [
          | inl in_true ↦ stands_wider insts (place + 1) second (place + 1) to label (omega arith) (omega (arith, q, g)) (arm_merges insts on_true place label late in_true m)
          | inr past ↦ elim (cases_lt place join) [
            | inl in_false ↦ stands_wider insts (place + 1) join (place + 1) to label (omega arith) (omega (arith, g)) (arm_merges insts on_false place label past in_false m)
            | inr beyond ↦ merges_in insts rest place label beyond high m
          ]
        ]
      ]
  merges_in insts {scope} {wanted} {next} {from} {to} (picks head join here is arms rest) place label low high m =
      let p = arms_forward insts arms in
      let f = forward insts rest in
      let g = f.forward in
      let merge_is : place < join → label ≡ head.merge → StandsIn insts (place + 1) to label = λ less is. stands_due insts (place + 1) to label head.merge join (omega (arith, less)) g is (due_of rest) in
      elim (cases_lt place head.after) [
        | inl early ↦ elim (block_merges insts scope from (way.Picks head) (old_block insts scope wanted from (way.Picks head) here is tt) tt place label low early m) [
          | inl merges ↦ merge_is (omega (arith, early, p)) merges
          | inr branch ↦ elim (switched insts scope wanted from head here is label branch.0 branch.1) [
            | inl merges ↦ merge_is (omega (arith, early, p)) merges
            | inr among ↦ stands_wider insts head.after join (place + 1) to label (omega (arith, early)) (omega (arith, g)) (arms_first insts arms label among refl)
          ]
        ]
        | inr late ↦ elim (cases_lt place join) [
          | inl within ↦ stands_wider insts (place + 1) join (place + 1) to label (omega arith) (omega (arith, g)) (arms_merges insts arms place label late within m)
          | inr beyond ↦ merges_in insts rest place label beyond high m
        ]
      ]
  merges_in insts {scope} {wanted} {next} {from} {to} (loops head inner first second third here is condition body step rest) place label low high m =
      let p = forward insts condition in
      let p' = p.forward in
      let q = forward insts body in
      let q' = q.forward in
      let r = forward insts step in
      let r' = r.forward in
      let f = forward insts rest in
      let g = f.forward in
      elim (cases_lt place head.after) [
        | inl early ↦ elim (block_merges insts scope from (way.Loops head) (old_block insts scope wanted from (way.Loops head) here is tt) tt place label low early m) [
          | inl merges ↦ stands_due insts (place + 1) to label head.merge third (omega (arith, early, p', q', r')) g merges (due_of rest)
          | inr continues ↦ stands_due insts (place + 1) to label head.next second (omega (arith, early, p', q')) (omega (arith, r', g)) continues (due_of step)
        ]
        | inr late ↦ elim (cases_lt place first) [
          | inl within ↦ stands_wider insts (place + 1) first (place + 1) to label (omega arith) (omega (arith, q', r', g)) (merges_in insts condition place label late within m)
          | inr past ↦ elim (cases_lt place second) [
            | inl within ↦ stands_wider insts (place + 1) second (place + 1) to label (omega arith) (omega (arith, r', g)) (merges_in insts body place label past within m)
            | inr further ↦ elim (cases_lt place third) [
              | inl within ↦ stands_wider insts (place + 1) third (place + 1) to label (omega arith) (omega (arith, g)) (merges_in insts step place label further within m)
              | inr beyond ↦ merges_in insts rest place label beyond high m
            ]
          ]
        ]
      ]

  pub arm_merges : (insts : List Inst) {scope : Scope} {merge target from to : ℕ} → Arm insts scope merge target from to → (place label : ℕ) → from ≤ place → place < to → Merges insts place label → StandsIn insts (place + 1) to label
  arm_merges insts (straight is none) place label low high m = absurd (omega (arith, low, high, none))
  arm_merges insts (through isnt sequence) place label low high m = merges_in insts sequence place label low high m

  pub arms_merges : (insts : List Inst) {scope : Scope} {merge : ℕ} {all due left : List ℕ} {from to : ℕ} → Arms insts scope merge all due from left to → (place label : ℕ) → from ≤ place → place < to → Merges insts place label
      → StandsIn insts (place + 1) to label
  arms_merges insts (no_arm is none) place label low high m = absurd (omega (arith, low, high, none))
  arms_merges insts {from = from} {to = to} (arm_behind own between before arms is_due is_left sequence) place label low high m =
      let f = forward insts sequence in
      let g = f.forward in
      elim (cases_lt place between) [
        | inl early ↦ stands_wider insts (place + 1) between (place + 1) to label (omega arith) (omega (arith, g)) (arms_merges insts arms place label low early m)
        | inr late ↦ merges_in insts sequence place label late high m
      ]
