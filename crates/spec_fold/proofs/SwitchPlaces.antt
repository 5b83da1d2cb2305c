-- Where OpSwitches stand: the merge block of each stands behind it, and an arm of its own begins at each other target.
use Rattle.std.proofs.Common.{◌≡◌, ℕ, ◌+◌, ◌-◌, ◌<◌, ◌≤◌, ◌⊎◌, inl, inr, Bool, true, false, ◌==◌, ◌||◌, List, ◌++◌, slice_index, map, refl, ap, sym, ◌∙◌, subst, arith, Option}
use Rattle.std.proofs.lemmas.Bool.{cases_lt, eqb-true, eq-eqb}
use Rattle.spirv_model.specs.declared.module.Inst.{Inst}
use Rattle.spirv_model.specs.declared.op.TheConstants as op
use Rattle.spirv_model.specs.Operands.{word_at}
use Rattle.body_model.specs.declared.block_end.BlockEnd.{BlockEnd}
use Rattle.body_model.specs.declared.block_end.BlockEnd.TheVariants as way
use Rattle.body_model.specs.declared.block_end.SwitchHead.{SwitchHead}
use Rattle.body_model.specs.Scope.{Scope}
use Rattle.body_model.specs.Blocks.{block_end}
use Rattle.body_model.specs.Due.{IsDue}
use Rattle.body_model.specs.Grammar.{Sequence, ends, goes_on, selects, picks, loops, Arm, straight, through, Arms, no_arm, arm_behind}
use Rattle.body_model.specs.Switches.{Case, cases_of, is_among, labels_of}
use Rattle.body_model.specs.Targets.{targets, targets_by}
use Rattle.body_model.proofs.Shapes.{IsWhole, after_of}
use Rattle.valid_model.specs.Definitions.{inst_at}
use Rattle.check_model.specs.Intervals.{Interval, interval, around, inside, of_arm, of_arms}
use Rattle.stage_model.proofs.CodeRuns.{due_of, not_before}
use Rattle.change_model.proofs.LeftBlockNames.{after_most, front_part, inst_there, second_there}
use Rattle.change_model.proofs.LeftEnds.{Way, exits, tests_true, tests_false, returns, kills, goes, selects as selects_way, picks as picks_way, loops as loops_way, way as way_of}
use Rattle.change_model.proofs.LeftFronts.{OldBlock, old_block}
use Rattle.change_model.proofs.LeftLeads.{inner_nowhere}
use Rattle.change_model.proofs.LeftMerges.{switched}
use Rattle.change_model.proofs.LeftPlaced.{stands_at_due}
use Rattle.change_model.proofs.LeftTargets.{Stands}
use Rattle.spec_fold.specs.Facts.{merge_before}
use Rattle.spec_fold.proofs.Nests.{Among, among_left, among_right, parts, arm_parts, arms_parts}

clash : {Q : Type 0} (b : Bool) → b ≡ true → b ≡ false → Q
clash true is isnt = cc
clash false is isnt = cc

-- ---- in a block

abbrev PicksAt : List Inst → ℕ → BlockEnd → Type 0
PicksAt insts place (way.Picks head) = (place + 1 ≡ head.after) × (head.merge ≡ merge_before insts place)
PicksAt insts place other = ⊥

module _ (insts : List Inst) (scope : Scope) (from : ℕ) (end : BlockEnd) (o : OldBlock insts scope from end) where
  abbrev WayOf : BlockEnd → Type 0
  WayOf e = Way scope (slice_index o.label.words 0) o.inst o.behind o.place e

  other_op : {Q : Type 0} (known opcode : ℕ) → opcode ≡ known → known == op.SWITCH ≡ false → opcode ≡ op.SWITCH → Q
  other_op known opcode is isnt switch = clash (known == op.SWITCH) (eq-eqb known op.SWITCH (sym is ∙ switch)) isnt

  at_last : (e : BlockEnd) → WayOf e → o.inst.op ≡ op.SWITCH → ⊥
  at_last e (exits is free to) switch = other_op op.BRANCH o.inst.op is refl switch
  at_last e (tests_true is test other) switch = other_op op.BRANCH_CONDITIONAL o.inst.op is refl switch
  at_last e (tests_false is test other) switch = other_op op.BRANCH_CONDITIONAL o.inst.op is refl switch
  at_last e (returns is may) switch = clash ((o.inst.op == op.RETURN) || (o.inst.op == op.UNREACHABLE)) is (ap (λ (n : ℕ). (n == op.RETURN) || (n == op.UNREACHABLE)) switch)
  at_last e (kills is may) switch = other_op op.KILL o.inst.op is refl switch
  at_last e (goes is free to begins) switch = other_op op.BRANCH o.inst.op is refl switch
  at_last e (selects_way is at branch few other) switch = other_op op.SELECTION_MERGE o.inst.op is refl switch
  at_last e (picks_way is at branch few other) switch = other_op op.SELECTION_MERGE o.inst.op is refl switch
  at_last e (loops_way is may at branch few free) switch = other_op op.LOOP_MERGE o.inst.op is refl switch

  at_second : (e : BlockEnd) → WayOf e → o.place + 1 < after_of e → (inst_at insts (o.place + 1)).op ≡ op.SWITCH → PicksAt insts (o.place + 1) e
  at_second e (selects_way {last} {rest} is at branch few other) within switch = other_op op.BRANCH_CONDITIONAL last.op branch refl (sym (ap (λ (i : Inst). i.op) (second_there insts scope from end o last rest at)) ∙ switch)
  at_second e (loops_way {last} {rest} is may at branch few free) within switch = other_op op.BRANCH last.op branch refl (sym (ap (λ (i : Inst). i.op) (second_there insts scope from end o last rest at)) ∙ switch)
  at_second e (picks_way {last} {rest} is at branch few other) within switch =
      let one : o.place + 1 - 1 ≡ o.place = omega arith in
      (omega arith, sym (ap (λ (n : ℕ). word_at 0 (inst_at insts n)) one ∙ ap (λ (i : Inst). word_at 0 i) (inst_there insts scope from end o)))
  at_second e (exits is free to) within switch = absurd (omega (arith, within))
  at_second e (tests_true is test other) within switch = absurd (omega (arith, within))
  at_second e (tests_false is test other) within switch = absurd (omega (arith, within))
  at_second e (returns is may) within switch = absurd (omega (arith, within))
  at_second e (kills is may) within switch = absurd (omega (arith, within))
  at_second e (goes is free to begins) within switch = absurd (omega (arith, within))

  block_switch : IsWhole end → (place : ℕ) → from ≤ place → place < after_of end → (inst_at insts place).op ≡ op.SWITCH → PicksAt insts place end
  block_switch whole place low high switch = elim (cases_lt place o.place) [
    | inl before ↦ elim (front_part insts scope from end o place low before) [
      | inl label ↦ clash ((inst_at insts place).op == op.LABEL) label (ap (λ (n : ℕ). n == op.LABEL) switch)
      | inr inner ↦ clash ((inst_at insts place).op == op.SWITCH) (eq-eqb (inst_at insts place).op op.SWITCH switch) (inner_nowhere (inst_at insts place).op inner).no_switch
    ]
    | inr least ↦ elim (cases_lt o.place place) [
      | inr most ↦
          let e : place ≡ o.place = omega (arith, least, most) in
          absurd (at_last end w (sym (ap (λ (i : Inst). i.op) (ap (inst_at insts) e ∙ inst_there insts scope from end o)) ∙ switch))
      | inl later ↦
          let most = after_most insts scope from end o end w in
          let e : o.place + 1 ≡ place = omega (arith, later, most, high) in
          subst (λ (n : ℕ). PicksAt insts n end) e (at_second end w (omega (arith, e, high)) (ap (λ (n : ℕ). (inst_at insts n).op) e ∙ switch))
    ]
  ]
    where
      w : WayOf end
      w = way_of scope (slice_index o.label.words 0) o.inst o.behind o.place end o.ends whole

in_block : (insts : List Inst) (scope : Scope) (wanted : Option ℕ) (from : ℕ) (end : BlockEnd) → IsDue insts wanted from → block_end insts scope from ≡ end → IsWhole end → (place : ℕ) → from ≤ place → place < after_of end
    → (inst_at insts place).op ≡ op.SWITCH → PicksAt insts place end
in_block insts scope wanted from end here is whole place low high switch = block_switch insts scope from end (old_block insts scope wanted from end here is whole) whole place low high switch

-- ---- its arms

-- an interval begins at the label
pub record ArmThere (insts : List Inst) (is : List Interval) (label : ℕ) : Type 0 where
  pub from : ℕ
  pub to : ℕ
  pub there : Among (interval from to) is
  pub stands : Stands insts label from

arm_more : (insts : List Inst) (is js : List Interval) (label : ℕ) → ((i : Interval) → Among i is → Among i js) → ArmThere insts is label → ArmThere insts js label
arm_more insts is js label more a = record { from = a.from; to = a.to; there = more (interval a.from a.to) a.there; stands = a.stands }

test_label : {Q : Type 0} (b : Bool) → (b ≡ true → Q) → (b ≡ false → Q) → Q
test_label true f g = f refl
test_label false f g = g refl

arm_in : (insts : List Inst) {scope : Scope} {merge : ℕ} {all due left : List ℕ} {from to : ℕ} (a : Arms insts scope merge all due from left to) (label : ℕ) → is_among label due ≡ true → is_among label left ≡ false → ArmThere insts (of_arms a) label
arm_in insts {due = due} (no_arm is none) label among gone = clash (is_among label due) among (ap (is_among label) is ∙ gone)
arm_in insts {to = to} (arm_behind own between front arms is_due is_left sequence) label among gone = test_label (label == own)
    (λ same. record {
      from = between;
      to = to;
      there = among_right (interval between to) (of_arms arms) (around between to (inside sequence)) (inl refl);
      stands = stands_at_due insts label own between (eqb-true label own same) (due_of sequence);
    })
    (λ isnt. arm_more insts (of_arms arms) (of_arms arms ++ around between to (inside sequence)) label (λ i. among_left i (of_arms arms) (around between to (inside sequence)))
    (arm_in insts arms label among (not_before label own front isnt (ap (is_among label) is_left ∙ gone))))

default_among : (inst : Inst) → inst.op ≡ op.SWITCH → is_among (word_at 1 inst) (targets inst) ≡ true
unfolding targets_by
default_among inst switch =
    ap (λ (o : ℕ). is_among (word_at 1 inst) (targets_by o inst.words)) switch
    ∙ ap (λ (b : Bool). b || is_among (word_at 1 inst) (map (λ (case : Case). case.target) (cases_of inst.words))) (eq-eqb (word_at 1 inst) (word_at 1 inst) refl)

-- ---- in a sequence

-- of the OpSwitch at a place
pub record Selected (insts : List Inst) (all inner : List Interval) (place : ℕ) : Type 0 where
  pub join : ℕ
  pub there : Among (interval place (join + 1)) all
  pub stands : Stands insts (merge_before insts place) join
  pub arm : (word_at 1 (inst_at insts place) ≡ merge_before insts place → ⊥) → ArmThere insts inner (word_at 1 (inst_at insts place))

pub selected_more : (insts : List Inst) (all inner all' inner' : List Interval) (place : ℕ) → ((i : Interval) → Among i all → Among i all') → ((i : Interval) → Among i inner → Among i inner') → Selected insts all inner place
    → Selected insts all' inner' place
selected_more insts all inner all' inner' place more also s = record {
  join = s.join;
  there = more (interval place (s.join + 1)) s.there;
  stands = s.stands;
  arm = λ differs. arm_more insts inner inner' (word_at 1 (inst_at insts place)) also (s.arm differs);
}

same_interval : (a b c : ℕ) → a ≡ b → interval a c ≡ interval b c
same_interval a b c is = cc

some_merge : (insts : List Inst) (scope : Scope) (wanted : Option ℕ) (from : ℕ) (head : SwitchHead) → IsDue insts wanted from → block_end insts scope from ≡ way.Picks head → (place : ℕ) → place ≡ head.after - 1 → (inst_at insts place).op ≡ op.SWITCH
    → (word_at 1 (inst_at insts place) ≡ head.merge) ⊎ (is_among (word_at 1 (inst_at insts place)) (labels_of insts head) ≡ true)
some_merge insts scope wanted from head here is place e switch =
    switched insts scope wanted from head here is (word_at 1 (inst_at insts place)) (ap (λ (n : ℕ). (inst_at insts n).op) (sym e) ∙ switch)
    (ap (λ (n : ℕ). is_among (word_at 1 (inst_at insts place)) (targets (inst_at insts n))) (sym e) ∙ default_among (inst_at insts place) switch)

mutual
  pub selected : (insts : List Inst) {scope : Scope} {wanted next : Option ℕ} {from to : ℕ} (d : Sequence insts scope wanted from to next) (place : ℕ) → from ≤ place → place < to → (inst_at insts place).op ≡ op.SWITCH
      → Selected insts (parts d) (inside d) place
  selected insts {scope} {wanted} {from = from} (ends last here is next_is place_is) place low high switch = absurd (in_block insts scope wanted from (way.Ends last) here is tt place low (omega (arith, high, place_is)) switch)
  selected insts {scope} {wanted} {from = from} (goes_on after here is rest) place low high switch = elim (cases_lt place after) [
    | inl early ↦ absurd (in_block insts scope wanted from (way.GoesOn after) here is tt place low early switch)
    | inr late ↦ selected insts rest place late high switch
  ]
  selected insts {scope} {wanted} {from = from} (selects head second join here is on_true on_false rest) place low high switch = elim (cases_lt place head.after) [
    | inl early ↦ absurd (in_block insts scope wanted from (way.Selects head) here is tt place low early switch)
    | inr late ↦ elim (cases_lt place second) [
      | inl within ↦ selected_more insts (arm_parts on_true) (of_arm on_true) _ _ place (λ i. among_left i (arm_parts on_true) (arm_parts on_false ++ parts rest)) (λ i. among_left i (of_arm on_true) (of_arm on_false ++ inside rest))
          (arm_selected insts on_true place late within switch)
      | inr past ↦ selected_more insts (arm_parts on_false ++ parts rest) (of_arm on_false ++ inside rest) _ _ place (λ i. among_right i (arm_parts on_true) (arm_parts on_false ++ parts rest))
          (λ i. among_right i (of_arm on_true) (of_arm on_false ++ inside rest)) (elim (cases_lt place join) [
            | inl within ↦ selected_more insts (arm_parts on_false) (of_arm on_false) _ _ place (λ i. among_left i (arm_parts on_false) (parts rest)) (λ i. among_left i (of_arm on_false) (inside rest)) (arm_selected insts on_false place past within switch)
            | inr beyond ↦ selected_more insts (parts rest) (inside rest) _ _ place (λ i. among_right i (arm_parts on_false) (parts rest)) (λ i. among_right i (of_arm on_false) (inside rest)) (selected insts rest place beyond high switch)
          ])
    ]
  ]
  selected insts {scope} {wanted} {from = from} (picks head join here is arms rest) place low high switch = elim (cases_lt place head.after) [
    | inl early ↦
        let p = in_block insts scope wanted from (way.Picks head) here is tt place low early switch in
        let q = p.0 in
        let e : place ≡ head.after - 1 = omega (arith, q) in
        record {
          join = join;
          there = inl (same_interval place (head.after - 1) (join + 1) e);
          stands = stands_at_due insts (merge_before insts place) head.merge join (sym p.1) (due_of rest);
          arm = λ differs. elim (some_merge insts scope wanted from head here is place e switch) [
            | inl merges ↦ absurd (differs (merges ∙ p.1))
            | inr among ↦ arm_more insts (of_arms arms) (of_arms arms ++ inside rest) (word_at 1 (inst_at insts place)) (λ i. among_left i (of_arms arms) (inside rest)) (arm_in insts arms (word_at 1 (inst_at insts place)) among refl)
          ];
        }
    | inr late ↦ elim (cases_lt place join) [
      | inl within ↦ selected_more insts (arms_parts arms) (of_arms arms) _ _ place (λ i a. inr (among_left i (arms_parts arms) (parts rest) a)) (λ i. among_left i (of_arms arms) (inside rest)) (arms_selected insts arms place late within switch)
      | inr beyond ↦ selected_more insts (parts rest) (inside rest) _ _ place (λ i a. inr (among_right i (arms_parts arms) (parts rest) a)) (λ i. among_right i (of_arms arms) (inside rest)) (selected insts rest place beyond high switch)
    ]
  ]
  selected insts {scope} {wanted} {from = from} (loops head inner first second third here is condition body step rest) place low high switch = elim (cases_lt place head.after) [
    | inl early ↦ absurd (in_block insts scope wanted from (way.Loops head) here is tt place low early switch)
    | inr late ↦ elim (cases_lt place first) [
      | inl within ↦ selected_more insts (parts condition) (inside condition) _ _ place (λ i a. inr (among_left i (parts condition) (around first second (parts body) ++ (around second third (parts step) ++ parts rest)) a))
          (λ i a. inr (among_left i (inside condition) (around first second (inside body) ++ (around second third (inside step) ++ inside rest)) a)) (selected insts condition place late within switch)
      | inr past ↦ selected_more insts (around first second (parts body) ++ (around second third (parts step) ++ parts rest)) (around first second (inside body) ++ (around second third (inside step) ++ inside rest)) _ _ place
          (λ i. among_right i (around head.after first (parts condition)) _) (λ i. among_right i (around head.after first (inside condition)) _) (elim (cases_lt place second) [
            | inl within ↦ selected_more insts (parts body) (inside body) _ _ place (λ i a. inr (among_left i (parts body) (around second third (parts step) ++ parts rest) a))
                (λ i a. inr (among_left i (inside body) (around second third (inside step) ++ inside rest) a)) (selected insts body place past within switch)
            | inr further ↦ selected_more insts (around second third (parts step) ++ parts rest) (around second third (inside step) ++ inside rest) _ _ place
                (λ i. among_right i (around first second (parts body)) _) (λ i. among_right i (around first second (inside body)) _) (elim (cases_lt place third) [
                  | inl within ↦ selected_more insts (parts step) (inside step) _ _ place (λ i a. inr (among_left i (parts step) (parts rest) a)) (λ i a. inr (among_left i (inside step) (inside rest) a)) (selected insts step place further within switch)
                  | inr beyond ↦ selected_more insts (parts rest) (inside rest) _ _ place (λ i. among_right i (around second third (parts step)) (parts rest)) (λ i. among_right i (around second third (inside step)) (inside rest))
                      (selected insts rest place beyond high switch)
                ])
          ])
    ]
  ]

  arm_selected : (insts : List Inst) {scope : Scope} {merge target from to : ℕ} (a : Arm insts scope merge target from to) (place : ℕ) → from ≤ place → place < to → (inst_at insts place).op ≡ op.SWITCH
      → Selected insts (arm_parts a) (of_arm a) place
  arm_selected insts (straight is none) place low high switch = absurd (omega (arith, none, low, high))
  arm_selected insts (through isnt sequence) place low high switch = selected_more insts (parts sequence) (inside sequence) _ _ place (λ i a. inr a) (λ i a. inr a) (selected insts sequence place low high switch)

  arms_selected : (insts : List Inst) {scope : Scope} {merge : ℕ} {all due left : List ℕ} {from to : ℕ} (a : Arms insts scope merge all due from left to) (place : ℕ) → from ≤ place → place < to → (inst_at insts place).op ≡ op.SWITCH
      → Selected insts (arms_parts a) (of_arms a) place
  arms_selected insts (no_arm is none) place low high switch = absurd (omega (arith, none, low, high))
  arms_selected insts {to = to} (arm_behind label between front arms among is sequence) place low high switch = elim (cases_lt place between) [
    | inl early ↦ selected_more insts (arms_parts arms) (of_arms arms) _ _ place (λ i. among_left i (arms_parts arms) (around between to (parts sequence))) (λ i. among_left i (of_arms arms) (around between to (inside sequence)))
        (arms_selected insts arms place low early switch)
    | inr late ↦ selected_more insts (parts sequence) (inside sequence) _ _ place (λ i a. among_right i (arms_parts arms) (around between to (parts sequence)) (inr a)) (λ i a. among_right i (of_arms arms) (around between to (inside sequence)) (inr a))
        (selected insts sequence place late high switch)
  ]
