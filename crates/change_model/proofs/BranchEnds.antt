-- A label outside a sequence to which nothing leads that is nested in it: only the end of the sequence leads there.
use Rattle.std.proofs.Common.{◌≡◌, ℕ, ◌+◌, ◌<◌, ◌≤◌, inl, inr, Bool, true, false, ◌==◌, List, [], ◌∷◌, ◌++◌, length, refl, ◌∙◌, arith, Option, None}
use Rattle.std.proofs.lemmas.Bool.{cases_lt, eqb-true}
use Rattle.std.proofs.lemmas.Option.{slice_get-get_or}
use Rattle.spirv_model.specs.declared.module.Inst.{Inst}
use Rattle.body_model.specs.declared.block_end.BlockEnd.{BlockEnd}
use Rattle.body_model.specs.declared.block_end.BlockEnd.TheVariants as way
use Rattle.body_model.specs.Scope.{Scope}
use Rattle.body_model.specs.Switches.{is_among}
use Rattle.body_model.specs.Targets.{targets}
use Rattle.body_model.specs.Grammar.{Sequence, ends, goes_on, selects, picks, loops, Arm, straight, through, Arms, no_arm, arm_behind}
use Rattle.body_model.proofs.Forward.{sound_at, forward, arm_forward, arms_forward}
use Rattle.body_model.proofs.Shapes.{after_of}
use Rattle.valid_model.specs.Definitions.{inst_at, no_instruction}
use Rattle.check_model.specs.Intervals.{Interval, around, inside, of_arm, of_arms}
use Rattle.stage_model.proofs.CodeRuns.{due_of, one_name, other_name, stands_as, at_behind, among_arms}
use Rattle.stage_model.proofs.WholeBlocks.{BlockAt, block_at}
use Rattle.typed_model.proofs.VisibleJumps.{block_last}
use Rattle.change_model.proofs.LeftBlockNames.{StandsIn, stands_due, stands_wider}
use Rattle.change_model.proofs.LeftLeaves.{named_terminator, block_targets}
use Rattle.change_model.proofs.LeftMerges.{arm_first, arms_first}
use Rattle.change_model.proofs.LeftScopes.{StandsNot}

clash : {Q : Type 0} (b : Bool) → b ≡ true → b ≡ false → Q
clash true is isnt = cc
clash false is isnt = cc

test_label : {Q : Type 0} (b : Bool) → (b ≡ true → Q) → (b ≡ false → Q) → Q
test_label true f g = f refl
test_label false f g = g refl

-- what names a label in a block is its end
pub leads_last : (insts : List Inst) (scope : Scope) (from : ℕ) (end : BlockEnd) (b : BlockAt insts scope from end) → after_of end ≤ length insts → (place label : ℕ) → from ≤ place → place < after_of end
    → is_among label (targets (inst_at insts place)) ≡ true → place + 1 ≡ after_of end
leads_last insts scope from end b within place label low high among =
    (block_last insts scope from end b place (inst_at insts place) low high (slice_get-get_or insts place no_instruction (omega (arith, high, within))) (named_terminator (inst_at insts place) label among)).0

-- no instruction in the intervals leads to the label
abbrev pub NoneLeads : List Inst → ℕ → List Interval → Type 0
NoneLeads insts label [] = Unit {0}
NoneLeads insts label (i ∷ is) = ((place : ℕ) → i.from ≤ place → place < i.to → is_among label (targets (inst_at insts place)) ≡ false) × NoneLeads insts label is

module _ (insts : List Inst) (label : ℕ) where
  none_first : (is js : List Interval) → NoneLeads insts label (is ++ js) → NoneLeads insts label is
  none_first [] js none = tt
  none_first (i ∷ is) js none = (none.0, none_first is js none.1)

  none_second : (is js : List Interval) → NoneLeads insts label (is ++ js) → NoneLeads insts label js
  none_second [] js none = none
  none_second (i ∷ is) js none = none_second is js none.1

  within : {Q : Type 0} (from to : ℕ) → StandsNot insts from to label → StandsIn insts from to label → Q
  within from to stands s = absurd (stands s.at s.low s.high s.stands.is_label s.stands.own)

  less_stands : (from to low high : ℕ) → from ≤ low → high ≤ to → StandsNot insts from to label → StandsNot insts low high label
  less_stands from to low high down up none place least less is own = none place (omega (arith, down, least)) (omega (arith, up, less)) is own

  arm_silent : {Q : Type 0} {scope : Scope} {merge target from to : ℕ} (a : Arm insts scope merge target from to) → NoneLeads insts label (of_arm a) → (place : ℕ) → from ≤ place → place < to → is_among label (targets (inst_at insts place)) ≡ true → Q
  arm_silent (straight is same) none place low high among = absurd (omega (arith, same, low, high))
  arm_silent (through isnt sequence) none place low high among = clash (is_among label (targets (inst_at insts place))) among (none.0 place low high)

  arms_silent : {Q : Type 0} {scope : Scope} {merge : ℕ} {all due left : List ℕ} {from to : ℕ} (a : Arms insts scope merge all due from left to) → NoneLeads insts label (of_arms a) → (place : ℕ) → from ≤ place → place < to
      → is_among label (targets (inst_at insts place)) ≡ true → Q
  arms_silent (no_arm is same) none place low high among = absurd (omega (arith, same, low, high))
  arms_silent {to = to} (arm_behind own between before arms is_due is_left sequence) none place low high among = elim (cases_lt place between) [
    | inl early ↦ arms_silent arms (none_first (of_arms arms) (around between to (inside sequence)) none) place low early among
    | inr late ↦ clash (is_among label (targets (inst_at insts place))) among ((none_second (of_arms arms) (around between to (inside sequence)) none).0 place late high)
  ]

  arm_stands : {scope : Scope} {merge target low high : ℕ} (from to : ℕ) → Arm insts scope merge target low high → from ≤ low → high ≤ to → label ≡ target → (label ≡ merge → StandsIn insts from to label) → StandsIn insts from to label
  arm_stands {target = target} {low = low} from to a down up same merges = elim (arm_first insts a) [
    | inl straight_on ↦ merges (same ∙ straight_on)
    | inr first ↦ (let less = first.1 in stands_due insts from to label target low down (omega (arith, less, up)) same first.0)
  ]

  pub at_end : {scope : Scope} {wanted next : Option ℕ} {from to : ℕ} (s : Sequence insts scope wanted from to next) → NoneLeads insts label (inside s) → StandsNot insts from to label → (place : ℕ) → from ≤ place → place < to
      → is_among label (targets (inst_at insts place)) ≡ true → place + 1 ≡ to
  at_end {scope} {wanted} {next} {from} {to} (ends last here is label_is place_is) none stands place low high among =
      let w = (sound_at insts scope from (way.Ends last) is).0.within in
      let e = leads_last insts scope from (way.Ends last) (block_at insts scope wanted from (way.Ends last) here is tt) w place label low (omega (arith, high, place_is)) among in
      omega (arith, e, place_is)
  at_end {scope} {wanted} {next} {from} {to} (goes_on after here is rest) none stands place low high among =
      let f = sound_at insts scope from (way.GoesOn after) is in
      let f' = f.forward in
      let g = (forward insts rest).forward in
      let b = block_at insts scope wanted from (way.GoesOn after) here is tt in
      elim (cases_lt place after) [
        | inl early ↦ within from to stands (stands_due insts from to label b.ends.0 after (omega (arith, low, early)) g
            (one_name label b.ends.0 _ b.ends.1 (block_targets insts scope from (way.GoesOn after) b f.within place label low early among))
            (stands_as insts None b.ends.0 after b.behind (at_behind insts scope from (way.GoesOn after) b) b.ends.2 (due_of rest)))
        | inr late ↦ at_end rest none (less_stands from to after to (omega (arith, f')) (omega arith) stands) place late high among
      ]
  at_end {scope} {wanted} {next} {from} {to} (selects head second join here is on_true on_false rest) none stands place low high among =
      let f = (sound_at insts scope from (way.Selects head) is).0 in
      let f' = f.forward in
      let p = arm_forward insts on_true in
      let q = arm_forward insts on_false in
      let g = (forward insts rest).forward in
      let b = block_at insts scope wanted from (way.Selects head) here is tt in
      let others = none_second (of_arm on_true) (of_arm on_false ++ inside rest) none in
      let merges : label ≡ head.merge → StandsIn insts from to label = λ same. stands_due insts from to label head.merge join (omega (arith, f', p, q)) g same (due_of rest) in
      elim (cases_lt place head.after) [
        | inl early ↦
            let named = block_targets insts scope from (way.Selects head) b f.within place label low early among in
            within from to stands (test_label (label == head.on_true) (λ same. arm_stands from to on_true (omega (arith, f')) (omega (arith, q, g)) (eqb-true label head.on_true same) merges)
            (λ differs. arm_stands from to on_false (omega (arith, f', p)) (omega (arith, g)) (other_name label head.on_true head.on_false _ b.ends named differs) merges))
        | inr late ↦ elim (cases_lt place second) [
          | inl first ↦ arm_silent on_true (none_first (of_arm on_true) (of_arm on_false ++ inside rest) none) place late first among
          | inr past ↦ elim (cases_lt place join) [
            | inl other ↦ arm_silent on_false (none_first (of_arm on_false) (inside rest) others) place past other among
            | inr beyond ↦ at_end rest (none_second (of_arm on_false) (inside rest) others) (less_stands from to join to (omega (arith, f', p, q)) (omega arith) stands) place beyond high among
          ]
        ]
      ]
  at_end {scope} {wanted} {next} {from} {to} (picks head join here is arms rest) none stands place low high among =
      let f = (sound_at insts scope from (way.Picks head) is).0 in
      let f' = f.forward in
      let p = arms_forward insts arms in
      let g = (forward insts rest).forward in
      let b = block_at insts scope wanted from (way.Picks head) here is tt in
      elim (cases_lt place head.after) [
        | inl early ↦
            let named = block_targets insts scope from (way.Picks head) b f.within place label low early among in
            within from to stands (test_label (label == head.merge) (λ same. stands_due insts from to label head.merge join (omega (arith, f', p)) g (eqb-true label head.merge same) (due_of rest))
            (λ differs. stands_wider insts head.after join from to label (omega (arith, f')) (omega (arith, g)) (arms_first insts arms label (among_arms insts scope from head b label named differs) refl)))
        | inr late ↦ elim (cases_lt place join) [
          | inl in_arms ↦ arms_silent arms (none_first (of_arms arms) (inside rest) none) place late in_arms among
          | inr beyond ↦ at_end rest (none_second (of_arms arms) (inside rest) none) (less_stands from to join to (omega (arith, f', p)) (omega arith) stands) place beyond high among
        ]
      ]
  at_end {scope} {wanted} {next} {from} {to} (loops head inner first second third here is tested body step rest) none stands place low high among =
      let f = (sound_at insts scope from (way.Loops head) is).0 in
      let f' = f.forward in
      let t = (forward insts tested).forward in
      let q = (forward insts body).forward in
      let r = (forward insts step).forward in
      let g = (forward insts rest).forward in
      let b = block_at insts scope wanted from (way.Loops head) here is tt in
      let T = around head.after first (inside tested) in
      let B = around first second (inside body) in
      let S = around second third (inside step) in
      let none_body = none_second T (B ++ (S ++ inside rest)) none in
      let none_step = none_second B (S ++ inside rest) none_body in
      elim (cases_lt place head.after) [
        | inl early ↦
            within from to stands (stands_due insts from to label head.test head.after (omega (arith, low, early)) (omega (arith, t, q, r, g))
            (one_name label head.test _ b.ends.0 (block_targets insts scope from (way.Loops head) b f.within place label low early among)) (due_of tested))
        | inr late ↦ elim (cases_lt place first) [
          | inl one ↦ clash (is_among label (targets (inst_at insts place))) among ((none_first T (B ++ (S ++ inside rest)) none).0 place late one)
          | inr past ↦ elim (cases_lt place second) [
            | inl two ↦ clash (is_among label (targets (inst_at insts place))) among ((none_first B (S ++ inside rest) none_body).0 place past two)
            | inr further ↦ elim (cases_lt place third) [
              | inl three ↦ clash (is_among label (targets (inst_at insts place))) among ((none_first S (inside rest) none_step).0 place further three)
              | inr beyond ↦ at_end rest (none_second S (inside rest) none_step) (less_stands from to third to (omega (arith, f', t, q, r)) (omega arith) stands) place beyond high among
            ]
          ]
        ]
      ]
