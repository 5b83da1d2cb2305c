-- The loop whose OpLoopMerge stands at a place: its merge block, its condition sequence, and the one branch that leaves it from there.
use Rattle.std.proofs.Common.{◌≡◌, ℕ, ◌+◌, ◌<◌, ◌≤◌, ◌⊎◌, inl, inr, Bool, true, false, not, ◌==◌, ◌&&◌, List, slice_index, refl, ap, sym, ◌∙◌, arith, None}
use Rattle.std.proofs.lemmas.Bool.{cases_lt, eqb-true}
use Rattle.spirv_model.specs.declared.module.Inst.{Inst}
use Rattle.spirv_model.specs.declared.op.TheConstants as op
use Rattle.spirv_model.specs.Operands.{word_at}
use Rattle.body_model.specs.declared.block_end.BlockEnd.TheVariants as way
use Rattle.body_model.specs.Scope.{Scope, body, continuing}
use Rattle.body_model.specs.Switches.{is_among}
use Rattle.body_model.specs.Targets.{targets}
use Rattle.body_model.specs.Grammar.{Derives}
use Rattle.body_model.proofs.Forward.{forward}
use Rattle.valid_model.specs.Definitions.{inst_at}
use Rattle.stage_model.proofs.CodeRuns.{due_of}
use Rattle.unit_model.specs.ConstantScalars.{is_behind}
use Rattle.change_model.specs.PlanRules.{is_test_of}
use Rattle.change_model.proofs.ConditionNames.{NamedIn, Inside, in_block, inside_at, target_names, none_tested}
use Rattle.change_model.proofs.LeftBlockNames.{StandsIn, inst_there, second_there}
use Rattle.change_model.proofs.LeftCuts.{LabelsOnce}
use Rattle.change_model.proofs.LeftEnds.{way as way_of}
use Rattle.change_model.proofs.LeftFronts.{OldBlock, old_block}
use Rattle.change_model.proofs.LeftScopes.{is_label_at, label_at, names}
use Rattle.change_model.proofs.LeftTargets.{Stands, due_stands}
use Rattle.change_model.proofs.LeftWays.{LoopWay, loop_way}
use Rattle.change_model.proofs.LoopNames.{LoopAt}

clash : {Q : Type 0} (b : Bool) → b ≡ true → b ≡ false → Q
clash true is isnt = cc
clash false is isnt = cc

-- the parts of the test on a branch
pub record TestOf (insts : List Inst) (merge place : ℕ) : Type 0 where
  pub is : (inst_at insts place).op ≡ op.BRANCH_CONDITIONAL
  pub unselected : is_behind op.SELECTION_MERGE insts place ≡ false
  pub among : is_among merge (targets (inst_at insts place)) ≡ true

pub test_of : (insts : List Inst) (merge place : ℕ) → is_test_of insts merge place ≡ true → TestOf insts merge place
test_of insts merge place is = by_tests ((inst_at insts place).op == op.BRANCH_CONDITIONAL) (is_behind op.SELECTION_MERGE insts place) (is_among merge (targets (inst_at insts place))) refl refl refl is
  where
    by_tests : (a b c : Bool) → (inst_at insts place).op == op.BRANCH_CONDITIONAL ≡ a → is_behind op.SELECTION_MERGE insts place ≡ b → is_among merge (targets (inst_at insts place)) ≡ c → (a && not b && c) ≡ true → TestOf insts merge place
    by_tests true false true p q r all = record { is = eqb-true (inst_at insts place).op op.BRANCH_CONDITIONAL p; unselected = q; among = r }
    by_tests false b c p q r all = cc
    by_tests true true c p q r all = cc
    by_tests true false false p q r all = cc

pub is_test : (insts : List Inst) (merge place : ℕ) → TestOf insts merge place → is_test_of insts merge place ≡ true
is_test insts merge place t = three ((inst_at insts place).op == op.BRANCH_CONDITIONAL) (is_behind op.SELECTION_MERGE insts place) (is_among merge (targets (inst_at insts place)))
    (ap (λ (n : ℕ). n == op.BRANCH_CONDITIONAL) t.is) t.unselected t.among
  where
    three : (a b c : Bool) → a ≡ true → b ≡ false → c ≡ true → (a && not b && c) ≡ true
    three a b c first second third = rw first (rw second (rw third refl))

module _ (insts : List Inst) (once : LabelsOnce insts) (d : Derives insts) (place : ℕ) (l : LoopAt insts d place) where
  abbrev block : OldBlock insts l.scope l.from (way.Loops l.head)
  block = old_block insts l.scope l.wanted l.from (way.Loops l.head) l.here l.is tt

  abbrev block_way : LoopWay l.scope (slice_index block.label.words 0) block.inst block.behind block.place l.head
  block_way = loop_way l.scope (slice_index block.label.words 0) block.inst block.behind block.place (way.Loops l.head)
      (way_of l.scope (slice_index block.label.words 0) block.inst block.behind block.place (way.Loops l.head) block.ends tt)

  pub header_before : l.from < place
  header_before = let e = block.place_is in let a = l.at in omega (arith, e, a)

  pub condition_at : place + 2 ≡ l.head.after
  condition_at = let e = block_way.after in let a = l.at in omega (arith, e, a)

  pub past_test : l.head.after < l.first
  past_test = (forward insts l.tested).forward

  pub past_body : l.first < l.second
  past_body = (forward insts l.within).forward

  pub past_step : l.second < l.third
  past_step = (forward insts l.step).forward

  pub past_rest : l.third < l.to
  past_rest = (forward insts l.rest).forward

  pub merge_op : (inst_at insts place).op ≡ op.LOOP_MERGE
  merge_op = ap (λ (n : ℕ). (inst_at insts n).op) l.at ∙ ap (λ (i : Inst). i.op) (inst_there insts l.scope l.from (way.Loops l.head) block) ∙ block_way.is

  pub merge_is : word_at 0 (inst_at insts place) ≡ l.head.merge
  merge_is = ap (λ (n : ℕ). word_at 0 (inst_at insts n)) l.at ∙ ap (λ (i : Inst). word_at 0 i) (inst_there insts l.scope l.from (way.Loops l.head) block) ∙ block_way.merge

  second_at : inst_at insts (place + 1) ≡ block_way.last
  second_at =
      ap (λ (n : ℕ). inst_at insts n) {x = place + 1} {y = block.place + 1} (let a = l.at in omega (arith, a))
      ∙ second_there insts l.scope l.from (way.Loops l.head) block block_way.last block_way.rest block_way.at

  pub branch_behind : (inst_at insts (place + 1)).op ≡ op.BRANCH
  branch_behind = ap (λ (i : Inst). i.op) second_at ∙ block_way.branch

  pub branch_to : word_at 0 (inst_at insts (place + 1)) ≡ l.head.test
  branch_to = ap (λ (i : Inst). word_at 0 i) second_at ∙ block_way.test

  pub test_stands : Stands insts l.head.test l.head.after
  test_stands = due_stands insts l.head.test l.head.after (due_of l.tested)

  pub merge_stands : Stands insts l.head.merge l.third
  merge_stands = due_stands insts l.head.merge l.third (due_of l.rest)

  -- the merge block stands at one place alone
  elsewhere : (from to : ℕ) → (l.third < from) ⊎ (to ≤ l.third) → StandsIn insts from to l.head.merge → ⊥
  elsewhere from to beside s =
      let e = once s.at l.third s.stands.is_label merge_stands.is_label (s.stands.own ∙ sym merge_stands.own) in
      let low = s.low in
      let high = s.high in
      elim beside [ inl before ↦ omega (arith, e, low, before) | inr behind ↦ omega (arith, e, high, behind) ]

  pub no_inner_loop : (at : ℕ) → l.head.after ≤ at → at < l.first → (inst_at insts at).op ≡ op.LOOP_MERGE → ⊥
  no_inner_loop at low high is = (inside_at insts l.tested at low high).no_loop refl is

  -- a label of the condition sequence is its first or named in it before
  pub condition_entered : (at : ℕ) → l.head.after ≤ at → at < l.first → is_label_at insts at ≡ true → (at ≡ l.head.after) ⊎ NamedIn insts l.head.after at (label_at insts at)
  condition_entered at low high is = (inside_at insts l.tested at low high).entered is

  -- the one branch that leads to the merge block without a merge instruction
  pub only_test : (at : ℕ) → is_test_of insts l.head.merge at ≡ true → at + 1 ≡ l.first
  only_test at test = elim (cases_lt at l.from) [
    | inl before ↦ absurd (outside (inl before))
    | inr low ↦ elim (cases_lt at l.to) [
      | inr past ↦ absurd (outside (inr past))
      | inl high ↦ elim (cases_lt at l.head.after) [
        | inl first ↦ absurd (in_header low first)
        | inr second ↦ elim (cases_lt at l.first) [
          | inl in_test ↦ in_condition second in_test
          | inr third ↦ elim (cases_lt at l.second) [
            | inl in_body ↦ absurd (none_in (body l.scope l.head.merge l.head.next) l.first l.second refl (let r = past_step in omega (arith, r)) (inside_at insts l.within at third in_body))
            | inr fourth ↦ elim (cases_lt at l.third) [
              | inl in_step ↦ absurd (none_in (continuing l.scope l.head.header) l.second l.third refl (omega arith) (inside_at insts l.step at fourth in_step))
              | inr fifth ↦ absurd (in_rest fifth high)
            ]
          ]
        ]
      ]
    ]
  ]
    where
      t : TestOf insts l.head.merge at
      t = test_of insts l.head.merge at test

      named : names insts at (label_at insts l.third) ≡ true
      named = target_names insts at (label_at insts l.third) (ap (λ (n : ℕ). is_among n (targets (inst_at insts at))) merge_stands.own ∙ t.among)

      outside : (at < l.from) ⊎ (l.to ≤ at) → ⊥
      outside beside =
          let h = header_before in
          let c = condition_at in
          let p = past_test in
          let q = past_body in
          let r = past_step in
          clash (names insts at (label_at insts l.third)) named (l.placed.entered at l.third beside (omega (arith, h, c, p, q, r)) past_rest merge_stands.is_label)

      in_header : l.from ≤ at → at < l.head.after → ⊥
      in_header low high = elim ((in_block insts l.scope None l.from 0 (way.Loops l.head) block tt tt at low high).test t.is t.unselected l.head.merge t.among) [
        | inl at_end ↦ (let e = at_end.0 in omega (arith, e))
        | inr s ↦ (let h = s.high in omega (arith, h))
      ]

      in_condition : l.head.after ≤ at → at < l.first → at + 1 ≡ l.first
      in_condition low high = elim ((inside_at insts l.tested at low high).test t.is t.unselected l.head.merge t.among) [
        | inl at_end ↦ at_end.0
        | inr s ↦ absurd (elsewhere (at + 1) l.first (inr (let q = past_body in let r = past_step in omega (arith, q, r))) s)
      ]

      none_in : (part : Scope) (from to : ℕ) → part.test ≡ None → to ≤ l.third → Inside insts part None from to at → ⊥
      none_in part from to none most i = elim (i.test t.is t.unselected l.head.merge t.among) [
        | inl at_end ↦ none_tested part l.head.merge none at_end.1
        | inr s ↦ elsewhere (at + 1) to (inr most) s
      ]

      in_rest : l.third ≤ at → at < l.to → ⊥
      in_rest low high = elim ((inside_at insts l.rest at low high).test t.is t.unselected l.head.merge t.among) [
        | inl at_end ↦ (let h = header_before in let c = condition_at in let p = past_test in let q = past_body in let r = past_step in
            l.placed.left l.head.merge (inr at_end.1) l.third (omega (arith, h, c, p, q, r)) past_rest merge_stands.is_label merge_stands.own)
        | inr s ↦ elsewhere (at + 1) l.to (inl (omega (arith, low))) s
      ]
