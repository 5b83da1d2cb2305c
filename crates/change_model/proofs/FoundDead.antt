-- The body and the continue sequence of a loop that is left at once are dead in the plan that one pass finds.
use Rattle.std.proofs.Common.{◌≡◌, ℕ, ◌+◌, ◌-◌, ◌<◌, ◌≤◌, ◌⊎◌, inl, inr, Bool, true, false, ◌==◌, ◌||◌, ◌&&◌, if◌then◌else◌, List, [], ◌∷◌, refl, ap, sym, ◌∙◌, arith, Option, None, Some}
use Rattle.std.proofs.lemmas.Bool.{cases_lt, eqb-true}
use Rattle.spirv_model.specs.declared.module.Inst.{Inst}
use Rattle.spirv_model.specs.declared.op.TheConstants as op
use Rattle.spirv_model.specs.Operands.{word_at}
use Rattle.body_model.specs.declared.block_end.BlockEnd.TheVariants as way
use Rattle.body_model.specs.Due.{IsDue}
use Rattle.body_model.specs.Scope.{condition}
use Rattle.body_model.specs.Switches.{is_among}
use Rattle.body_model.specs.Targets.{targets}
use Rattle.body_model.specs.Grammar.{Derives}
use Rattle.body_model.proofs.Forward.{sound_at}
use Rattle.valid_model.specs.Definitions.{inst_at}
use Rattle.check_model.specs.Intervals.{Interval, inside}
use Rattle.stage_model.proofs.CodeRuns.{due_of, one_name}
use Rattle.stage_model.proofs.Exits.{condition_exit}
use Rattle.stage_model.proofs.WholeBlocks.{block_at as whole_block}
use Rattle.change_model.specs.declared.fate.Fate.{Fate}
use Rattle.change_model.specs.declared.fate.Fate.TheVariants as fate
use Rattle.change_model.specs.Plans.{Plan, is_dead, targets_left, leads_from}
use Rattle.change_model.specs.PlanRules.{merge_labels, stays, still_names}
use Rattle.change_model.specs.Passes.{opens}
use Rattle.change_model.proofs.BlockEntries.{merged_by}
use Rattle.change_model.proofs.BranchEnds.{NoneLeads, at_end}
use Rattle.change_model.proofs.ConditionNames.{loop_place, target_names}
use Rattle.change_model.proofs.FoundConditions.{test_goes}
use Rattle.change_model.proofs.FoundGoes.{still_leads, still_named, dead_names}
use Rattle.change_model.proofs.FoundHeld.{loop_within, leaves_test, left_there, opened_left}
use Rattle.change_model.proofs.FoundLabels.{unnamed_dead, all_dead}
use Rattle.change_model.proofs.FoundOrigins.{dead_fate, alive_fate, alive_loop}
use Rattle.change_model.proofs.FoundPlans.{Found}
use Rattle.change_model.proofs.LeftBlockNames.{StandsIn, by_merge}
use Rattle.change_model.proofs.LeftFronts.{OldBlock, old_block}
use Rattle.change_model.proofs.LeftLeaves.{block_names, block_targets, names_in}
use Rattle.change_model.proofs.LeftMerges.{merges_in}
use Rattle.change_model.proofs.LeftPlaced.{due_label}
use Rattle.change_model.proofs.LeftPlacedLoops as placed_loop
use Rattle.change_model.proofs.LeftPlacedWhole.{labels_once}
use Rattle.change_model.proofs.LeftQuiet.{NoWay, Unnamed, unnamed_inside}
use Rattle.change_model.proofs.LeftScopes.{is_label_at, label_at, names, StandsNot}
use Rattle.change_model.proofs.LeftSelections.{block_selection}
use Rattle.change_model.proofs.LeftTargets.{due_stands}
use Rattle.change_model.proofs.LoopNames.{LoopAt}
use Rattle.change_model.proofs.LoopTests.{header_before, condition_at, past_test, past_body, past_step, past_rest, merge_op, merge_is}

clash : {Q : Type 0} (b : Bool) → b ≡ true → b ≡ false → Q
clash true is isnt = cc
clash false is isnt = cc

refuted : (b : Bool) → (b ≡ true → ⊥) → b ≡ false
refuted true isnt = absurd (isnt refl)
refuted false isnt = refl

test_label : {Q : Type 0} (b : Bool) → (b ≡ true → Q) → (b ≡ false → Q) → Q
test_label true f g = f refl
test_label false f g = g refl

none_some : {Q X : Type 0} {x : X} → ◌≡◌ {A = Option X} None (Some x) → Q
none_some same = cc

-- what names no label leads to none
pub none_named : (insts : List Inst) (label : ℕ) (is : List Interval) → Unnamed insts label is → NoneLeads insts label is
none_named insts label [] none = tt
none_named insts label (i ∷ is) none =
    (λ place low high. refuted (is_among label (targets (inst_at insts place))) (λ among. clash (names insts place label) (target_names insts place label among) (none.0 place low high)), none_named insts label is none.1)

-- how an instruction still names a label
pub still_parts : (plan : Plan) (insts : List Inst) (label place : ℕ) → still_names plan insts label place ≡ true
    → (leads_from plan insts label place ≡ true) ⊎ ((stays (plan.fate place) ≡ true) × (is_among label (merge_labels (inst_at insts place)) ≡ true))
still_parts plan insts label place still = by_tests (leads_from plan insts label place) (stays (plan.fate place)) (is_among label (merge_labels (inst_at insts place))) still
  where
    by_tests : (a b c : Bool) → (a || (b && c)) ≡ true → (a ≡ true) ⊎ ((b ≡ true) × (c ≡ true))
    by_tests true b c still = inl refl
    by_tests false true true still = inr (refl, refl)
    by_tests false true false still = cc
    by_tests false false c still = cc

-- where it goes to one label it leads to that
pub goes_label : (plan : Plan) (insts : List Inst) (label to place : ℕ) → plan.fate place ≡ fate.Goes to → leads_from plan insts label place ≡ true → to ≡ label
goes_label plan insts label to place is leads = by_test (to == label) refl (sym (ap (λ (what : Fate). is_among label (targets_left what (inst_at insts place))) is) ∙ leads)
  where
    by_test : (b : Bool) → to == label ≡ b → (b || false) ≡ true → to ≡ label
    by_test true same some = eqb-true to label same
    by_test false differ some = cc

module _ (f : Found) (place : ℕ) (l : LoopAt f.words.insts f.valid.derivation place) (opened : opens f.words.insts place ≡ true) (alive : is_dead (f.plan.fate place) ≡ false) where
  abbrev insts : List Inst
  insts = f.words.insts

  abbrev d : Derives f.words.insts
  d = f.valid.derivation

  is : (inst_at insts place).op ≡ op.LOOP_MERGE
  is = merge_op insts (labels_once f.words f.valid) d place l

  abbrev merge : ℕ
  merge = word_at 0 (inst_at insts place)

  abbrev block : OldBlock insts l.scope l.from (way.Loops l.head)
  block = old_block insts l.scope l.wanted l.from (way.Loops l.head) l.here l.is tt

  record Order : Type 0 where
    low : d.before + 1 ≤ l.from
    header : l.from < l.head.after
    test : l.head.after < l.first
    body : l.first < l.second
    step : l.second < l.third
    rest : l.third < l.to
    high : l.to ≤ d.after

  order : Order
  order =
      let once = labels_once f.words f.valid in
      let h = header_before insts once d place l in
      let c = condition_at insts once d place l in
      record {
        low = l.placed.low;
        header = omega (arith, h, c);
        test = past_test insts once d place l;
        body = past_body insts once d place l;
        step = past_step insts once d place l;
        rest = past_rest insts once d place l;
        high = l.placed.high;
      }

  skips : f.plan.fate place ≡ fate.Skips
  skips = by_test (is_dead (f.plan.fate (place - 1))) refl
    where
      no_label : is_label_at insts place ≡ false
      no_label = ap (λ (n : ℕ). n == op.LABEL) is

      by_test : (b : Bool) → is_dead (f.plan.fate (place - 1)) ≡ b → f.plan.fate place ≡ fate.Skips
      by_test true dead = let w = loop_within f place is in let low = w.low in clash (is_dead (f.plan.fate place)) (ap is_dead (dead_fate f place (omega (arith, low)) w.high no_label dead)) alive
      by_test false living =
          let w = loop_within f place is in
          let low = w.low in
          alive_fate f place (omega (arith, low)) w.high no_label living ∙ alive_loop f place is ∙ ap (λ (b : Bool). if b then fate.Skips else fate.Stays) opened

  -- a label that is due elsewhere is another one
  other_label : {Q : Type 0} (at there known : ℕ) → is_label_at insts at ≡ true → IsDue insts (Some known) there → label_at insts at ≡ known → (at ≡ there → ⊥) → Q
  other_label at there known label due same differ = let s = due_stands insts known there due in absurd (differ (labels_once f.words f.valid at there label s.is_label (same ∙ sym s.own)))

  not_within : {Q : Type 0} (at low high : ℕ) → is_label_at insts at ≡ true → high ≤ at → StandsIn insts low high (label_at insts at) → Q
  not_within at low high label past s =
      let e = labels_once f.words f.valid s.at at s.stands.is_label label s.stands.own in
      let h = s.high in
      absurd (omega (arith, e, h, past))

  before_loop : {Q : Type 0} (at from : ℕ) → is_label_at insts at ≡ true → l.from < at → at < l.to → from < l.from → still_names f.plan insts (label_at insts at) from ≡ true → Q
  before_loop at from label behind before less still = clash (names insts from (label_at insts at)) (still_named f from (label_at insts at) still) (l.placed.entered from at (inl less) behind before label)

  header_leads : {Q : Type 0} (at from : ℕ) → is_label_at insts at ≡ true → (at ≡ l.head.after → ⊥) → l.from ≤ from → from < l.head.after → leads_from f.plan insts (label_at insts at) from ≡ true → Q
  header_leads at from label differ low high leads =
      let b = whole_block insts l.scope l.wanted l.from (way.Loops l.head) l.here l.is tt in
      let among = block_targets insts l.scope l.from (way.Loops l.head) b (sound_at insts l.scope l.from (way.Loops l.head) l.is).0.within from (label_at insts at) low high (still_leads f from (label_at insts at) leads) in
      other_label at l.head.after l.head.test label (due_of l.tested) (one_name (label_at insts at) l.head.test _ b.ends.0 among) differ

  -- ---- the body

  inner_is : is_label_at insts l.first ≡ true
  inner_is = due_label insts (Some l.inner) l.first (due_of l.within)

  inner_not : StandsNot insts l.head.after l.first (label_at insts l.first)
  inner_not at low high label own = let e = labels_once f.words f.valid at l.first label inner_is own in omega (arith, e, high)

  no_way : NoWay (condition l.scope l.head.merge) (label_at insts l.first)
  no_way = record { leave = λ same. none_some same; exits = λ exits same one. none_some same }

  test_leads : {Q : Type 0} (from : ℕ) → l.head.after ≤ from → from < l.first → leads_from f.plan insts (label_at insts l.first) from ≡ true → Q
  test_leads from low high leads =
      let o = order in
      let b = o.body in
      let s = o.step in
      let last = at_end insts (label_at insts l.first) l.tested (none_named insts (label_at insts l.first) (inside l.tested) (unnamed_inside insts (label_at insts l.first) l.tested no_way inner_not)) inner_not from low high
      (still_leads f from (label_at insts l.first) leads) in
      let tests = leaves_test f from merge (left_there f place l (opened_left f place opened) from last) in
      let to = goes_label f.plan insts (label_at insts l.first) merge from (test_goes f place is opened alive from tests) leads in
      other_label l.first l.third l.head.merge inner_is (due_of l.rest) (sym to ∙ merge_is insts (labels_once f.words f.valid) d place l) (λ same. omega (arith, same, b, s))

  inner_unnamed : (from : ℕ) → from < l.first → still_names f.plan insts (label_at insts l.first) from ≡ false
  inner_unnamed from less = refuted (still_names f.plan insts (label_at insts l.first) from) (λ still.
      let o = order in
      let h = o.header in
      let t = o.test in
      let b = o.body in
      let s = o.step in
      let r = o.rest in
      elim (cases_lt from l.from) [
        | inl before ↦ before_loop l.first from inner_is (omega (arith, h, t)) (omega (arith, b, s, r)) before still
        | inr low ↦ elim (cases_lt from l.head.after) [
          | inl in_header ↦ block_names {Q = λ label. label ≡ label_at insts l.first → ⊥} insts l.scope l.wanted l.from (way.Loops l.head) l.here l.is tt (sound_at insts l.scope l.from (way.Loops l.head) l.is).0.within
              (λ b label among same. other_label l.first l.head.after l.head.test inner_is (due_of l.tested) (sym same ∙ one_name label l.head.test _ b.ends.0 among) (λ equal. omega (arith, equal, t)))
              (λ label merged same. elim merged [
                | inl merges ↦ other_label l.first l.third l.head.merge inner_is (due_of l.rest) (sym same ∙ merges) (λ equal. omega (arith, equal, b, s))
                | inr continues ↦ other_label l.first l.second l.head.next inner_is (due_of l.step) (sym same ∙ continues) (λ equal. omega (arith, equal, b))
              ]) from (label_at insts l.first) low in_header (still_named f from (label_at insts l.first) still) refl
          | inr late ↦ elim (still_parts f.plan insts (label_at insts l.first) from still) [
            | inl leads ↦ test_leads from late less leads
            | inr merges ↦ not_within l.first (from + 1) l.first inner_is (omega arith) (merges_in insts l.tested from (label_at insts l.first) late less (by_merge merges.1))
          ]
        ]
      ])

  pub body_dead : (at : ℕ) → l.first ≤ at → at < l.second → is_dead (f.plan.fate at) ≡ true
  body_dead at low high =
      let o = order in
      let a = o.low in
      let h = o.header in
      let t = o.test in
      let b = o.body in
      let s = o.step in
      let r = o.rest in
      let z = o.high in
      let p = placed_loop.placed_body insts (labels_once f.words f.valid) d l.scope l.wanted l.next l.from l.to l.head l.inner l.first l.second l.third l.here l.is l.tested l.within l.step l.rest l.placed in
      all_dead f l.first l.second (omega (arith, a, h, t)) (omega (arith, s, r, z)) (λ from there less behind before label. p.entered from there (inl less) behind before label)
      (unnamed_dead f l.first (omega (arith, a, h, t)) (omega (arith, b, s, r, z)) inner_is inner_unnamed) at low high

  -- ---- the continue sequence

  next_is : is_label_at insts l.second ≡ true
  next_is = due_label insts (Some l.head.next) l.second (due_of l.step)

  header_merges : {Q : Type 0} (from : ℕ) → l.from ≤ from → from < l.head.after → stays (f.plan.fate from) ≡ true → is_among (label_at insts l.second) (merge_labels (inst_at insts from)) ≡ true → Q
  header_merges from low high stay among = elim (merged_by (inst_at insts from) (label_at insts l.second) among) [
    | inl s ↦ absurd (block_selection insts l.scope l.from (way.Loops l.head) block tt from (label_at insts l.second) low high (record { selection = s.0; own = s.1 })).0
    | inr loop ↦
        let same : from ≡ place = (loop_place insts l.scope None l.from 0 (way.Loops l.head) block tt from low high loop).1 ∙ sym l.at in
        clash (stays (f.plan.fate from)) stay (ap (λ (n : ℕ). stays (f.plan.fate n)) same ∙ ap stays skips)
  ]

  next_unnamed : (from : ℕ) → from < l.second → still_names f.plan insts (label_at insts l.second) from ≡ false
  next_unnamed from less = refuted (still_names f.plan insts (label_at insts l.second) from) (λ still.
      let o = order in
      let h = o.header in
      let t = o.test in
      let b = o.body in
      let s = o.step in
      let r = o.rest in
      let label = label_at insts l.second in
      elim (cases_lt from l.from) [
        | inl before ↦ before_loop l.second from next_is (omega (arith, h, t, b)) (omega (arith, s, r)) before still
        | inr low ↦ elim (cases_lt from l.head.after) [
          | inl in_header ↦ elim (still_parts f.plan insts label from still) [
            | inl leads ↦ header_leads l.second from next_is (λ same. omega (arith, same, t, b)) low in_header leads
            | inr merges ↦ header_merges from low in_header merges.0 merges.1
          ]
          | inr late ↦ elim (cases_lt from l.first) [
            | inl in_test ↦ elim (names_in insts l.tested from label late in_test (still_named f from label still)) [
              | inl there ↦ not_within l.second l.head.after l.first next_is (omega (arith, b)) there
              | inr may ↦ test_label (label == l.head.merge)
                  (λ same. other_label l.second l.third l.head.merge next_is (due_of l.rest) (eqb-true label l.head.merge same) (λ equal. omega (arith, equal, s)))
                  (λ differs. other_label l.second l.first l.inner next_is (due_of l.within) (condition_exit l.scope l.head.merge l.inner label may differs) (λ equal. omega (arith, equal, b)))
            ]
            | inr past ↦ clash (still_names f.plan insts label from) still (dead_names f from label (body_dead from past less))
          ]
        ]
      ])

  pub step_dead : (at : ℕ) → l.second ≤ at → at < l.third → is_dead (f.plan.fate at) ≡ true
  step_dead at low high =
      let o = order in
      let a = o.low in
      let h = o.header in
      let t = o.test in
      let b = o.body in
      let s = o.step in
      let r = o.rest in
      let z = o.high in
      let p = placed_loop.placed_step insts (labels_once f.words f.valid) d l.scope l.wanted l.next l.from l.to l.head l.inner l.first l.second l.third l.here l.is l.tested l.within l.step l.rest l.placed in
      all_dead f l.second l.third (omega (arith, a, h, t, b)) (omega (arith, r, z)) (λ from there less behind before label. p.entered from there (inl less) behind before label)
      (unnamed_dead f l.second (omega (arith, a, h, t, b)) (omega (arith, s, r, z)) next_is next_unnamed) at low high
