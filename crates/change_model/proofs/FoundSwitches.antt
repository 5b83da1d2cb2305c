-- Where the OpSelectionMerge of an OpSwitch doesn't stay, one instruction is left before its merge block that leads there.
use Rattle.std.proofs.Common.{◌≡◌, ℕ, suc, ◌+◌, ◌-◌, ◌<◌, ◌≤◌, ◌⊎◌, inl, inr, Bool, true, false, not, ◌==◌, ◌||◌, ◌&&◌, if◌then◌else◌, List, [], ◌∷◌, length, slice_index, refl, ap, sym, ◌∙◌, subst, arith, Option, None, Some}
use Rattle.std.specs.List.{list_any}
use Rattle.std.proofs.lemmas.Bool.{cases_lt, eqb-true, eq-eqb}
use Rattle.spirv_model.specs.declared.module.Inst.{Inst}
use Rattle.spirv_model.specs.declared.op.TheConstants as op
use Rattle.spirv_model.specs.Operands.{word_at}
use Rattle.body_model.specs.declared.block_end.BlockEnd.TheVariants as way
use Rattle.body_model.specs.Scope.{Scope}
use Rattle.body_model.specs.Switches.{is_among, targets_of, labels_of}
use Rattle.body_model.specs.Grammar.{Sequence, Arms, no_arm, arm_behind, Derives}
use Rattle.body_model.proofs.Forward.{sound_at, forward, arms_forward}
use Rattle.valid_model.specs.Definitions.{inst_at}
use Rattle.check_model.specs.Intervals.{Interval, around, inside, of_arms, intervals_of}
use Rattle.stage_model.proofs.CodeRuns.{due_of}
use Rattle.stage_model.proofs.WholeBlocks.{block_at as whole_block}
use Rattle.unit_model.specs.ConstantScalars.{is_left_from_within}
use Rattle.change_model.specs.declared.fate.Fate.{Fate}
use Rattle.change_model.specs.declared.fate.Fate.TheVariants as fate
use Rattle.change_model.specs.Plans.{is_dead, targets_left, leads_from}
use Rattle.change_model.specs.Passes.{has_one_way, chosen_way, switched_way, way_behind}
use Rattle.change_model.proofs.ArmEntries.{arm_begins}
use Rattle.change_model.proofs.ArmExits.{unleft_arm}
use Rattle.change_model.proofs.BlockEntries.{Begins, SwitchTo, outside}
use Rattle.change_model.proofs.BranchEnds.{leads_last, at_end}
use Rattle.change_model.proofs.ConditionNames.{target_names, switch_targets}
use Rattle.change_model.proofs.FoundDead.{goes_label}
use Rattle.change_model.proofs.FoundGoes.{still_leads}
use Rattle.change_model.proofs.FoundLabels.{all_dead}
use Rattle.change_model.proofs.FoundMerges.{part_alive, branch_target}
use Rattle.change_model.proofs.FoundPlans.{Found}
use Rattle.change_model.proofs.FoundSelections.{block_dead}
use Rattle.change_model.proofs.LeftBlockNames.{StandsIn, stands_wider, inst_there, second_there}
use Rattle.change_model.proofs.LeftEnds.{way as way_of}
use Rattle.change_model.proofs.LeftFronts.{OldBlock, old_block}
use Rattle.change_model.proofs.LeftHeadWays.{PicksWay, head_way}
use Rattle.change_model.proofs.LeftParts.{any_left, any_right}
use Rattle.change_model.proofs.LeftPlaced.{due_label}
use Rattle.change_model.proofs.LeftPlacedArms.{AreArmsPlaced, placed_arms}
use Rattle.change_model.proofs.LeftPlacedWhole.{labels_once}
use Rattle.change_model.proofs.LeftScopes.{is_label_at, label_at, StandsNot, Placed}
use Rattle.change_model.proofs.LeftTargets.{Stands, due_stands}

-- an OpSwitch without literals has one target
one_target : (words : List ℕ) → length words == 2 ≡ true → targets_of words ≡ slice_index words 1 ∷ []
one_target [] two = cc
one_target (a ∷ []) two = cc
one_target (a ∷ b ∷ []) two = refl
one_target (a ∷ b ∷ c ∷ words) two = absurd (longer (length words) two)
  where
    longer : (n : ℕ) → suc (suc (suc n)) == 2 ≡ true → ⊥
    longer n two = let e = eqb-true (suc (suc (suc n))) 2 two in omega (arith, e)

one_of : (a label : ℕ) → is_among label (a ∷ []) ≡ true → a ≡ label
one_of a label among = by_test (a == label) refl among
  where
    by_test : (b : Bool) → a == label ≡ b → (b || false) ≡ true → a ≡ label
    by_test true is among = eqb-true a label is
    by_test false is among = cc

module _ (f : Found) (place : ℕ) (s : SwitchTo f.words.insts f.valid.derivation place) where
  abbrev insts : List Inst
  insts = f.words.insts

  abbrev d : Derives f.words.insts
  d = f.valid.derivation

  abbrev block : OldBlock insts s.scope s.from (way.Picks s.head)
  block = old_block insts s.scope s.wanted s.from (way.Picks s.head) s.here s.is tt

  abbrev block_way : PicksWay s.scope block.inst block.behind block.place s.head
  block_way = head_way s.scope (slice_index block.label.words 0) block.inst block.behind block.place (way.Picks s.head) (way_of s.scope (slice_index block.label.words 0) block.inst block.behind block.place (way.Picks s.head) block.ends tt)

  record Order : Type 0 where
    low : d.before + 1 ≤ s.from
    block_low : s.from < block.place
    after : s.head.after ≡ block.place + 2
    fits : s.head.after ≤ length insts
    arms : s.head.after ≤ place
    rest : place < s.to
    high : s.to ≤ d.after

  order : Order
  order =
      let e = block.place_is in
      record {
        low = s.placed.low;
        block_low = omega (arith, e);
        after = block_way.after;
        fits = (sound_at insts s.scope s.from (way.Picks s.head) s.is).0.within;
        arms = arms_forward insts s.arms;
        rest = (forward insts s.rest).forward;
        high = s.placed.high;
      }

  abbrev pub switch_place : ℕ
  switch_place = block.place

  pub switch_op : (inst_at insts switch_place).op ≡ op.SELECTION_MERGE
  switch_op = ap (λ (i : Inst). i.op) (inst_there insts s.scope s.from (way.Picks s.head) block) ∙ block_way.is

  branch_op : (inst_at insts (switch_place + 1)).op ≡ op.SWITCH
  branch_op = ap (λ (i : Inst). i.op) (second_there insts s.scope s.from (way.Picks s.head) block block_way.last block_way.rest block_way.at) ∙ block_way.switch

  stands : Stands insts s.head.merge place
  stands = due_stands insts s.head.merge place (due_of s.rest)

  pub switch_merge : word_at 0 (inst_at insts switch_place) ≡ label_at insts place
  switch_merge = ap (λ (i : Inst). word_at 0 i) (inst_there insts s.scope s.from (way.Picks s.head) block) ∙ sym block_way.merge ∙ sym stands.own

  pub switch_low : d.before < switch_place
  switch_low = let o = order in let l = o.low in let b = o.block_low in omega (arith, l, b)

  pub switch_before : switch_place < place
  switch_before = let o = order in let a = o.after in let p = o.arms in omega (arith, a, p)

  -- where it is dead the merge block is
  pub switch_dead : is_dead (f.plan.fate switch_place) ≡ true → is_dead (f.plan.fate place) ≡ true
  switch_dead dead =
      let o = order in
      let l = o.low in
      let b = o.block_low in
      let a = o.after in
      let p = o.arms in
      let r = o.rest in
      let h = o.high in
      all_dead f s.from s.to l h (λ outer at before behind within is. s.placed.entered outer at (inl before) behind within is)
      (sym (block_dead f s.scope s.from (way.Picks s.head) block l (omega (arith, a, p, r, h)) (ap (λ (n : ℕ). n == op.LABEL) block_way.is)) ∙ dead) place (omega (arith, b, a, p)) r

  -- ---- it goes to one label, and isn't left from within

  module _ (to known : ℕ) (goes_there : f.plan.fate (switch_place + 1) ≡ fate.Goes to) (way_there : way_behind (intervals_of d) insts f.plan (switch_place + 1) ≡ Some known) where
    by_parts : (a b c e : Bool) (first second : Option ℕ) → a ≡ false → (if a then first else if b && (c && not e) then second else None) ≡ Some known → (c ≡ true) × (e ≡ false)
    by_parts false true true false first second isnt way = (refl, refl)
    by_parts true b c e first second isnt way = cc
    by_parts false false c e first second isnt way = cc
    by_parts false true false e first second isnt way = cc
    by_parts false true true true first second isnt way = cc

    parts : (has_one_way (inst_at insts (switch_place + 1)) ≡ true) × (is_left_from_within (intervals_of d) insts (word_at 1 (inst_at insts (switch_place + 1))) (word_at 0 (inst_at insts (switch_place + 1 - 1))) ≡ false)
    parts =
        let inst = inst_at insts (switch_place + 1) in
        by_parts (inst.op == op.BRANCH_CONDITIONAL) (inst.op == op.SWITCH) (has_one_way inst) (is_left_from_within (intervals_of d) insts (word_at 1 inst) (word_at 0 (inst_at insts (switch_place + 1 - 1))))
        (chosen_way f.plan insts (switch_place + 1)) (switched_way f.plan insts (switch_place + 1)) (ap (λ (n : ℕ). n == op.BRANCH_CONDITIONAL) branch_op) way_there

    default_is : word_at 1 (inst_at insts (switch_place + 1)) ≡ to
    default_is =
        let inst = inst_at insts (switch_place + 1) in
        one_of (word_at 1 inst) to
        (sym (ap (is_among to) (switch_targets inst branch_op ∙ one_target inst.words parts.0))
        ∙ still_leads f (switch_place + 1) to (ap (λ (what : Fate). is_among to (targets_left what inst)) goes_there ∙ ap (λ (b : Bool). b || false) (eq-eqb to to refl)))

    unleft : is_left_from_within (intervals_of d) insts to (label_at insts place) ≡ false
    unleft =
        let e : switch_place + 1 - 1 ≡ switch_place = omega arith in
        ap (λ (n : ℕ). is_left_from_within (intervals_of d) insts n (label_at insts place)) (sym default_is)
        ∙ ap (is_left_from_within (intervals_of d) insts (word_at 1 (inst_at insts (switch_place + 1)))) (sym (ap (λ (n : ℕ). word_at 0 (inst_at insts n)) e ∙ switch_merge)) ∙ parts.1

    -- ---- an arm

    record LastLeads (low high from : ℕ) : Type 0 where
      last : from + 1 ≡ high
      there : Stands insts to low

    not_in : (low high : ℕ) → high ≤ place → StandsNot insts low high (label_at insts place)
    not_in low high most at least less is own = let e = labels_once f.words f.valid at place is stands.is_label own in omega (arith, e, less, most)

    arm_last : {scope : Scope} {own low high : ℕ} (a : Sequence insts scope (Some own) low high None) → Placed insts d scope None low high (inside a) → (is_label_at insts low ≡ true → Begins insts s.head.after low)
        → ((test : Interval → Bool) → list_any test (around low high (inside a)) ≡ true → list_any test (intervals_of d) ≡ true) → s.head.after ≤ low → high ≤ place → (from : ℕ) → low ≤ from → from < high
        → leads_from f.plan insts (label_at insts place) from ≡ true → LastLeads low high from
    arm_last {scope} {own} {low} {high} a p begins among down up from least less leads =
        let o = order in
        let l = o.low in
        let b = o.block_low in
        let e = o.after in
        let r = o.rest in
        let h = o.high in
        let label = due_label insts (Some own) low (due_of a) in
        let alive = part_alive f scope None low high (inside a) p from (label_at insts place) least less leads in
        let target = branch_target f (switch_place + 1) low to (subst (λ (n : ℕ). Begins insts n low) (omega (arith, e)) (begins label)) (omega (arith, l, b, e, down)) (omega (arith, least, less, up, r, h)) label alive goes_there in
        record {
          last = at_end insts (label_at insts place) a (unleft_arm insts (intervals_of d) (label_at insts place) a label among (ap (λ (n : ℕ). is_left_from_within (intervals_of d) insts n (label_at insts place)) (sym target) ∙ unleft)) (not_in low high up) from
              least less (still_leads f from (label_at insts place) leads);
          there = record { is_label = label; own = sym target };
        }

    -- ---- the arms

    abbrev Embeds : List Interval → Type 0
    Embeds is = (test : Interval → Bool) → list_any test is ≡ true → list_any test (intervals_of d) ≡ true

    abbrev AllBegin : Type 0
    AllBegin = (part : List ℕ) (between : ℕ) → Arms insts s.scope s.head.merge (labels_of insts s.head) (labels_of insts s.head) s.head.after part between → is_label_at insts between ≡ true → s.head.after ≤ between → between < place
        → Begins insts s.head.after between

    arms_stand : {left : List ℕ} {high : ℕ} (a : Arms insts s.scope s.head.merge (labels_of insts s.head) (labels_of insts s.head) s.head.after left high) → AreArmsPlaced insts d s.head.after a → Embeds (of_arms a) → high ≤ place → (from : ℕ) → s.head.after ≤ from
        → from < high → leads_from f.plan insts (label_at insts place) from ≡ true → StandsIn insts s.head.after high to
    arms_stand (no_arm same none) p embeds up from least less leads = absurd (omega (arith, none, least, less))
    arms_stand {high = high} (arm_behind own between before arms among is sequence) p embeds up from least less leads =
        let g = (forward insts sequence).forward in
        let b = arms_forward insts arms in
        elim (cases_lt from between) [
          | inl early ↦ stands_wider insts s.head.after between s.head.after high to (omega arith) (omega (arith, g))
              (arms_stand arms p.0 (λ test some. embeds test (any_left test (of_arms arms) (around between high (inside sequence)) some)) (omega (arith, g, up)) from least early leads)
          | inr late ↦
              let l = arm_last sequence p.1.placed (λ label. arm_begins insts (labels_once f.words f.valid) d place s before between arms label b (omega (arith, g, up)))
              (λ test some. embeds test (any_right test (of_arms arms) (around between high (inside sequence)) some)) b up from late less leads in
              record { at = between; low = b; high = g; stands = l.there }
        ]

    arms_one : {left : List ℕ} {high : ℕ} (a : Arms insts s.scope s.head.merge (labels_of insts s.head) (labels_of insts s.head) s.head.after left high) → AreArmsPlaced insts d s.head.after a → Embeds (of_arms a) → high ≤ place → (from other : ℕ) → s.head.after ≤ from
        → from < high → s.head.after ≤ other → other < high → leads_from f.plan insts (label_at insts place) from ≡ true → leads_from f.plan insts (label_at insts place) other ≡ true → from ≡ other
    arms_one (no_arm same none) p embeds up from other least less also within leads leads' = absurd (omega (arith, none, least, less))
    arms_one {high = high} (arm_behind own between before arms among is sequence) p embeds up from other least less also within leads leads' =
        let g = (forward insts sequence).forward in
        let b = arms_forward insts arms in
        let earlier : Embeds (of_arms arms) = λ test some. embeds test (any_left test (of_arms arms) (around between high (inside sequence)) some) in
        let here : (n : ℕ) → between ≤ n → n < high → leads_from f.plan insts (label_at insts place) n ≡ true → LastLeads between high n =
        λ n late before_end leads. arm_last sequence p.1.placed (λ label. arm_begins insts (labels_once f.words f.valid) d place s before between arms label b (omega (arith, g, up)))
        (λ test some. embeds test (any_right test (of_arms arms) (around between high (inside sequence)) some)) b up n late before_end leads in
        let front : (n : ℕ) → s.head.after ≤ n → n < between → leads_from f.plan insts (label_at insts place) n ≡ true → StandsIn insts s.head.after between to =
        λ n low early leads. arms_stand arms p.0 earlier (omega (arith, g, up)) n low early leads in
        let apart : StandsIn insts s.head.after between to → Stands insts to between → ⊥ =
        λ t u. (let e = labels_once f.words f.valid t.at between t.stands.is_label u.is_label (t.stands.own ∙ sym u.own) in let h = t.high in omega (arith, e, h)) in
        elim (cases_lt from between) [
          | inl early ↦ elim (cases_lt other between) [
            | inl other_early ↦ arms_one arms p.0 earlier (omega (arith, g, up)) from other least early also other_early leads leads'
            | inr other_late ↦ absurd (apart (front from least early leads) (here other other_late within leads').there)
          ]
          | inr late ↦ elim (cases_lt other between) [
            | inl other_early ↦ absurd (apart (front other also other_early leads') (here from late less leads).there)
            | inr other_late ↦ (let x = here from late less leads in let y = here other other_late within leads' in let m = x.last in let n = y.last in omega (arith, m, n))
          ]
        ]

    -- ---- the merge block

    placed_here : AreArmsPlaced insts d s.head.after s.arms
    placed_here = placed_arms insts (labels_once f.words f.valid) d s.scope s.wanted s.next s.from s.to s.head place s.here s.is s.arms s.rest s.placed

    embeds_here : Embeds (of_arms s.arms)
    embeds_here test some = s.placed.intervals test (any_left test (of_arms s.arms) (inside s.rest) some)

    -- by the branch itself, or from an arm
    comes : (from : ℕ) → from < place → leads_from f.plan insts (label_at insts place) from ≡ true → ((from + 1 ≡ s.head.after) × Stands insts to place) ⊎ (s.head.after ≤ from)
    comes from less leads =
        let o = order in
        let b = o.block_low in
        let a = o.after in
        let p = o.arms in
        let r = o.rest in
        let named = still_leads f from (label_at insts place) leads in
        let here : s.from < place = omega (arith, b, a, p) in
        elim (cases_lt from s.from) [
          | inl early ↦ outside insts (labels_once f.words f.valid) d s.scope s.next s.from s.to _ s.placed place here r stands.is_label from early (target_names insts from (label_at insts place) named)
          | inr low ↦ elim (cases_lt from s.head.after) [
            | inl first ↦
                let last : from + 1 ≡ s.head.after = leads_last insts s.scope s.from (way.Picks s.head) (whole_block insts s.scope s.wanted s.from (way.Picks s.head) s.here s.is tt) o.fits from (label_at insts place) low first named in
                let there : from ≡ switch_place + 1 = omega (arith, last, a) in
                inl (last, record { is_label = stands.is_label; own = sym (goes_label f.plan insts (label_at insts place) to from (ap f.plan.fate there ∙ goes_there) leads) })
            | inr late ↦ inr late
          ]
        ]

    not_both : {Q : Type 0} (from : ℕ) → Stands insts to place → s.head.after ≤ from → from < place → leads_from f.plan insts (label_at insts place) from ≡ true → Q
    not_both from there late less leads =
        let t = arms_stand s.arms placed_here embeds_here (omega arith) from late less leads in
        let e = labels_once f.words f.valid t.at place t.stands.is_label there.is_label (t.stands.own ∙ sym there.own) in
        let h = t.high in
        absurd (omega (arith, e, h))

    pub switch_one : (a b : ℕ) → a < place → b < place → leads_from f.plan insts (label_at insts place) a ≡ true → leads_from f.plan insts (label_at insts place) b ≡ true → a ≡ b
    switch_one a b first second leads also = elim (comes a first leads) [
      | inl at_branch ↦ elim (comes b second also) [
        | inl other ↦ (let x = at_branch.0 in let y = other.0 in omega (arith, x, y))
        | inr late ↦ not_both b at_branch.1 late second also
      ]
      | inr late ↦ elim (comes b second also) [
        | inl other ↦ not_both a other.1 late first leads
        | inr also_late ↦ arms_one s.arms placed_here embeds_here (omega arith) a b late first also_late second leads also
      ]
    ]
