-- How control comes to a block that may have phis: by one branch, or as the merge block of a selection or an OpSwitch.
use Rattle.std.proofs.Common.{◌≡◌, ℕ, ◌+◌, ◌<◌, ◌≤◌, ◌⊎◌, inl, inr, Bool, true, false, ◌==◌, ◌||◌, if◌then◌else◌, List, [], ◌∷◌, ◌++◌, length, refl, sym, ◌∙◌, arith, Option, None, Some}
use Rattle.std.proofs.lemmas.Bool.{cases_lt, eqb-true}
use Rattle.spirv_model.specs.declared.module.Inst.{Inst}
use Rattle.spirv_model.specs.declared.op.TheConstants as op
use Rattle.spirv_model.specs.Operands.{word_at}
use Rattle.body_model.specs.declared.block_end.BlockEnd.{BlockEnd}
use Rattle.body_model.specs.declared.block_end.BlockEnd.TheVariants as way
use Rattle.body_model.specs.declared.block_end.SelectionHead.{SelectionHead}
use Rattle.body_model.specs.declared.block_end.SwitchHead.{SwitchHead}
use Rattle.body_model.specs.Blocks.{block_end}
use Rattle.body_model.specs.Due.{IsDue}
use Rattle.body_model.specs.Scope.{Scope, behind_selection, arm, switch_arm}
use Rattle.body_model.specs.Switches.{is_among, without, labels_of}
use Rattle.body_model.specs.Targets.{targets, MayLeaveTo}
use Rattle.body_model.specs.Grammar.{Sequence, Arm, straight, through, Arms, no_arm, arm_behind, Derives}
use Rattle.body_model.proofs.Forward.{forward}
use Rattle.body_model.proofs.Shapes.{IsWhole, after_of}
use Rattle.valid_model.specs.Definitions.{inst_at}
use Rattle.check_model.specs.Intervals.{Interval, inside, of_arm, of_arms}
use Rattle.stage_model.proofs.Exits.{arm_exit, switch_exit}
use Rattle.stage_model.proofs.WholeBlocks.{block_at}
use Rattle.change_model.specs.PlanRules.{merge_labels}
use Rattle.change_model.proofs.BranchEnds.{leads_last}
use Rattle.change_model.proofs.ConditionNames.{HasLoop, loop_place, target_names, merge_names}
use Rattle.change_model.proofs.LeftBlockNames.{StandsIn, by_merge}
use Rattle.change_model.proofs.LeftCuts.{LabelsOnce}
use Rattle.change_model.proofs.LeftFronts.{old_block}
use Rattle.change_model.proofs.LeftLeaves.{names_in}
use Rattle.change_model.proofs.LeftMerges.{arm_merges, arms_merges}
use Rattle.change_model.proofs.LeftScopes.{is_label_at, label_at, names, Placed}
use Rattle.change_model.proofs.LeftTargets.{Stands}

-- ---- what is said

-- of what stands before the block at a place, only the end of the block that ends before another place names it
pub record Begins (insts : List Inst) (after place : ℕ) : Type 0 where
  pub leads : (from : ℕ) → from < place → is_among (label_at insts place) (targets (inst_at insts from)) ≡ true → from + 1 ≡ after
  pub merges : (from : ℕ) → from < place → is_among (label_at insts place) (merge_labels (inst_at insts from)) ≡ true → ⊥

-- no OpLoopMerge before it names it
abbrev pub Unlooped : List Inst → ℕ → Type 0
Unlooped insts place = (from : ℕ) → from < place → (inst_at insts from).op ≡ op.LOOP_MERGE → is_among (label_at insts place) (merge_labels (inst_at insts from)) ≡ true → ⊥

-- the selection whose merge block stands at a place
pub record SelectionTo (insts : List Inst) (d : Derives insts) (place : ℕ) : Type 0 where
  pub scope : Scope
  pub wanted : Option ℕ
  pub next : Option ℕ
  pub from : ℕ
  pub to : ℕ
  pub head : SelectionHead
  pub second : ℕ
  pub here : IsDue insts wanted from
  pub is : block_end insts scope from ≡ way.Selects head
  pub on_true : Arm insts scope head.merge head.on_true head.after second
  pub on_false : Arm insts scope head.merge head.on_false second place
  pub rest : Sequence insts (behind_selection scope) (Some head.merge) place to next
  pub placed : Placed insts d scope next from to (of_arm on_true ++ (of_arm on_false ++ inside rest))

-- the OpSwitch whose merge block stands there
pub record SwitchTo (insts : List Inst) (d : Derives insts) (place : ℕ) : Type 0 where
  pub scope : Scope
  pub wanted : Option ℕ
  pub next : Option ℕ
  pub from : ℕ
  pub to : ℕ
  pub head : SwitchHead
  pub here : IsDue insts wanted from
  pub is : block_end insts scope from ≡ way.Picks head
  pub arms : Arms insts scope head.merge (labels_of insts head) (labels_of insts head) head.after [] place
  pub rest : Sequence insts (behind_selection scope) (Some head.merge) place to next
  pub placed : Placed insts d scope next from to (of_arms arms ++ inside rest)

pub data Entry (insts : List Inst) (d : Derives insts) (place : ℕ) : Type 0 where
  by_one : (after : ℕ) → Begins insts after place → Entry insts d place
  by_selection : SelectionTo insts d place → Unlooped insts place → Entry insts d place
  by_switch : SwitchTo insts d place → Unlooped insts place → Entry insts d place

-- ---- tests

clash : {Q : Type 0} (b : Bool) → b ≡ true → b ≡ false → Q
clash true is isnt = cc
clash false is isnt = cc

test_label : {Q : Type 0} (b : Bool) → (b ≡ true → Q) → (b ≡ false → Q) → Q
test_label true f g = f refl
test_label false f g = g refl

one_of : (a label : ℕ) → is_among label (a ∷ []) ≡ true → a ≡ label
one_of a label among = by_test (a == label) refl among
  where
    by_test : (b : Bool) → a == label ≡ b → (b || false) ≡ true → a ≡ label
    by_test true is among = eqb-true a label is
    by_test false is among = cc

-- which merge instruction names a label
pub merged_by : (inst : Inst) (label : ℕ) → is_among label (merge_labels inst) ≡ true → ((inst.op == op.SELECTION_MERGE ≡ true) × (word_at 0 inst ≡ label)) ⊎ (inst.op ≡ op.LOOP_MERGE)
merged_by inst label among = by_tests (inst.op == op.SELECTION_MERGE) (inst.op == op.LOOP_MERGE) refl refl among
  where
    by_tests : (a b : Bool) → inst.op == op.SELECTION_MERGE ≡ a → inst.op == op.LOOP_MERGE ≡ b → is_among label (if a then word_at 0 inst ∷ [] else if b then word_at 0 inst ∷ word_at 1 inst ∷ [] else []) ≡ true
        → ((inst.op == op.SELECTION_MERGE ≡ true) × (word_at 0 inst ≡ label)) ⊎ (inst.op ≡ op.LOOP_MERGE)
    by_tests true b first second among = inl (first, one_of (word_at 0 inst) label among)
    by_tests false true first second among = inr (eqb-true inst.op op.LOOP_MERGE second)
    by_tests false false first second among = cc

-- ---- a label that stands in a part behind its beginning

module _ (insts : List Inst) (once : LabelsOnce insts) (d : Derives insts) (scope : Scope) (next : Option ℕ) (from to : ℕ) (all : List Interval) (p : Placed insts d scope next from to all) (cut : ℕ) (behind : from < cut) (before : cut < to)
    (label : is_label_at insts cut ≡ true) where
  -- nothing before the part names it
  pub outside : {Q : Type 0} (place : ℕ) → place < from → names insts place (label_at insts cut) ≡ true → Q
  outside place less named = clash (names insts place (label_at insts cut)) named (p.entered place cut (inl less) behind before label)

  elsewhere : {Q : Type 0} (low high : ℕ) → (cut < low) ⊎ (high ≤ cut) → StandsIn insts low high (label_at insts cut) → Q
  elsewhere low high beside s =
      let e = once s.at cut s.stands.is_label label s.stands.own in
      let l = s.low in
      let h = s.high in
      absurd (elim beside [ inl less ↦ omega (arith, e, l, less) | inr past ↦ omega (arith, e, h, past) ])

  -- nor another part that may not be left to it
  pub sequence_silent : {Q : Type 0} {part : Scope} {wanted past : Option ℕ} {low high : ℕ} → Sequence insts part wanted low high past → (cut < low) ⊎ (high ≤ cut) → (MayLeaveTo part past (label_at insts cut) → ⊥) → (place : ℕ) → low ≤ place → place < high
      → names insts place (label_at insts cut) ≡ true → Q
  sequence_silent {low = low} {high = high} s beside never place least less named = elim (names_in insts s place (label_at insts cut) least less named) [
    | inl in_it ↦ elsewhere low high beside in_it
    | inr may ↦ absurd (never may)
  ]

  arm_leaves : (merge join : ℕ) → Stands insts merge join → (cut ≡ join → ⊥) → MayLeaveTo (arm scope merge) None (label_at insts cut) → ⊥
  arm_leaves merge join stands other may = test_label (label_at insts cut == merge)
      (λ same. other (once cut join label stands.is_label (eqb-true (label_at insts cut) merge same ∙ sym stands.own)))
      (λ differs. p.left (label_at insts cut) (arm_exit scope merge next (label_at insts cut) may differs) cut (omega (arith, behind)) before label refl)

  switch_leaves : (merge join : ℕ) (others : List ℕ) → Stands insts merge join → (cut ≡ join → ⊥) → MayLeaveTo (switch_arm scope merge others) None (label_at insts cut) → ⊥
  switch_leaves merge join others stands other may = test_label (label_at insts cut == merge)
      (λ same. other (once cut join label stands.is_label (eqb-true (label_at insts cut) merge same ∙ sym stands.own)))
      (λ differs. p.left (label_at insts cut) (switch_exit scope merge others next (label_at insts cut) may differs) cut (omega (arith, behind)) before label refl)

  pub arm_silent : {Q : Type 0} {merge target low high : ℕ} (join : ℕ) → Arm insts scope merge target low high → Stands insts merge join → (cut ≡ join → ⊥) → (cut < low) ⊎ (high ≤ cut) → (place : ℕ) → low ≤ place → place < high
      → names insts place (label_at insts cut) ≡ true → Q
  arm_silent join (straight is none) stands other beside place least less named = absurd (omega (arith, none, least, less))
  arm_silent {merge = merge} join (through isnt sequence) stands other beside place least less named = sequence_silent sequence beside (arm_leaves merge join stands other) place least less named

  pub arms_silent : {Q : Type 0} {merge : ℕ} {every due left : List ℕ} {low high : ℕ} (join : ℕ) → Arms insts scope merge every due low left high → Stands insts merge join → (cut ≡ join → ⊥) → high ≤ cut → (place : ℕ) → low ≤ place → place < high
      → names insts place (label_at insts cut) ≡ true → Q
  arms_silent join (no_arm is none) stands other beside place least less named = absurd (omega (arith, none, least, less))
  arms_silent {merge = merge} {every = every} join (arm_behind own between earlier arms among is sequence) stands other beside place least less named =
      let g = (forward insts sequence).forward in
      elim (cases_lt place between) [
        | inl early ↦ arms_silent join arms stands other (omega (arith, g, beside)) place least early named
        | inr late ↦ sequence_silent sequence (inr beside) (switch_leaves merge join (without own every) stands other) place late less named
      ]

  pub arm_unmerged : {Q : Type 0} {merge target low high : ℕ} → Arm insts scope merge target low high → high ≤ cut → (place : ℕ) → low ≤ place → place < high → is_among (label_at insts cut) (merge_labels (inst_at insts place)) ≡ true → Q
  arm_unmerged {high = high} a beside place least less among = elsewhere (place + 1) high (inr beside) (arm_merges insts a place (label_at insts cut) least less (by_merge among))

  pub arms_unmerged : {Q : Type 0} {merge : ℕ} {every due left : List ℕ} {low high : ℕ} → Arms insts scope merge every due low left high → high ≤ cut → (place : ℕ) → low ≤ place → place < high
      → is_among (label_at insts cut) (merge_labels (inst_at insts place)) ≡ true → Q
  arms_unmerged {high = high} a beside place least less among = elsewhere (place + 1) high (inr beside) (arms_merges insts a place (label_at insts cut) least less (by_merge among))

  -- ---- the first block

  module _ (wanted : Option ℕ) (end : BlockEnd) (here : IsDue insts wanted from) (is : block_end insts scope from ≡ end) (whole : IsWhole end) (fits : after_of end ≤ length insts) where
    -- only its end leads to the label, where nothing behind it does
    pub begins : ((place : ℕ) → after_of end ≤ place → place < cut → names insts place (label_at insts cut) ≡ true → ⊥)
        → ((place : ℕ) → from ≤ place → place < after_of end → is_among (label_at insts cut) (merge_labels (inst_at insts place)) ≡ true → ⊥) → Begins insts (after_of end) cut
    begins silent unmerged = record {
      leads = λ place less among. elim (cases_lt place from) [
        | inl early ↦ outside place early (target_names insts place (label_at insts cut) among)
        | inr least ↦ elim (cases_lt place (after_of end)) [
          | inl first ↦ leads_last insts scope from end (block_at insts scope wanted from end here is whole) fits place (label_at insts cut) least first among
          | inr late ↦ absurd (silent place late less (target_names insts place (label_at insts cut) among))
        ]
      ];
      merges = λ place less among. elim (cases_lt place from) [
        | inl early ↦ outside place early (merge_names insts place (label_at insts cut) among)
        | inr least ↦ elim (cases_lt place (after_of end)) [
          | inl first ↦ unmerged place least first among
          | inr late ↦ silent place late less (merge_names insts place (label_at insts cut) among)
        ]
      ];
    }

    -- no OpLoopMerge names it, where it is no header of a loop and none behind it does
    pub unlooped : (HasLoop end → ⊥) → ((place : ℕ) → after_of end ≤ place → place < cut → is_among (label_at insts cut) (merge_labels (inst_at insts place)) ≡ true → ⊥) → Unlooped insts cut
    unlooped none unmerged place less loop among = elim (cases_lt place from) [
      | inl early ↦ outside place early (merge_names insts place (label_at insts cut) among)
      | inr least ↦ elim (cases_lt place (after_of end)) [
        | inl first ↦ none (loop_place insts scope None from 0 end (old_block insts scope wanted from end here is whole) whole place least first loop).0
        | inr late ↦ unmerged place late less among
      ]
    ]
