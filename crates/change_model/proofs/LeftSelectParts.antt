-- The parts of a sequence whose first block ends in a selection, by its derivation.
use Rattle.std.proofs.Common.{◌≡◌, ℕ, ◌+◌, ◌-◌, ◌<◌, ◌≤◌, ◌⊎◌, inl, inr, Bool, true, false, ◌==◌, List, ◌++◌, slice_index, refl, ap, sym, ◌∙◌, subst, arith, Option, None, Some}
use Rattle.std.specs.List.{list_any}
use Rattle.std.proofs.lemmas.Bool.{cases_lt, eqb-true}
use Rattle.spirv_model.specs.declared.module.Inst.{Inst}
use Rattle.spirv_model.specs.declared.module.Words.{Words}
use Rattle.spirv_model.specs.declared.op.TheConstants as op
use Rattle.spirv_model.specs.Operands.{word_at}
use Rattle.body_model.specs.declared.block_end.BlockEnd.TheVariants as kind
use Rattle.body_model.specs.declared.block_end.SelectionHead.{SelectionHead}
use Rattle.body_model.specs.declared.scope.Phis.{Phis}
use Rattle.body_model.specs.Blocks.{block_end, may_have_phis}
use Rattle.body_model.specs.Due.{IsDue}
use Rattle.body_model.specs.Scope.{Scope, behind_selection, arm}
use Rattle.body_model.specs.Switches.{is_among}
use Rattle.body_model.specs.Targets.{MayLeaveTo}
use Rattle.body_model.specs.Grammar.{Sequence, Arm, straight, through}
use Rattle.body_model.proofs.Forward.{forward, arm_forward}
use Rattle.valid_model.specs.Definitions.{inst_at}
use Rattle.check_model.specs.Intervals.{Interval, inside, of_arm, intervals_of}
use Rattle.check_model.specs.Validity.{IsValidList}
use Rattle.stage_model.proofs.CodeRuns.{due_of}
use Rattle.stage_model.proofs.Exits.{arm_exit}
use Rattle.change_model.specs.declared.fate.Fate.TheVariants as fate
use Rattle.change_model.specs.Plans.{Plan, is_dead}
use Rattle.change_model.specs.PlanRules.{IsPlan, merge_labels}
use Rattle.change_model.proofs.LeftApart.{leaves_by}
use Rattle.change_model.proofs.LeftArmParts.{RestAt}
use Rattle.change_model.proofs.LeftBefore.{before_head, before_merge, part_before}
use Rattle.change_model.proofs.LeftBlockNames.{by_merge, inst_there}
use Rattle.change_model.proofs.LeftCases.{Makes}
use Rattle.change_model.proofs.LeftEnds.{way}
use Rattle.change_model.proofs.LeftExits.{by_leave, by_loop}
use Rattle.change_model.proofs.LeftFronts.{OldBlock, old_block}
use Rattle.change_model.proofs.LeftHeadWays.{SelectsWay, head_way}
use Rattle.change_model.proofs.LeftMerges.{merges_in}
use Rattle.change_model.proofs.LeftParts.{any_left, any_right}
use Rattle.change_model.proofs.LeftPhis.{keeps_phis, keeps_unmerged}
use Rattle.change_model.proofs.LeftPlaced.{Branched, IsArmPlaced, IsArmUnmerged, IsArmBranched, placed_true, placed_false, placed_merge, merging_merge, unmerged_true, unmerged_false, branched_true, branched_false}
use Rattle.change_model.proofs.LeftPlacedWhole.{labels_once}
use Rattle.change_model.proofs.LeftQuiet.{NoWay, quiet_inside}
use Rattle.change_model.proofs.LeftRemains.{no_loop_before, begin_inside}
use Rattle.change_model.proofs.LeftLasts.{refuted}
use Rattle.change_model.proofs.LeftScopes.{is_label_at, label_at, names, Placed}
use Rattle.change_model.proofs.LeftSelectCases.{WayAt, straight_on, by_arm}
use Rattle.change_model.proofs.LeftSelectWhole.{selects_case}
use Rattle.change_model.proofs.LeftTargets.{Stands, due_stands}

-- what is made of an arm, where there is one
abbrev pub ArmMakes : (words : Words) → IsValidList words → Plan → {scope : Scope} {merge target from to : ℕ} → Arm words.insts scope merge target from to → Type 0
ArmMakes words v plan (straight same none) = Unit {0}
ArmMakes words v plan {scope} {merge} {target} {from} {to} (through isnt sequence) = is_dead (plan.fate from) ≡ false → Makes words v plan (arm scope merge) None from to (inside sequence)

pub by_label : {Q : Type 0} (a b : ℕ) → (a ≡ b → Q) → (a == b ≡ false → Q) → Q
by_label {Q = Q} a b same other = by_test (a == b) refl
  where
    by_test : (t : Bool) → a == b ≡ t → Q
    by_test true is = same (eqb-true a b is)
    by_test false is = other is

module _ (words : Words) (v : IsValidList words) (zeros : List ℕ) (plan : Plan) (p : IsPlan words v zeros plan) (old : Scope) (wanted next : Option ℕ) (from to : ℕ) (head : SelectionHead) (second join : ℕ) (here : IsDue words.insts wanted from)
    (is : block_end words.insts old from ≡ kind.Selects head) (on_true : Arm words.insts old head.merge head.on_true head.after second) (on_false : Arm words.insts old head.merge head.on_false second join)
    (rest : Sequence words.insts (behind_selection old) (Some head.merge) join to next) (placed : Placed words.insts v.derivation old next from to (of_arm on_true ++ (of_arm on_false ++ inside rest))) where
  abbrev insts : List Inst
  insts = words.insts

  o : OldBlock insts old from (kind.Selects head)
  o = old_block insts old wanted from (kind.Selects head) here is tt

  w : SelectsWay old o.inst o.behind o.place head
  w = head_way old (slice_index o.label.words 0) o.inst o.behind o.place (kind.Selects head) (way old (slice_index o.label.words 0) o.inst o.behind o.place (kind.Selects head) o.ends tt)

  past_true : head.after ≤ second
  past_true = arm_forward insts on_true

  past_false : second ≤ join
  past_false = arm_forward insts on_false

  past_join : join < to
  past_join = (forward insts rest).forward

  low_join : o.place + 2 ≤ join
  low_join = let a = w.after in let s = past_true in let t = past_false in omega (arith, a, s, t)

  at_join : Stands insts (word_at 0 o.inst) join
  at_join = subst (λ (n : ℕ). Stands insts n join) w.merge (due_stands insts head.merge join (due_of rest))

  own_join : Stands insts head.merge join
  own_join = due_stands insts head.merge join (due_of rest)

  -- ---- the ways

  arm_exits : (label : ℕ) → MayLeaveTo (arm old head.merge) None label → (label ≡ word_at 0 o.inst) ⊎ MayLeaveTo old next label
  arm_exits label may = by_label label head.merge (λ same. inl (same ∙ w.merge)) (λ differs. inr (arm_exit old head.merge next label may differs))

  -- nothing nested in an arm leads to the merge block
  no_way : NoWay (arm old head.merge) head.merge
  no_way = record {
    leave = λ same. stands_not (inl (leaves_by old head.merge (by_leave same)));
    exits = λ exits same one. stands_not (inl (leaves_by old head.merge (by_loop exits same one)));
  }
    where
      stands_not : MayLeaveTo old next head.merge → ⊥
      stands_not may = let l = low_join in let e = o.place_is in placed.left head.merge may join (omega (arith, e, l)) past_join own_join.is_label own_join.own

  way_at : {target a b : ℕ} (x : Arm insts old head.merge target a b) → o.place + 2 ≤ a → b ≤ join → IsArmPlaced insts v.derivation x → IsArmUnmerged insts x → IsArmBranched insts head.after x
      → ((test : Interval → Bool) → list_any test (of_arm x) ≡ true → list_any test (intervals_of v.derivation) ≡ true) → (inst_at insts (a - 2)).op == op.LOOP_MERGE ≡ false
      → (a < b → is_label_at insts a ≡ true → (place : ℕ) → o.place + 2 ≤ place → place < a → names insts place (label_at insts a) ≡ false)
      → ArmMakes words v plan x → WayAt words v plan old head.merge (o.place + 1) target a b (of_arm x)
  way_at (straight same none) least most at unmerged branched among no_loop before makes = straight_on same none refl
  way_at {target} {a} {b} (through isnt s) least most at unmerged branched among no_loop before makes =
      let f = (forward insts s).forward in
      let j = past_join in
      let l = low_join in
      let due = due_stands insts target a (due_of s) in
      by_arm (inside s) isnt refl
      (record {
        forward = f;
        behind = omega (arith, least);
        placed = at;
        is_label = due.is_label;
        own = due.own;
        apart = at.merge head.merge refl;
        before = λ place less other. ap (names insts place) (sym due.own) ∙ elim (cases_lt o.place place) [
          | inr head_most ↦ before_head insts (labels_once words v) v.derivation old next from to (of_arm on_true ++ (of_arm on_false ++ inside rest)) placed (kind.Selects head) o w.is join at_join (omega (arith, l)) past_join a (omega (arith, least)) (omega (arith, f, most, j))
              due.is_label (λ same. (omega (arith, same, f, most))) place head_most
          | inl behind ↦ elim (cases_lt (o.place + 1) place) [
            | inl further ↦ before f due.is_label place (omega (arith, further)) less
            | inr near ↦ (let same : place ≡ o.place + 1 = omega (arith, behind, near) in absurd (other same))
          ]
        ];
        branched = subst (λ (n : ℕ). Branched insts n a) (let e = w.after in omega (arith, e)) branched;
        no_loop = no_loop;
        merges = λ place low high. refuted (is_among head.merge (merge_labels (inst_at insts place))) (λ named.
            let m = merges_in insts s place head.merge low high (by_merge named) in
            let ml = m.low in
            at.merge head.merge refl m.at (omega (arith, low, ml)) m.high m.stands.is_label m.stands.own);
        starts = begin_inside insts s;
        among = among;
        phis = λ new phis_are. keeps_unmerged words v zeros plan p (arm old head.merge) (Some target) None a b s at.low at.high new (ap (λ (phis : Phis). may_have_phis phis true) phis_are) unmerged;
        makes = makes;
      })
      (quiet_inside words v zeros plan p (arm old head.merge) (Some target) None a b head.merge s at no_way (at.merge head.merge refl))

  no_loop_first : (inst_at insts (head.after - 2)).op == op.LOOP_MERGE ≡ false
  no_loop_first =
      let a = w.after in
      let same : head.after - 2 ≡ o.place = omega (arith, a) in
      ap (λ (n : ℕ). (inst_at insts n).op == op.LOOP_MERGE) same ∙ ap (λ (i : Inst). i.op == op.LOOP_MERGE) (inst_there insts old from (kind.Selects head) o) ∙ ap (λ (n : ℕ). n == op.LOOP_MERGE) w.is

  no_loop_second : {merge target a b : ℕ} (x : Arm insts old merge target a b) → (inst_at insts (a - 2)).op == op.LOOP_MERGE ≡ false → (inst_at insts (b - 2)).op == op.LOOP_MERGE ≡ false
  no_loop_second (straight same none) before = ap (λ (n : ℕ). (inst_at insts (n - 2)).op == op.LOOP_MERGE) (sym none) ∙ before
  no_loop_second (through isnt s) before = no_loop_before insts s

  true_before : {target b : ℕ} (x : Arm insts old head.merge target head.after b) → b ≤ second → second < join → is_label_at insts second ≡ true → (place : ℕ) → o.place + 2 ≤ place → place < b → names insts place (label_at insts second) ≡ false
  true_before (straight same none) most less label place least before = let a = w.after in absurd (omega (arith, a, none, least, before))
  true_before (through isnt s) most less label place least before =
      let a = w.after in
      let l = low_join in
      let t = past_true in
      let j = past_join in
      part_before insts (labels_once words v) v.derivation old next from to (of_arm on_true ++ (of_arm on_false ++ inside rest)) placed (kind.Selects head) o w.is join at_join (omega (arith, l)) past_join s arm_exits second (omega (arith, a, t)) most (omega (arith, less, j))
      label (λ same. omega (arith, same, less)) place (omega (arith, a, least)) before

  rest_at : ((is_dead (plan.fate join) ≡ false) → Makes words v plan (behind_selection old) next join to (inside rest)) → RestAt words v plan old next head.merge o.place join to (inside rest)
  rest_at makes =
      let l = low_join in
      let at = placed_merge insts (labels_once words v) v.derivation old wanted next from to head second join here is on_true on_false rest placed in
      record {
        forward = past_join;
        behind = l;
        placed = at;
        is_label = own_join.is_label;
        own = own_join.own;
        before = λ place less. ap (names insts place) w.merge ∙ before_merge insts (labels_once words v) v.derivation old next from to (of_arm on_true ++ (of_arm on_false ++ inside rest)) placed (kind.Selects head) o w.is join at_join (omega (arith, l)) past_join place less;
        starts = begin_inside insts rest;
        phis = λ skip new phis_are. keeps_phis words v zeros plan p (behind_selection old) (Some head.merge) next join to rest at.low at.high new (ap (λ (phis : Phis). may_have_phis phis true) phis_are)
            (λ place selects stay.
            let e = merging_merge insts (labels_once words v) v.derivation old wanted next from to head second join here is on_true on_false rest placed place selects in
            let a = w.after in
            let same : place ≡ o.place = omega (arith, e, a) in
            absurd (never (sym skip ∙ ap plan.fate (sym same) ∙ stay)));
        makes = makes;
      }
    where
      never : fate.Skips ≡ fate.Stays → ⊥
      never same = cc

  pub selects_makes : is_dead (plan.fate from) ≡ false → ArmMakes words v plan on_true → ArmMakes words v plan on_false → (is_dead (plan.fate join) ≡ false → Makes words v plan (behind_selection old) next join to (inside rest))
      → Makes words v plan old next from to (of_arm on_true ++ (of_arm on_false ++ inside rest))
  selects_makes alive makes_true makes_false makes_rest =
      let a = w.after in
      let t = past_true in
      let f = past_false in
      selects_case words v zeros plan p old from head o w placed.low alive second join to next (of_arm on_true) (of_arm on_false) (inside rest)
      (way_at on_true (omega (arith, a)) (omega (arith, f)) (placed_true insts (labels_once words v) v.derivation old wanted next from to head second join here is on_true on_false rest placed)
      (unmerged_true insts (labels_once words v) v.derivation old wanted next from to head second join here is on_true on_false rest placed)
      (branched_true insts (labels_once words v) v.derivation old wanted next from to head second join here is on_true on_false rest placed)
      (λ test some. placed.intervals test (any_left test (of_arm on_true) (of_arm on_false ++ inside rest) some)) no_loop_first (λ less label place least before. absurd (omega (arith, a, least, before))) makes_true)
      (way_at on_false (omega (arith, a, t)) (omega arith) (placed_false insts (labels_once words v) v.derivation old wanted next from to head second join here is on_true on_false rest placed)
      (unmerged_false insts (labels_once words v) v.derivation old wanted next from to head second join here is on_true on_false rest placed)
      (branched_false insts (labels_once words v) v.derivation old wanted next from to head second join here is on_true on_false rest placed)
      (λ test some. placed.intervals test (any_right test (of_arm on_true) (of_arm on_false ++ inside rest) (any_left test (of_arm on_false) (inside rest) some))) (no_loop_second on_true no_loop_first)
      (λ less label place least before. true_before on_true (omega arith) less label place least before) makes_false)
      (rest_at makes_rest) past_true past_false
