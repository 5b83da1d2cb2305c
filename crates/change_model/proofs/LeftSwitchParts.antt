-- The parts of a sequence whose first block ends in an OpSwitch, by its derivation.
use Rattle.std.proofs.Common.{◌≡◌, ℕ, ◌+◌, ◌-◌, ◌<◌, ◌≤◌, ◌⊎◌, inl, inr, Bool, true, false, ◌==◌, List, [], ◌++◌, slice_index, refl, ap, sym, ◌∙◌, subst, arith, Option, None, Some}
use Rattle.std.specs.Prelude.{slice_get}
use Rattle.std.specs.List.{list_any}
use Rattle.std.proofs.lemmas.Bool.{cases_lt}
use Rattle.std.proofs.lemmas.Option.{slice_get-get_or}
use Rattle.spirv_model.specs.declared.module.Inst.{Inst}
use Rattle.spirv_model.specs.declared.module.Words.{Words}
use Rattle.spirv_model.specs.declared.op.TheConstants as op
use Rattle.spirv_model.specs.Operands.{word_at}
use Rattle.body_model.specs.declared.block_end.BlockEnd.TheVariants as kind
use Rattle.body_model.specs.declared.block_end.SwitchHead.{SwitchHead}
use Rattle.body_model.specs.declared.scope.Phis.{Phis}
use Rattle.body_model.specs.Blocks.{block_end, may_have_phis}
use Rattle.body_model.specs.Due.{IsDue}
use Rattle.body_model.specs.Scope.{Scope, behind_selection, switch_arm}
use Rattle.body_model.specs.Switches.{is_among, without, words_at, arm_labels, targets_of, switch_words, labels_of}
use Rattle.body_model.specs.Targets.{MayLeaveTo}
use Rattle.body_model.specs.Grammar.{Sequence, Arms, no_arm, arm_behind}
use Rattle.body_model.proofs.Forward.{sound_at, forward, arms_forward}
use Rattle.valid_model.specs.Definitions.{inst_at, no_instruction}
use Rattle.check_model.specs.Intervals.{Interval, around, inside, of_arms, intervals_of}
use Rattle.check_model.specs.Validity.{IsValidList}
use Rattle.stage_model.proofs.CodeRuns.{due_of}
use Rattle.stage_model.proofs.Exits.{switch_exit}
use Rattle.change_model.specs.declared.fate.Fate.TheVariants as fate
use Rattle.change_model.specs.Plans.{Plan, is_dead}
use Rattle.change_model.specs.PlanRules.{IsPlan, merge_labels}
use Rattle.change_model.proofs.LeftArmParts.{RestAt, either_place}
use Rattle.change_model.proofs.LeftBefore.{before_head, before_merge, part_before}
use Rattle.change_model.proofs.LeftBlockNames.{by_merge, inst_there, second_there}
use Rattle.change_model.proofs.LeftCases.{Makes}
use Rattle.change_model.proofs.LeftEnds.{way}
use Rattle.change_model.proofs.LeftFronts.{OldBlock, old_block}
use Rattle.change_model.proofs.LeftHeadWays.{PicksWay, head_way}
use Rattle.change_model.proofs.LeftMerges.{arms_first, merges_in}
use Rattle.change_model.proofs.LeftParts.{any_left, any_right}
use Rattle.change_model.proofs.LeftPhis.{keeps_phis, keeps_unmerged}
use Rattle.change_model.proofs.LeftPlaced.{Branched}
use Rattle.change_model.proofs.LeftPlacedArms.{AreArmsPlaced, placed_arms, placed_join, merging_join}
use Rattle.change_model.proofs.LeftPlacedWhole.{labels_once}
use Rattle.change_model.proofs.LeftRemains.{no_loop_before, begin_inside}
use Rattle.change_model.proofs.LeftLasts.{refuted}
use Rattle.change_model.proofs.LeftScopes.{is_label_at, label_at, names, Placed, StandsNot}
use Rattle.change_model.proofs.LeftSelectParts.{by_label}
use Rattle.change_model.proofs.LeftSwitchArms.{among_without, still_among, ArmsAt, no_arms, more_arms}
use Rattle.change_model.proofs.LeftSwitchCuts.{picks_case}
use Rattle.change_model.proofs.LeftTargets.{Stands, due_stands}

-- what is made of the arms of an OpSwitch
abbrev pub ArmsMake : (words : Words) → IsValidList words → Plan → {scope : Scope} {merge : ℕ} {all due left : List ℕ} {from to : ℕ} → Arms words.insts scope merge all due from left to → Type 0
ArmsMake words v plan (no_arm same none) = Unit {0}
ArmsMake words v plan {scope} {merge} {all} {due} {left} {from} {to} (arm_behind label between before arms among fewer sequence) =
    ArmsMake words v plan arms × (is_dead (plan.fate between) ≡ false → Makes words v plan (switch_arm scope merge (without label all)) None between to (inside sequence))

-- what is due behind some of them is due before them
still_due : (insts : List Inst) {scope : Scope} {merge : ℕ} {all due left : List ℕ} {from to : ℕ} (x : Arms insts scope merge all due from left to) (label : ℕ) → is_among label left ≡ true → is_among label due ≡ true
still_due insts (no_arm same none) label among = ap (is_among label) same ∙ among
still_due insts (arm_behind own between before arms due_there fewer sequence) label among = still_due insts arms label (among_without own label before (ap (is_among label) fewer ∙ among)).0

module _ (words : Words) (v : IsValidList words) (zeros : List ℕ) (plan : Plan) (p : IsPlan words v zeros plan) (old : Scope) (wanted next : Option ℕ) (from to : ℕ) (head : SwitchHead) (join : ℕ) (here : IsDue words.insts wanted from)
    (is : block_end words.insts old from ≡ kind.Picks head) (arms : Arms words.insts old head.merge (labels_of words.insts head) (labels_of words.insts head) head.after [] join)
    (rest : Sequence words.insts (behind_selection old) (Some head.merge) join to next) (placed : Placed words.insts v.derivation old next from to (of_arms arms ++ inside rest)) where
  abbrev insts : List Inst
  insts = words.insts

  abbrev all : List ℕ
  all = labels_of insts head

  o : OldBlock insts old from (kind.Picks head)
  o = old_block insts old wanted from (kind.Picks head) here is tt

  w : PicksWay old o.inst o.behind o.place head
  w = head_way old (slice_index o.label.words 0) o.inst o.behind o.place (kind.Picks head) (way old (slice_index o.label.words 0) o.inst o.behind o.place (kind.Picks head) o.ends tt)

  past_arms : head.after ≤ join
  past_arms = arms_forward insts arms

  past_join : join < to
  past_join = (forward insts rest).forward

  low_join : o.place + 2 ≤ join
  low_join = let a = w.after in let s = past_arms in omega (arith, a, s)

  at_join : Stands insts (word_at 0 o.inst) join
  at_join = subst (λ (n : ℕ). Stands insts n join) w.merge (due_stands insts head.merge join (due_of rest))

  own_join : Stands insts head.merge join
  own_join = due_stands insts head.merge join (due_of rest)

  -- ---- the labels of the arms

  last_there : inst_at insts (o.place + 1) ≡ w.last
  last_there = second_there insts old from (kind.Picks head) o w.last w.rest w.at

  labels_are : all ≡ arm_labels (word_at 0 o.inst) w.last.words
  unfolding labels_of switch_words
  labels_are =
      let a = w.after in
      let f = (sound_at insts old from (kind.Picks head) is).0.within in
      let same : head.after - 1 ≡ o.place + 1 = omega (arith, a) in
      ap (λ (n : ℕ). arm_labels head.merge (words_at (slice_get insts n))) same
      ∙ ap (λ (i : Option Inst). arm_labels head.merge (words_at i)) (slice_get-get_or insts (o.place + 1) no_instruction (omega (arith, a, f)))
      ∙ ap (λ (i : Inst). arm_labels head.merge i.words) last_there ∙ ap (λ (n : ℕ). arm_labels n w.last.words) w.merge

  targets_stand : (label : ℕ) → is_among label (targets_of w.last.words) ≡ true → StandsNot insts from to label → ⊥
  targets_stand label among none =
      let l = low_join in
      let e = o.place_is in
      either_place label (word_at 0 o.inst)
      (λ same. none join (omega (arith, e, l)) past_join at_join.is_label (at_join.own ∙ sym same))
      (λ isnt.
      let own : is_among label all ≡ true = ap (is_among label) labels_are ∙ still_among (word_at 0 o.inst) label (targets_of w.last.words) among isnt in
      let s = arms_first insts arms label own refl in
      let sl = s.low in
      let sh = s.high in
      let a = w.after in
      let j = past_join in
      none s.at (omega (arith, sl, a, e)) (omega (arith, sh, j)) s.stands.is_label s.stands.own)

  -- ---- the arms

  arm_exits : (others : List ℕ) (label : ℕ) → MayLeaveTo (switch_arm old head.merge others) None label → (label ≡ word_at 0 o.inst) ⊎ MayLeaveTo old next label
  arm_exits others label may = by_label label head.merge (λ same. inl (same ∙ w.merge)) (λ differs. inr (switch_exit old head.merge others next label may differs))

  no_loop_first : (inst_at insts (head.after - 2)).op == op.LOOP_MERGE ≡ false
  no_loop_first =
      let a = w.after in
      let same : head.after - 2 ≡ o.place = omega (arith, a) in
      ap (λ (n : ℕ). (inst_at insts n).op == op.LOOP_MERGE) same ∙ ap (λ (i : Inst). i.op == op.LOOP_MERGE) (inst_there insts old from (kind.Picks head) o) ∙ ap (λ (n : ℕ). n == op.LOOP_MERGE) w.is

  no_loop_behind : {due left : List ℕ} {b : ℕ} → Arms insts old head.merge all due head.after left b → (inst_at insts (b - 2)).op == op.LOOP_MERGE ≡ false
  no_loop_behind (no_arm same none) = ap (λ (n : ℕ). (inst_at insts (n - 2)).op == op.LOOP_MERGE) (sym none) ∙ no_loop_first
  no_loop_behind (arm_behind label between before front among fewer sequence) = no_loop_before insts sequence

  -- what stands in arms names no label behind them
  arms_before : {due left : List ℕ} {b : ℕ} → Arms insts old head.merge all due head.after left b → (at : ℕ) → b ≤ at → at < join → is_label_at insts at ≡ true → (place : ℕ) → head.after ≤ place → place < b → names insts place (label_at insts at) ≡ false
  arms_before (no_arm same none) at past less label place least before = absurd (omega (arith, none, least, before))
  arms_before {due} {left} {b} (arm_behind own between before_own front among fewer sequence) at past less label place least before =
      let f = (forward insts sequence).forward in
      let a = w.after in
      let l = low_join in
      let j = past_join in
      let g = arms_forward insts front in
      elim (cases_lt place between) [
        | inl early ↦ arms_before front at (omega (arith, f, past)) less label place least early
        | inr late ↦ part_before insts (labels_once words v) v.derivation old next from to (of_arms arms ++ inside rest) placed (kind.Picks head) o w.is join at_join (omega (arith, l)) past_join sequence (arm_exits (without own all)) at (omega (arith, a, g, f, past)) past
            (omega (arith, less, j)) label (λ same. omega (arith, same, less)) place late before
      ]

  arms_at : {due left : List ℕ} {b : ℕ} (x : Arms insts old head.merge all due head.after left b) → b ≤ join → AreArmsPlaced insts v.derivation head.after x → ((test : Interval → Bool) → list_any test (of_arms x) ≡ true → list_any test (intervals_of v.derivation) ≡ true)
      → ((label : ℕ) → is_among label due ≡ true → is_among label all ≡ true) → ArmsMake words v plan x → ArmsAt words v plan old head.merge (o.place + 1) all due head.after left b (of_arms x)
  arms_at (no_arm same none) most at among own makes = no_arms same none refl
  arms_at {due} {left} {b} (arm_behind label between before front among fewer s) most at some own makes =
      let f = (forward insts s).forward in
      let g = arms_forward insts front in
      let a = w.after in
      let j = past_join in
      let l = low_join in
      let x = at.1 in
      let due_is = due_stands insts label between (due_of s) in
      more_arms label between before (of_arms front) (inside s)
      (arms_at front (omega (arith, f, most)) at.0 (λ test in_front. some test (any_left test (of_arms front) (around between b (inside s)) in_front)) own makes.0) among fewer refl (own label (still_due insts front label among)) g
      (record {
        forward = f;
        behind = omega (arith, a, g);
        placed = x.placed;
        is_label = due_is.is_label;
        own = due_is.own;
        apart = x.placed.merge head.merge refl;
        before = λ place less other. ap (names insts place) (sym due_is.own) ∙ elim (cases_lt o.place place) [
          | inr head_most ↦ before_head insts (labels_once words v) v.derivation old next from to (of_arms arms ++ inside rest) placed (kind.Picks head) o w.is join at_join (omega (arith, l)) past_join between (omega (arith, a, g)) (omega (arith, f, most, j))
              due_is.is_label (λ same. (omega (arith, same, f, most))) place head_most
          | inl behind ↦ elim (cases_lt (o.place + 1) place) [
            | inl further ↦ arms_before front between (omega arith) (omega (arith, f, most)) due_is.is_label place (omega (arith, further, a)) less
            | inr near ↦ (let same : place ≡ o.place + 1 = omega (arith, behind, near) in absurd (other same))
          ]
        ];
        branched = subst (λ (n : ℕ). Branched insts n between) (omega (arith, a)) x.branched;
        no_loop = no_loop_behind front;
        merges = λ place low high. refuted (is_among head.merge (merge_labels (inst_at insts place))) (λ named.
            let m = merges_in insts s place head.merge low high (by_merge named) in
            let ml = m.low in
            x.placed.merge head.merge refl m.at (omega (arith, low, ml)) m.high m.stands.is_label m.stands.own);
        starts = begin_inside insts s;
        among = λ test own_test. some test (any_right test (of_arms front) (around between b (inside s)) own_test);
        phis = λ new phis_are. keeps_unmerged words v zeros plan p (switch_arm old head.merge (without label all)) (Some label) None between b s x.placed.low x.placed.high new (ap (λ (phis : Phis). may_have_phis phis true) phis_are) x.unmerged;
        makes = makes.1;
      })

  rest_at : ((is_dead (plan.fate join) ≡ false) → Makes words v plan (behind_selection old) next join to (inside rest)) → RestAt words v plan old next head.merge o.place join to (inside rest)
  rest_at makes =
      let l = low_join in
      let at = placed_join insts (labels_once words v) v.derivation old wanted next from to head join here is arms rest placed in
      record {
        forward = past_join;
        behind = l;
        placed = at;
        is_label = own_join.is_label;
        own = own_join.own;
        before = λ place less. ap (names insts place) w.merge ∙ before_merge insts (labels_once words v) v.derivation old next from to (of_arms arms ++ inside rest) placed (kind.Picks head) o w.is join at_join (omega (arith, l)) past_join place less;
        starts = begin_inside insts rest;
        phis = λ skip new phis_are. keeps_phis words v zeros plan p (behind_selection old) (Some head.merge) next join to rest at.low at.high new (ap (λ (phis : Phis). may_have_phis phis true) phis_are)
            (λ place selects stay.
            let e = merging_join insts (labels_once words v) v.derivation old wanted next from to head join here is arms rest placed place selects in
            let a = w.after in
            let same : place ≡ o.place = omega (arith, e, a) in
            absurd (never (sym skip ∙ ap plan.fate (sym same) ∙ stay)));
        makes = makes;
      }
    where
      never : fate.Skips ≡ fate.Stays → ⊥
      never same = cc

  pub picks_makes : is_dead (plan.fate from) ≡ false → ArmsMake words v plan arms → (is_dead (plan.fate join) ≡ false → Makes words v plan (behind_selection old) next join to (inside rest)) → Makes words v plan old next from to (of_arms arms ++ inside rest)
  picks_makes alive makes_arms makes_rest =
      let at = arms_at arms (omega arith) (placed_arms insts (labels_once words v) v.derivation old wanted next from to head join here is arms rest placed)
      (λ test some. placed.intervals test (any_left test (of_arms arms) (inside rest) some)) (λ label among. among) makes_arms in
      let by_merge_label = subst (λ (n : ℕ). ArmsAt words v plan old n (o.place + 1) all all head.after [] join (of_arms arms)) w.merge at in
      let by_place = subst (λ (n : ℕ). ArmsAt words v plan old (word_at 0 o.inst) (o.place + 1) all all n [] join (of_arms arms)) w.after by_merge_label in
      let by_labels = subst (λ (l : List ℕ). ArmsAt words v plan old (word_at 0 o.inst) (o.place + 1) l l (o.place + 2) [] join (of_arms arms)) labels_are by_place in
      picks_case words v zeros plan p old from head o w placed.low alive join to next (of_arms arms) (inside rest) by_labels
      (subst (λ (n : ℕ). RestAt words v plan old next n o.place join to (inside rest)) w.merge (rest_at makes_rest)) targets_stand
