-- A sequence whose first block is the header of a loop: what is known of the loop's parts, of which code is made.
use Rattle.std.proofs.Common.{◌≡◌, ℕ, ◌+◌, ◌-◌, ◌<◌, ◌≤◌, ◌⊎◌, inl, inr, Bool, true, false, not, ◌==◌, ◌&&◌, List, [], ◌∷◌, ◌++◌, slice_index, refl, ap, sym, ◌∙◌, arith, Option, None, Some}
use Rattle.std.proofs.lemmas.Bool.{eqb-true}
use Rattle.spirv_model.specs.declared.module.Inst.{Inst}
use Rattle.spirv_model.specs.declared.module.Words.{Words}
use Rattle.spirv_model.specs.declared.op.TheConstants as op
use Rattle.spirv_model.specs.Operands.{word_at}
use Rattle.body_model.specs.declared.block_end.BlockEnd.{BlockEnd}
use Rattle.body_model.specs.declared.block_end.BlockEnd.TheVariants as kind
use Rattle.body_model.specs.declared.block_end.LoopHead.{LoopHead}
use Rattle.body_model.specs.Blocks.{exit_to, may_have_phis, block_end}
use Rattle.body_model.specs.Due.{IsDue}
use Rattle.body_model.specs.Grammar.{Sequence, ends, goes_on, selects, picks, loops}
use Rattle.body_model.specs.Scope.{Scope, behind_loop, condition, body, continuing}
use Rattle.body_model.specs.Switches.{is_among}
use Rattle.body_model.specs.Targets.{targets}
use Rattle.body_model.proofs.Forward.{sound_at, forward, arm_forward, arms_forward}
use Rattle.valid_model.specs.Definitions.{inst_at}
use Rattle.check_model.specs.Intervals.{Interval, around, inside, intervals_of}
use Rattle.check_model.specs.Validity.{IsValidList}
use Rattle.stage_model.proofs.CodeRuns.{one_name}
use Rattle.stage_model.proofs.Exits.{condition_exit}
use Rattle.unit_model.specs.ConstantScalars.{is_behind}
use Rattle.change_model.specs.Plans.{Plan, is_dead}
use Rattle.change_model.specs.PlanRules.{IsPlan, merge_labels, is_test_of}
use Rattle.change_model.proofs.LeftBlockNames.{by_merge, inst_there, unselected}
use Rattle.change_model.proofs.LeftCases.{KeepsPhis, Makes, among_first, among_second}
use Rattle.change_model.proofs.LeftEnds.{Way, exits, tests_true, tests_false, returns, kills, goes, selects as selects_way, picks as picks_way, loops as loops_way, way}
use Rattle.change_model.proofs.LeftFronts.{OldBlock, old_block}
use Rattle.change_model.proofs.LeftLeaves.{names_in, block_names}
use Rattle.change_model.proofs.LeftMerges.{merges_in}
use Rattle.change_model.proofs.LeftPhis.{keeps_unmerged}
use Rattle.change_model.proofs.LeftPlaced.{Unbranched}
use Rattle.change_model.proofs.LeftPlacedLoops.{test_stands, inner_stands, next_stands, merge_stands, placed_test, placed_body, placed_step, unmerged_test, unbranched_test, unbranched_body, unbranched_step}
use Rattle.change_model.proofs.LeftPlacedWhole.{labels_once}
use Rattle.change_model.proofs.LeftQuiet.{NoWay, quiet_inside}
use Rattle.change_model.proofs.LeftRemains.{no_loop_before, BeginIn, begin_inside}
use Rattle.change_model.proofs.LeftScopes.{names, StandsNot, Quiet, Placed}
use Rattle.change_model.proofs.LeftTargets.{Stands}
use Rattle.change_model.proofs.LeftTested.{IsTest, test_scope}
use Rattle.change_model.proofs.LeftTests.{choice_targets}
use Rattle.change_model.proofs.LeftWays.{LoopWay, loop_way}

clash : {Q : Type 0} (b : Bool) → b ≡ true → b ≡ false → Q
clash true is isnt = cc
clash false is isnt = cc

-- ---- the end of a condition sequence

-- a test of the loop between the places
pub record TestAt (insts : List Inst) (merge from to : ℕ) : Type 0 where
  pub at : ℕ
  pub low : from ≤ at
  pub high : at < to
  pub is : is_test_of insts merge at ≡ true

same_some : (a b : ℕ) (known : Option ℕ) → known ≡ Some a → known ≡ Some b → a ≡ b
same_some a b known first second = cc

never : {Q : Type 0} {X : Type 0} {found : Option X} {x : X} → found ≡ Some x → found ≡ None → Q
never some none = cc

three : (a b c : Bool) → a ≡ true → b ≡ false → c ≡ true → (a && not b && c) ≡ true
three a b c first second third = rw first (rw second (rw third refl))

module _ (insts : List Inst) (merge : ℕ) where
  abbrev IsTestBlock : (scope : Scope) → ℕ → ℕ → BlockEnd → Type 0
  IsTestBlock scope from place (kind.Ends last) = (is_test_of insts merge place ≡ true) × (last.after ≡ place + 1)
  IsTestBlock scope from place other = Unit {0}

  test_by : (scope : Scope) (from : ℕ) (end : BlockEnd) (o : OldBlock insts scope from end) → scope.test ≡ Some merge → IsTest scope → (e : BlockEnd) → Way scope (slice_index o.label.words 0) o.inst o.behind o.place e → IsTestBlock scope from o.place e
  test_by scope from end o known t e (tests_true is test apart) =
      let there = inst_there insts scope from end o in
      let same = same_some merge (slice_index o.inst.words 2) scope.test known test in (
        three ((inst_at insts o.place).op == op.BRANCH_CONDITIONAL) (is_behind op.SELECTION_MERGE insts o.place) (is_among merge (targets (inst_at insts o.place)))
            (ap (λ (i : Inst). i.op == op.BRANCH_CONDITIONAL) there ∙ ap (λ (n : ℕ). n == op.BRANCH_CONDITIONAL) is) (unselected insts scope from end o)
            (ap (λ (i : Inst). is_among merge (targets i)) there ∙ ap (is_among merge) (choice_targets o.inst is) ∙ ap (λ (n : ℕ). is_among n (word_at 1 o.inst ∷ word_at 2 o.inst ∷ [])) same ∙ among_second (word_at 2 o.inst) (word_at 1 o.inst)),
        refl,
      )
  test_by scope from end o known t e (tests_false is test apart) =
      let there = inst_there insts scope from end o in
      let same = same_some merge (slice_index o.inst.words 1) scope.test known test in (
        three ((inst_at insts o.place).op == op.BRANCH_CONDITIONAL) (is_behind op.SELECTION_MERGE insts o.place) (is_among merge (targets (inst_at insts o.place)))
            (ap (λ (i : Inst). i.op == op.BRANCH_CONDITIONAL) there ∙ ap (λ (n : ℕ). n == op.BRANCH_CONDITIONAL) is) (unselected insts scope from end o)
            (ap (λ (i : Inst). is_among merge (targets i)) there ∙ ap (is_among merge) (choice_targets o.inst is) ∙ ap (λ (n : ℕ). is_among n (word_at 1 o.inst ∷ word_at 2 o.inst ∷ [])) same ∙ among_first (word_at 1 o.inst) (word_at 2 o.inst ∷ [])),
        refl,
      )
  test_by scope from end o known t e (exits is free to) = never to (t.exits (slice_index o.inst.words 0))
  test_by scope from end o known t e (returns is may) = clash scope.may_end may t.ends
  test_by scope from end o known t e (kills is may) = clash scope.may_end may t.ends
  test_by scope from end o known t e (goes is free to begins) = tt
  test_by scope from end o known t e (selects_way is at branch few apart) = tt
  test_by scope from end o known t e (picks_way is at switch few apart) = tt
  test_by scope from end o known t e (loops_way is may at branch few free) = tt

  earlier : (low from to : ℕ) → low ≤ from → TestAt insts merge from to → TestAt insts merge low to
  earlier low from to less t = record { at = t.at; low = let l = t.low in omega (arith, less, l); high = t.high; is = t.is }

  behind_it : (a b : Scope) → a.may_end ≡ b.may_end → IsTest a → ((label : ℕ) → exit_to a label ≡ exit_to b label) → IsTest b
  behind_it a b same t also = record { exits = λ label. sym (also label) ∙ t.exits label; ends = sym same ∙ t.ends }

  -- a condition sequence has one
  pub test_there : {scope : Scope} {wanted next : Option ℕ} {from to : ℕ} → Sequence insts scope wanted from to next → scope.test ≡ Some merge → IsTest scope → TestAt insts merge from to
  test_there {scope} {wanted} {next} {from} {to} (ends last here is label_is place_is) known t =
      let o = old_block insts scope wanted from (kind.Ends last) here is tt in
      let b = test_by scope from (kind.Ends last) o known t (kind.Ends last) (way scope (slice_index o.label.words 0) o.inst o.behind o.place (kind.Ends last) o.ends tt) in
      let e = o.place_is in
      let a = b.1 in
      record { at = o.place; low = omega (arith, e); high = omega (arith, a, place_is); is = b.0 }
  test_there {scope} {wanted} {next} {from} {to} (goes_on after here is rest) known t =
      let f = (sound_at insts scope from (kind.GoesOn after) is).forward in
      earlier from after to (omega (arith, f)) (test_there rest known (behind_it scope _ refl t (λ label. refl)))
  test_there {scope} {wanted} {next} {from} {to} (selects head second join here is on_true on_false rest) known t =
      let f = (sound_at insts scope from (kind.Selects head) is).0.forward in
      let p = arm_forward insts on_true in
      let q = arm_forward insts on_false in
      earlier from join to (omega (arith, f, p, q)) (test_there rest known (behind_it scope _ refl t (λ label. refl)))
  test_there {scope} {wanted} {next} {from} {to} (picks head join here is arms rest) known t =
      let f = (sound_at insts scope from (kind.Picks head) is).0.forward in
      let p = arms_forward insts arms in
      earlier from join to (omega (arith, f, p)) (test_there rest known (behind_it scope _ refl t (λ label. refl)))
  test_there {scope} {wanted} {next} {from} {to} (loops head inner first second third here is tested within step rest) known t =
      let f = (sound_at insts scope from (kind.Loops head) is).0.forward in
      let p = (forward insts tested).forward in
      let q = (forward insts within).forward in
      let r = (forward insts step).forward in
      earlier from third to (omega (arith, f, p, q, r)) (test_there rest known (behind_it scope _ refl t (λ label. refl)))

-- ---- the loop

-- a loop at the places, of whose parts code is made
pub record LoopAt (words : Words) (v : IsValidList words) (plan : Plan) (old : Scope) (next : Option ℕ) (from to : ℕ) (head : LoopHead) (inner first second third : ℕ) (in_test in_body in_step in_rest : List Interval) : Type 0 where
  pub o : OldBlock words.insts old from (kind.Loops head)
  pub w : LoopWay old (slice_index o.label.words 0) o.inst o.behind o.place head
  pub placed : Placed words.insts v.derivation old next from to (around head.after first in_test ++ (around first second in_body ++ (around second third in_step ++ in_rest)))
  -- where the parts end
  pub past_header : from < head.after
  pub past_test : head.after < first
  pub past_body : first < second
  pub past_step : second < third
  pub past_rest : third < to
  -- the labels of their first blocks
  pub at_test : Stands words.insts head.test head.after
  pub at_inner : Stands words.insts inner first
  pub at_next : Stands words.insts head.next second
  pub at_merge : Stands words.insts head.merge third
  pub header : (place label : ℕ) → from ≤ place → place < head.after → names words.insts place label ≡ true → (label ≡ head.test) ⊎ ((label ≡ head.merge) ⊎ (label ≡ head.next))
  pub tested : (place label : ℕ) → head.after ≤ place → place < first → names words.insts place label ≡ true → (StandsNot words.insts head.after first label → ⊥) ⊎ ((label ≡ head.merge) ⊎ (label ≡ inner))
  pub merged : (place label : ℕ) → head.after ≤ place → place < first → is_among label (merge_labels (inst_at words.insts place)) ≡ true → StandsNot words.insts head.after first label → ⊥
  pub test : TestAt words.insts head.merge head.after first
  pub quiet : (label : ℕ) → StandsNot words.insts head.after first label → Quiet plan words.insts (intervals_of v.derivation) head.after first label
  -- the parts
  pub placed_test : Placed words.insts v.derivation (condition old head.merge) (Some inner) head.after first in_test
  pub placed_body : Placed words.insts v.derivation (body old head.merge head.next) None first second in_body
  pub placed_step : Placed words.insts v.derivation (continuing old head.header) None second third in_step
  pub phis_test : (new : Scope) → may_have_phis new.phis true ≡ true → KeepsPhis plan words.insts head.after (condition old head.merge) new
  pub branch_test : Unbranched words.insts head.after
  pub branch_body : Unbranched words.insts first
  pub branch_step : Unbranched words.insts second
  pub before_body : (inst_at words.insts (first - 2)).op == op.LOOP_MERGE ≡ false
  pub before_step : (inst_at words.insts (second - 2)).op == op.LOOP_MERGE ≡ false
  pub in_first : BeginIn first second in_body
  pub in_second : BeginIn second third in_step
  pub makes_test : is_dead (plan.fate head.after) ≡ false → Makes words v plan (condition old head.merge) (Some inner) head.after first in_test
  pub makes_body : is_dead (plan.fate first) ≡ false → Makes words v plan (body old head.merge head.next) None first second in_body
  pub makes_step : is_dead (plan.fate second) ≡ false → Makes words v plan (continuing old head.header) None second third in_step
  pub makes_rest : is_dead (plan.fate third) ≡ false → Makes words v plan (behind_loop old) next third to in_rest

module _ (words : Words) (v : IsValidList words) (zeros : List ℕ) (plan : Plan) (p : IsPlan words v zeros plan) (old : Scope) (wanted next : Option ℕ) (from to : ℕ) (head : LoopHead) (inner first second third : ℕ) (here : IsDue words.insts wanted from)
    (is : block_end words.insts old from ≡ kind.Loops head) (tested : Sequence words.insts (condition old head.merge) (Some head.test) head.after first (Some inner)) (within : Sequence words.insts (body old head.merge head.next) (Some inner) first second None)
    (step : Sequence words.insts (continuing old head.header) (Some head.next) second third None) (rest : Sequence words.insts (behind_loop old) (Some head.merge) third to next)
    (placed : Placed words.insts v.derivation old next from to (around head.after first (inside tested) ++ (around first second (inside within) ++ (around second third (inside step) ++ inside rest)))) where
  header_names : (place label : ℕ) → from ≤ place → place < head.after → names words.insts place label ≡ true → (label ≡ head.test) ⊎ ((label ≡ head.merge) ⊎ (label ≡ head.next))
  header_names place label low high named =
      let f = (sound_at words.insts old from (kind.Loops head) is).0 in
      block_names {Q = λ label. (label ≡ head.test) ⊎ ((label ≡ head.merge) ⊎ (label ≡ head.next))} words.insts old wanted from (kind.Loops head) here is tt f.within
      (λ b label among. inl (one_name label head.test (targets b.last) b.ends.0 among)) (λ label merged. inr merged) place label low high named

  test_names : (place label : ℕ) → head.after ≤ place → place < first → names words.insts place label ≡ true → (StandsNot words.insts head.after first label → ⊥) ⊎ ((label ≡ head.merge) ⊎ (label ≡ inner))
  test_names place label low high named = elim (names_in words.insts tested place label low high named) [
    | inl s ↦ inl (λ none. none s.at s.low s.high s.stands.is_label s.stands.own)
    | inr may ↦ inr (test_label (label == head.merge) (λ merges. inl (eqb-true label head.merge merges)) (λ differs. inr (condition_exit old head.merge inner label may differs)))
  ]
    where
      test_label : {Q : Type 0} (b : Bool) → (b ≡ true → Q) → (b ≡ false → Q) → Q
      test_label true f g = f refl
      test_label false f g = g refl

  no_way : (label : ℕ) → NoWay (condition old head.merge) label
  no_way label = record { leave = λ same. cc; exits = λ exits same one. cc }

  pub loop_at : (is_dead (plan.fate head.after) ≡ false → Makes words v plan (condition old head.merge) (Some inner) head.after first (inside tested))
      → (is_dead (plan.fate first) ≡ false → Makes words v plan (body old head.merge head.next) None first second (inside within))
      → (is_dead (plan.fate second) ≡ false → Makes words v plan (continuing old head.header) None second third (inside step))
      → (is_dead (plan.fate third) ≡ false → Makes words v plan (behind_loop old) next third to (inside rest))
      → LoopAt words v plan old next from to head inner first second third (inside tested) (inside within) (inside step) (inside rest)
  loop_at of_test of_body of_step of_rest =
      let insts = words.insts in
      let once = labels_once words v in
      let d = v.derivation in
      let o = old_block insts old wanted from (kind.Loops head) here is tt in
      let pt = placed_test insts once d old wanted next from to head inner first second third here is tested within step rest placed in
      record {
        o = o;
        w = loop_way old (slice_index o.label.words 0) o.inst o.behind o.place (kind.Loops head) (way old (slice_index o.label.words 0) o.inst o.behind o.place (kind.Loops head) o.ends tt);
        placed = placed;
        past_header = (sound_at insts old from (kind.Loops head) is).0.forward;
        past_test = (forward insts tested).forward;
        past_body = (forward insts within).forward;
        past_step = (forward insts step).forward;
        past_rest = (forward insts rest).forward;
        at_test = test_stands insts once d old wanted next from to head inner first second third here is tested within step rest head.test refl;
        at_inner = inner_stands insts once d old wanted next from to head inner first second third here is tested within step rest inner refl;
        at_next = next_stands insts once d old wanted next from to head inner first second third here is tested within step rest head.next refl;
        at_merge = merge_stands insts once d old wanted next from to head inner first second third here is tested within step rest head.merge refl;
        header = header_names;
        tested = test_names;
        merged = λ place label low high among none. (let s = merges_in insts tested place label low high (by_merge among) in let l = s.low in none s.at (omega (arith, l, low)) s.high s.stands.is_label s.stands.own);
        test = test_there insts head.merge tested refl (test_scope old head.merge);
        quiet = λ label none. quiet_inside words v zeros plan p (condition old head.merge) (Some head.test) (Some inner) head.after first label tested pt (no_way label) none;
        placed_test = pt;
        placed_body = placed_body insts once d old wanted next from to head inner first second third here is tested within step rest placed;
        placed_step = placed_step insts once d old wanted next from to head inner first second third here is tested within step rest placed;
        phis_test = λ new header. keeps_unmerged words v zeros plan p (condition old head.merge) (Some head.test) (Some inner) head.after first tested pt.low pt.high new header
            (unmerged_test insts once d old wanted next from to head inner first second third here is tested within step rest placed);
        branch_test = unbranched_test insts once d old wanted next from to head inner first second third here is tested within step rest placed;
        branch_body = unbranched_body insts once d old wanted next from to head inner first second third here is tested within step rest placed;
        branch_step = unbranched_step insts once d old wanted next from to head inner first second third here is tested within step rest placed;
        before_body = no_loop_before insts tested;
        before_step = no_loop_before insts within;
        in_first = begin_inside insts within;
        in_second = begin_inside insts step;
        makes_test = of_test;
        makes_body = of_body;
        makes_step = of_step;
        makes_rest = of_rest;
      }
