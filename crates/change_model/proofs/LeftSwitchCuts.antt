-- What is made of a sequence whose first block ends in an OpSwitch that goes, and of one with an OpSwitch altogether.
use Rattle.std.proofs.Common.{◌≡◌, ℕ, ◌+◌, ◌-◌, ◌<◌, ◌≤◌, inl, inr, ◌==◌, ◌&&◌, ◌||◌, nat_lt, nat_le, Bool, true, false, List, [], ◌∷◌, ◌++◌, refl, ap, sym, ◌∙◌, arith, Option}
use Rattle.std.specs.List.{list_any}
use Rattle.std.proofs.lemmas.Bool.{eqb-true, eq-eqb, and_from, and_parts, or_parts, lt-ltb, le-leb}
use Rattle.spirv_model.specs.declared.module.Inst.{Inst}
use Rattle.spirv_model.specs.declared.module.Words.{Words}
use Rattle.spirv_model.specs.declared.op.TheConstants as op
use Rattle.spirv_model.specs.Operands.{word_at}
use Rattle.body_model.specs.declared.block_end.BlockEnd.TheVariants as kind
use Rattle.body_model.specs.declared.block_end.SwitchHead.{SwitchHead}
use Rattle.body_model.specs.Scope.{Scope, switch_arm}
use Rattle.body_model.specs.Switches.{is_among, without, arm_labels, targets_of}
use Rattle.body_model.specs.Targets.{targets}
use Rattle.valid_model.specs.Definitions.{inst_at}
use Rattle.check_model.specs.Intervals.{Interval, interval, intervals_of}
use Rattle.check_model.specs.Validity.{IsValidList}
use Rattle.unit_model.specs.ConstantScalars.{begins_at, is_nested}
use Rattle.change_model.specs.declared.fate.Fate.TheVariants as fate
use Rattle.change_model.specs.Plans.{Plan, is_dead, leads_from}
use Rattle.change_model.specs.PlanRules.{IsPlan, intervals_left, is_left_in, is_left_within, merge_labels}
use Rattle.change_model.proofs.LeftAlive.{only_among}
use Rattle.change_model.proofs.LeftArmParts.{RestAt, either_place, arm_member}
use Rattle.change_model.proofs.LeftArms.{suits_joined_switch}
use Rattle.change_model.proofs.LeftCases.{Makes, head_of, Knows}
use Rattle.change_model.proofs.LeftChosen.{any_of_range, chosen_leads, chosen_merge, chosen_arm}
use Rattle.change_model.proofs.LeftFronts.{OldBlock}
use Rattle.change_model.proofs.LeftHeadWays.{PicksWay}
use Rattle.change_model.proofs.LeftLasts.{Head, clash, refuted}
use Rattle.change_model.proofs.LeftMergeFates.{merge_here, branch_here, GoesOneWay, skipped_fate, merge_fate, switch_fate}
use Rattle.change_model.proofs.LeftRemains.{left_both}
use Rattle.change_model.proofs.LeftScopes.{StandsNot, has_bounds, Quiet, Onward, Suits, Apart, Continues, Made}
use Rattle.change_model.proofs.LeftSwitchArms.{among_without, still_among, ArmsAt, none_taken, one_taken}
use Rattle.change_model.proofs.LeftSwitchCases.{switch_targets, switch_silent, switch_stays, switch_picks}

-- ---- where no nested sequence leads to a label

none_at : (test : Interval → Bool) (from to : ℕ) (is : List Interval) → list_any (has_bounds from to) is ≡ true → list_any test is ≡ false → test (interval from to) ≡ false
none_at test from to [] among none = cc
none_at test from to (i ∷ is) among none =
    let parts = or_parts (test i) (list_any test is) none in
    by_same (has_bounds from to i) refl among parts.0 (λ more. none_at test from to is more parts.1)
  where
    by_same : (b : Bool) → has_bounds from to i ≡ b → (b || list_any (has_bounds from to) is) ≡ true → test i ≡ false → (list_any (has_bounds from to) is ≡ true → test (interval from to) ≡ false) → test (interval from to) ≡ false
    by_same true same some here rest =
        let both = and_parts (i.from == from) (i.to == to) same in
        let equal : i ≡ interval from to = ap (λ (n : ℕ). interval n i.to) (eqb-true i.from from both.0) ∙ ap (interval from) (eqb-true i.to to both.1) in
        ap test (sym equal) ∙ here
    by_same false isnt some here rest = rest some

second_none : (a b : Bool) → a ≡ true → (a && b) ≡ false → b ≡ false
second_none true b is none = none
second_none false b is none = cc

pub quiet_within : (plan : Plan) (insts : List Inst) (intervals : List Interval) (arm label from to : ℕ) → begins_at insts arm (interval from to) ≡ true → list_any (has_bounds from to) intervals ≡ true
    → is_left_within plan insts intervals arm label ≡ false → Quiet plan insts intervals from to label
quiet_within plan insts intervals arm label from to begins among none first past behind most left place least less =
    let L = intervals_left plan insts intervals in
    let inner_test = λ (inner : Interval). is_nested (interval from to) inner && is_left_in plan insts label inner in
    let outer_none : (begins_at insts arm (interval from to) && list_any inner_test L) ≡ false =
    none_at (λ (outer : Interval). begins_at insts arm outer && list_any (λ (inner : Interval). is_nested outer inner && is_left_in plan insts label inner) L) from to intervals among none in
    let all_none : list_any inner_test L ≡ false = second_none (begins_at insts arm (interval from to)) (list_any inner_test L) begins outer_none in
    let one_none : inner_test (interval first past) ≡ false = none_at inner_test first past L left all_none in
    let nested : is_nested (interval from to) (interval first past) ≡ true = and_from (nat_lt from first) (nat_le past to) (lt-ltb from first behind) (le-leb past to most) in
    let nothing : is_left_in plan insts label (interval first past) ≡ false = second_none (is_nested (interval from to) (interval first past)) (is_left_in plan insts label (interval first past)) nested one_none in
    refuted (leads_from plan insts label place) (λ leads. clash (is_left_in plan insts label (interval first past)) (any_of_range (leads_from plan insts label) (past - first) first place least (omega (arith, less, least)) leads) nothing)

module _ (words : Words) (v : IsValidList words) (zeros : List ℕ) (plan : Plan) (p : IsPlan words v zeros plan) (old new : Scope) (from : ℕ) (head : SwitchHead) (h : Head words v plan old new from (kind.Picks head))
    (w : PicksWay old h.o.inst h.o.behind h.o.place head) (join to : ℕ) (next : Option ℕ) (in_arms in_rest : List Interval)
    (arms : ArmsAt words v plan old (word_at 0 h.o.inst) (h.o.place + 1) (arm_labels (word_at 0 h.o.inst) w.last.words) (arm_labels (word_at 0 h.o.inst) w.last.words) (h.o.place + 2) [] join in_arms)
    (rest : RestAt words v plan old next (word_at 0 h.o.inst) h.o.place join to in_rest)
    (goal : Option ℕ) (onward : Onward) (known_next : Knows plan words.insts old onward next goal) (suits : Suits plan words.insts from to old new onward) (apart : Apart words.insts from to new)
    (cont : Continues plan words.insts (intervals_of v.derivation) from to new goal onward) (skip : plan.fate h.o.place ≡ fate.Skips) where
  abbrev insts : List Inst
  insts = words.insts

  abbrev intervals : List Interval
  intervals = intervals_of v.derivation

  abbrev merge : ℕ
  merge = word_at 0 h.o.inst

  abbrev branch : ℕ
  branch = h.o.place + 1

  abbrev all : List ℕ
  all = arm_labels merge w.last.words

  low : v.derivation.before + 1 ≤ branch
  low = let e = h.o.place_is in let l = h.low in omega (arith, e, l)

  high : branch < v.derivation.after
  high = let r = rest.placed.high in let f = rest.forward in let b = rest.behind in omega (arith, r, f, b)

  one_way : GoesOneWay words v zeros plan p old new from (kind.Picks head) h w.last w.rest w.at w.is high
  one_way = skipped_fate words v zeros plan p old new from (kind.Picks head) h w.last w.rest w.at w.is high skip

  abbrev label : ℕ
  label = one_way.label

  branch_is : inst_at insts branch ≡ w.last
  branch_is = branch_here words v zeros plan p old new from (kind.Picks head) h w.last w.rest w.at w.is high

  switch_op : (inst_at insts branch).op ≡ op.SWITCH
  switch_op = ap (λ (i : Inst). i.op) branch_is ∙ w.switch

  among_targets : is_among label (targets_of w.last.words) ≡ true
  among_targets = ap (is_among label) (sym (ap targets branch_is ∙ switch_targets w.last w.switch)) ∙ only_among plan insts (inst_at insts branch) label one_way.may.only

  leads : (other : ℕ) → leads_from plan insts other branch ≡ (label == other)
  leads = chosen_leads words v zeros plan p old new from (kind.Picks head) h w.last w.rest w.at w.is merge join to next in_rest (in_arms ++ in_rest) rest goal onward known_next suits apart cont skip label one_way.is_there

  silent : (other : ℕ) → is_among other (merge_labels (inst_at insts branch)) ≡ false
  silent other = switch_silent (inst_at insts branch) other switch_op

  left_all : intervals_left plan insts (in_arms ++ in_rest) ≡ intervals_left plan insts in_arms ++ intervals_left plan insts in_rest
  left_all = left_both plan insts in_arms in_rest

  abbrev Result : Type 0
  Result = Made plan insts intervals new goal onward from to (in_arms ++ in_rest)

  to_merge : label ≡ merge → Result
  to_merge same =
      let gone : is_among label all ≡ false = refuted (is_among label all) (λ among. (among_without merge label (targets_of w.last.words) among).1 same) in
      let dead = none_taken words v zeros plan p old merge branch all all (h.o.place + 2) label low leads silent gone [] join in_arms arms in
      chosen_merge words v zeros plan p old new from (kind.Picks head) h w.last w.rest w.at w.is merge join to next in_rest (in_arms ++ in_rest) rest goal onward known_next suits apart cont skip label one_way.is_there (sym same) dead.0
      (left_all ∙ ap (λ (l : List Interval). l ++ intervals_left plan insts in_rest) dead.1)

  to_arm : (label ≡ merge → ⊥) → Result
  to_arm isnt =
      let gone : is_among label [] ≡ false = refl in
      let one = one_taken words v zeros plan p old merge branch all all (h.o.place + 2) label low leads silent (still_among merge label (targets_of w.last.words) among_targets isnt) [] join in_arms gone arms in
      let x = one.arm in
      let e = h.o.place_is in
      let f = rest.forward in
      let ol = one.low in
      let oh = one.high in
      let before : branch - 1 ≡ h.o.place = omega arith in
      let own_merge : word_at 0 (inst_at insts (branch - 1)) ≡ merge = ap (λ (n : ℕ). word_at 0 (inst_at insts n)) before ∙ ap (λ (i : Inst). word_at 0 i) (merge_here words v zeros plan p old new from (kind.Picks head) h w.last w.rest w.at w.is high) in
      let none : is_left_within plan insts intervals label merge ≡ false = ap (is_left_within plan insts intervals label) (sym own_merge) ∙ one_way.may.within switch_op in
      let begins : begins_at insts label (interval one.start one.end) ≡ true = and_from ((inst_at insts one.start).op == op.LABEL) (word_at 0 (inst_at insts one.start) == label) x.is_label (eq-eqb (word_at 0 (inst_at insts one.start)) label x.own) in
      chosen_arm words v zeros plan p old new from (kind.Picks head) h w.last w.rest w.at w.is merge join to next in_rest (in_arms ++ in_rest) rest goal onward known_next suits apart cont skip label one_way.is_there (λ same. isnt (sym same))
      (switch_arm old merge (without label all)) one.start one.end one.inner x oh (quiet_within plan insts intervals label merge one.start one.end begins (arm_member words v zeros plan p (switch_arm old merge (without label all)) merge branch label one.start one.end one.inner x low) none)
      (λ further more merges. suits_joined_switch plan insts from one.start one.end to merge old new onward (omega (arith, e, ol)) (omega (arith, f, oh)) suits further more merges (without label all)) one.before one.behind
      (left_all ∙ ap (λ (l : List Interval). l ++ intervals_left plan insts in_rest) one.same)

  pub switch_goes : Result
  switch_goes = either_place label merge to_merge to_arm

-- ---- all of it

pub picks_case : (words : Words) (v : IsValidList words) (zeros : List ℕ) (plan : Plan) → IsPlan words v zeros plan → (old : Scope) (from : ℕ) (head : SwitchHead) (o : OldBlock words.insts old from (kind.Picks head))
    → (w : PicksWay old o.inst o.behind o.place head) → v.derivation.before + 1 ≤ from → is_dead (plan.fate from) ≡ false → (join to : ℕ) (next : Option ℕ) (in_arms in_rest : List Interval)
    → ArmsAt words v plan old (word_at 0 o.inst) (o.place + 1) (arm_labels (word_at 0 o.inst) w.last.words) (arm_labels (word_at 0 o.inst) w.last.words) (o.place + 2) [] join in_arms
    → RestAt words v plan old next (word_at 0 o.inst) o.place join to in_rest
    → ((label : ℕ) → is_among label (targets_of w.last.words) ≡ true → StandsNot words.insts from to label → ⊥) → Makes words v plan old next from to (in_arms ++ in_rest)
picks_case words v zeros plan p old from head o w low alive join to next in_arms in_rest arms rest stand new goal onward known_next phis suits apart cont =
    let f = rest.forward in
    let t = rest.placed.high in
    let b = rest.behind in
    let h = head_of words v zeros plan p old new from to (kind.Picks head) onward o low (omega (arith, b, f, t)) alive phis suits in
    elim (merge_fate words v zeros plan p old new from (kind.Picks head) h w.last w.rest w.at w.is (omega (arith, b, f, t))) [
      | inl stay ↦ elim (switch_fate words v zeros plan p old new from (kind.Picks head) h w.last w.rest w.at w.is (omega (arith, b, f, t)) stay w.switch) [
        | inl stay_too ↦ switch_stays words v zeros plan p old new from head h w join to next in_arms in_rest arms rest stand goal onward known_next suits apart cont stay stay_too
        | inr pick ↦ switch_picks words v zeros plan p old new from head h w join to next in_arms in_rest arms rest stand goal onward known_next suits apart cont stay pick.0 pick.1
      ]
      | inr skip ↦ switch_goes words v zeros plan p old new from head h w join to next in_arms in_rest arms rest goal onward known_next suits apart cont skip
    ]
