-- What holds of the intervals of an arm of an OpSwitch with a branch that leads to the block of a phi behind all arms.
use Rattle.std.proofs.Common.{◌≡◌, ℕ, ◌+◌, ◌-◌, ◌<◌, ◌≤◌, inl, Bool, true, false, ◌==◌, ◌||◌, ◌&&◌, nat_lt, nat_le, if◌then◌else◌, List, [], ◌∷◌, ◌++◌, refl, ap, sym, ◌∙◌, arith, Option, None, Some}
use Rattle.std.specs.Prelude.{filter}
use Rattle.std.specs.List.{list_any}
use Rattle.std.proofs.lemmas.Bool.{eqb-true, eq-eqb, lt-ltb, le-leb}
use Rattle.spirv_model.specs.declared.module.Inst.{Inst}
use Rattle.spirv_model.specs.declared.op.TheConstants as op
use Rattle.spirv_model.specs.Operands.{word_at}
use Rattle.body_model.specs.declared.block_end.BlockEnd.TheVariants as way
use Rattle.body_model.specs.declared.block_end.SwitchHead.{SwitchHead}
use Rattle.body_model.specs.Blocks.{block_end}
use Rattle.body_model.specs.Due.{IsDue}
use Rattle.body_model.specs.Grammar.{Sequence, ends, goes_on, selects, picks, loops, Arms, Derives}
use Rattle.body_model.specs.Scope.{Scope, behind_selection, switch_arm}
use Rattle.body_model.specs.Switches.{without, labels_of}
use Rattle.body_model.proofs.Forward.{sound_at, forward, arm_forward, arms_forward}
use Rattle.valid_model.specs.Definitions.{inst_at}
use Rattle.check_model.specs.Intervals.{Interval, interval, around, inside, of_arm, of_arms, intervals_of}
use Rattle.stage_model.proofs.CodeRuns.{due_of}
use Rattle.stage_model.proofs.Exits.{switch_exit}
use Rattle.typed_model.proofs.Keeping.{LieIn, wider, lie_both, lie_around}
use Rattle.typed_model.proofs.VisibleJumps.{lies, arm_lies, arms_lie}
use Rattle.unit_model.specs.ConstantScalars.{begins_at, is_nested}
use Rattle.change_model.specs.declared.fate.Fate.{Fate}
use Rattle.change_model.specs.declared.fate.Fate.TheVariants as fate
use Rattle.change_model.specs.Plans.{leads_from}
use Rattle.change_model.specs.PlanRules.{is_skipped, remains, intervals_left, is_left_in, is_left_within}
use Rattle.change_model.specs.Passes.{switched_way}
use Rattle.change_model.proofs.BlockEntries.{Begins, begins, arms_silent}
use Rattle.change_model.proofs.ConditionNames.{old_pick, pick_way}
use Rattle.change_model.proofs.FoundArms.{leaves}
use Rattle.change_model.proofs.FoundCrossings.{Into, Holds, label_low, arm_crossed}
use Rattle.change_model.proofs.FoundFits.{within}
use Rattle.change_model.proofs.FoundOrigins.{Origin, goes_away, by_phi, by_load, by_chain, by_untyped, by_selection, by_loop, by_end, by_branch, by_switch, by_picks, by_folds, origin}
use Rattle.change_model.proofs.FoundOrigins as source
use Rattle.change_model.proofs.FoundPlans.{Found}
use Rattle.change_model.proofs.LeftBlockNames.{inst_there, second_there}
use Rattle.change_model.proofs.LeftChosen.{any_of_range}
use Rattle.change_model.proofs.LeftPlaced.{stands_at_due}
use Rattle.change_model.proofs.LeftPlacedArms.{PlacedArm}
use Rattle.change_model.proofs.LeftPlacedWhole.{labels_once}
use Rattle.change_model.proofs.LeftScopes.{is_label_at, label_at, Placed}
use Rattle.change_model.proofs.ArmEntries.{unmerged_by}
use Rattle.change_model.proofs.TakenOperands.{clash}

-- what is nested in a sequence lies behind its first label
lies_behind : (insts : List Inst) {scope : Scope} {wanted next : Option ℕ} {from to : ℕ} (s : Sequence insts scope wanted from to next) → LieIn (from + 1) to (inside s)
lies_behind insts (ends last here is next_is after_is) = tt
lies_behind insts {scope} {wanted} {next} {from} {to} (goes_on after here is rest) =
    let f = (sound_at insts scope from (way.GoesOn after) is).forward in
    wider after to (from + 1) to (inside rest) (omega (arith, f)) (omega arith) (lies insts rest)
lies_behind insts {scope} {wanted} {next} {from} {to} (selects head second join here is on_true on_false rest) =
    let f = (sound_at insts scope from (way.Selects head) is).0.forward in
    let p = arm_forward insts on_true in
    let q = arm_forward insts on_false in
    let g = (forward insts rest).forward in
    lie_both (from + 1) to (of_arm on_true) (of_arm on_false ++ inside rest) (wider head.after second (from + 1) to (of_arm on_true) (omega (arith, f)) (omega (arith, q, g)) (arm_lies insts on_true))
    (lie_both (from + 1) to (of_arm on_false) (inside rest) (wider second join (from + 1) to (of_arm on_false) (omega (arith, f, p)) (omega (arith, g)) (arm_lies insts on_false))
    (wider join to (from + 1) to (inside rest) (omega (arith, f, p, q)) (omega arith) (lies insts rest)))
lies_behind insts {scope} {wanted} {next} {from} {to} (picks head join here is arms rest) =
    let f = (sound_at insts scope from (way.Picks head) is).0.forward in
    let p = arms_forward insts arms in
    let g = (forward insts rest).forward in
    lie_both (from + 1) to (of_arms arms) (inside rest) (wider head.after join (from + 1) to (of_arms arms) (omega (arith, f)) (omega (arith, g)) (arms_lie insts arms))
    (wider join to (from + 1) to (inside rest) (omega (arith, f, p)) (omega arith) (lies insts rest))
lies_behind insts {scope} {wanted} {next} {from} {to} (loops head inner first second third here is tested body step rest) =
    let f = (sound_at insts scope from (way.Loops head) is).0.forward in
    let p = (forward insts tested).forward in
    let q = (forward insts body).forward in
    let r = (forward insts step).forward in
    let g = (forward insts rest).forward in
    let C = around head.after first (inside tested) in
    let D = around first second (inside body) in
    let E = around second third (inside step) in
    lie_both (from + 1) to C (D ++ (E ++ inside rest)) (wider head.after first (from + 1) to C (omega (arith, f)) (omega (arith, q, r, g)) (lie_around head.after first (inside tested) (lies insts tested)))
    (lie_both (from + 1) to D (E ++ inside rest) (wider first second (from + 1) to D (omega (arith, f, p)) (omega (arith, r, g)) (lie_around first second (inside body) (lies insts body)))
    (lie_both (from + 1) to E (inside rest) (wider second third (from + 1) to E (omega (arith, f, p, q)) (omega (arith, g)) (lie_around second third (inside step) (lies insts step)))
    (wider third to (from + 1) to (inside rest) (omega (arith, f, p, q, r)) (omega arith) (lies insts rest))))

-- ---- tests

and_true : (a b : Bool) → a ≡ true → b ≡ true → (a && b) ≡ true
and_true true b is also = also
and_true false b is also = cc

any_filtered : (test keep : Interval → Bool) (is : List Interval) → list_any (λ i. keep i && test i) is ≡ true → list_any test (filter keep is) ≡ true
any_filtered test keep [] some = cc
any_filtered test keep (i ∷ is) some = by_tests (keep i) (test i) refl some (any_filtered test keep is)
  where
    by_tests : (a b : Bool) → test i ≡ b → ((a && b) || list_any (λ i. keep i && test i) is) ≡ true → (list_any (λ i. keep i && test i) is ≡ true → list_any test (filter keep is) ≡ true)
        → list_any test (if a then i ∷ filter keep is else filter keep is) ≡ true
    by_tests true true is_so some more = rw is_so refl
    by_tests true false is_so some more = rw is_so (more some)
    by_tests false b is_so some more = more some

other_op : {Q : Type 0} (opcode known other : ℕ) → opcode ≡ known → opcode ≡ other → known == other ≡ false → Q
other_op opcode known other is same differ = clash (known == other) (eq-eqb known other (sym is ∙ same)) differ

test_label : {Q : Type 0} (b : Bool) → (b ≡ true → Q) → (b ≡ false → Q) → Q
test_label true f g = f refl
test_label false f g = g refl

one_label : (a b : ℕ) → fate.Goes a ≡ fate.Goes b → a ≡ b
one_label a b is = cc

-- the way of an OpSwitch that goes
switch_way : (f : Found) (place : ℕ) (what : Fate) → Origin f place what → (label : ℕ) → what ≡ fate.Goes label → (inst_at f.words.insts place).op ≡ op.SWITCH
    → (is_skipped (f.plan.fate (place - 1)) ≡ true) × (switched_way f.plan f.words.insts place ≡ Some label)
switch_way f place what (by_switch to own skipped way) label same is = (skipped, way ∙ ap (λ (n : ℕ). Some n) (one_label to label same))
switch_way f place what (by_end to own unselected held known) label same is = other_op (inst_at f.words.insts place).op op.BRANCH_CONDITIONAL op.SWITCH own is refl
switch_way f place what (by_branch to own selected skipped way) label same is = other_op (inst_at f.words.insts place).op op.BRANCH_CONDITIONAL op.SWITCH own is refl
switch_way f place what goes_away label same is = cc
switch_way f place what source.stays label same is = cc
switch_way f place what (by_phi own) label same is = cc
switch_way f place what (by_load own empty) label same is = cc
switch_way f place what (by_chain own empty) label same is = cc
switch_way f place what (by_untyped own untyped) label same is = cc
switch_way f place what (by_selection to own free way) label same is = cc
switch_way f place what (by_loop own opened) label same is = cc
switch_way f place what (by_picks to own free way) label same is = cc
switch_way f place what (by_folds known own comes) label same is = cc

module _ (f : Found) (place end : ℕ) (w : Into f place end) where
  abbrev insts : List Inst
  insts = f.words.insts

  abbrev d : Derives f.words.insts
  d = f.valid.derivation

  -- ---- where the arm isn't left from within, nothing nested in it remains that has the branch

  module _ (arm low past : ℕ) (none : is_left_within f.plan f.words.insts (intervals_of f.valid.derivation) arm (label_at f.words.insts w.at) ≡ false) (begins_there : begins_at f.words.insts arm (interval low past) ≡ true)
      (outer_among : (test : Interval → Bool) → test (interval low past) ≡ true → list_any test (intervals_of f.valid.derivation) ≡ true) where
    abbrev Nested : Interval → Bool
    Nested inner = is_nested (interval low past) inner && is_left_in f.plan f.words.insts (label_at f.words.insts w.at) inner

    none_nested : list_any Nested (intervals_left f.plan f.words.insts (intervals_of f.valid.derivation)) ≡ true → ⊥
    none_nested some =
        let label = label_at insts w.at in
        clash (is_left_within f.plan insts (intervals_of d) arm label)
        (outer_among (λ outer. begins_at insts arm outer && list_any (λ inner. is_nested outer inner && is_left_in f.plan insts label inner) (intervals_left f.plan insts (intervals_of d)))
        (and_true (begins_at insts arm (interval low past)) _ begins_there some)) none

    one_nested : (i : Interval) → low + 1 ≤ i.from → i.to ≤ past → ((test : Interval → Bool) → test i ≡ true → list_any test (intervals_of f.valid.derivation) ≡ true) → remains f.plan f.words.insts i ≡ true → i.from ≤ end → end < i.to → ⊥
    unfolding intervals_left
    one_nested i least most among stay from_it to_it =
        let label = label_at insts w.at in
        let nested = and_true (nat_lt low i.from) (nat_le i.to past) (lt-ltb low i.from (omega (arith, least))) (le-leb i.to past most) in
        let leads = any_of_range (leads_from f.plan insts label) (i.to - i.from) i.from end from_it (omega (arith, from_it, to_it)) w.leads in
        none_nested (any_filtered Nested (remains f.plan insts) (intervals_of d)
        (among (λ i. remains f.plan insts i && Nested i) (and_true (remains f.plan insts i) (Nested i) stay (and_true (is_nested (interval low past) i) (is_left_in f.plan insts label i) nested leads))))

    nested_holds : (is : List Interval) → LieIn (low + 1) past is → ((test : Interval → Bool) → list_any test is ≡ true → list_any test (intervals_of f.valid.derivation) ≡ true) → Holds f place end w is
    nested_holds [] lie among = tt
    nested_holds (i ∷ is) lie among = (
      λ stay least less. absurd (one_nested i lie.0 lie.1 (λ test own. among test (by_first (test i) (list_any test is) own)) stay least less),
      nested_holds is lie.2 (λ test some. among test (by_rest (test i) (list_any test is) some)),
    )
      where
        by_first : (a b : Bool) → a ≡ true → (a || b) ≡ true
        by_first true b is = refl
        by_first false b is = cc

        by_rest : (a b : Bool) → b ≡ true → (a || b) ≡ true
        by_rest true b is = refl
        by_rest false b is = is

  -- ---- an arm of an OpSwitch

  module _ (scope : Scope) (wanted next : Option ℕ) (from to : ℕ) (head : SwitchHead) (join : ℕ) (here : IsDue f.words.insts wanted from) (is : block_end f.words.insts scope from ≡ way.Picks head)
      (arms : Arms f.words.insts scope head.merge (labels_of f.words.insts head) (labels_of f.words.insts head) head.after [] join) (rest : Sequence f.words.insts (behind_selection scope) (Some head.merge) join to next)
      (p : Placed f.words.insts f.valid.derivation scope next from to (of_arms arms ++ inside rest)) (high : place < to) where
    -- nothing but the OpSwitch names the arm's label
    arm_begins : (cut : ℕ) → is_label_at f.words.insts cut ≡ true → head.after ≤ cut → cut < join → {left : List ℕ} → Arms f.words.insts scope head.merge (labels_of f.words.insts head) (labels_of f.words.insts head) head.after left cut
        → Begins f.words.insts head.after cut
    arm_begins cut label low less earlier =
        let g = (sound_at insts scope from (way.Picks head) is).0 in
        let g' = g.forward in
        let h = (forward insts rest).forward in
        let once = labels_once f.words f.valid in
        let all = of_arms arms ++ inside rest in
        let merge = stands_at_due insts head.merge head.merge join refl (due_of rest) in
        let other : cut ≡ join → ⊥ = (λ same. omega (arith, same, less)) in
        begins insts once d scope next from to all p cut (omega (arith, g', low)) (omega (arith, less, h)) label wanted (way.Picks head) here is tt g.within
        (λ q least under named. arms_silent insts once d scope next from to all p cut (omega (arith, g', low)) (omega (arith, less, h)) label join earlier merge other (omega arith) q least under named)
        (λ q least under among. unmerged_by insts scope wanted from (way.Picks head) here is tt (label_at insts cut) (λ same. other (once cut join label merge.is_label (same ∙ sym merge.own))) (λ none. none) q least under among)

    merges : (own low past : ℕ) → Sequence f.words.insts (switch_arm scope head.merge (without own (labels_of f.words.insts head))) (Some own) low past None → is_label_at f.words.insts past ≡ true → from ≤ low → past ≤ place → low ≤ end → end < past
        → label_at f.words.insts w.at ≡ head.merge
    merges own low past s label down most least less = test_label (label_at insts w.at == head.merge) (λ same. eqb-true (label_at insts w.at) head.merge same)
        (λ differs.
        let may = switch_exit scope head.merge (without own (labels_of insts head)) next (label_at insts w.at) (leaves f place end w s label most least less) differs in
        let at = label_low f place end w past label most in
        let behind = w.behind in
        absurd (p.left (label_at insts w.at) may w.at (omega (arith, down, least, less, at)) (omega (arith, behind, high)) w.label refl))

    pub switch_arm_holds : (own low past : ℕ) {left : List ℕ} → Arms f.words.insts scope head.merge (labels_of f.words.insts head) (labels_of f.words.insts head) head.after left low
        → (s : Sequence f.words.insts (switch_arm scope head.merge (without own (labels_of f.words.insts head))) (Some own) low past None) → PlacedArm f.words.insts f.valid.derivation scope head.merge (labels_of f.words.insts head) head.after own low past (inside s)
        → ((test : Interval → Bool) → test (interval low past) ≡ true → list_any test (intervals_of f.valid.derivation) ≡ true) → is_label_at f.words.insts past ≡ true → past ≤ join → low ≤ end → end < past → past ≤ place
        → Holds f place end w (around low past (inside s))
    switch_arm_holds own low past earlier s pa among label most least less behind =
        let o = old_pick insts scope wanted from here head is in
        let pw = pick_way insts scope wanted from here head is in
        let e = o.place_is in
        let a = pw.after in
        let t = stands_at_due insts own own low refl (due_of s) in
        let g = (forward insts s).forward in
        let l = p.low in
        let h = p.high in
        let r = (forward insts rest).forward in
        let after = arms_forward insts earlier in
        let same = merges own low past s label (omega (arith, e, a, after)) behind least less in
        let there = second_there insts scope from (way.Picks head) o pw.last pw.rest pw.at in
        let switch = ap (λ (i : Inst). i.op) there ∙ pw.switch in
        let merge = ap (word_at 0) (inst_there insts scope from (way.Picks head) o) ∙ sym pw.merge ∙ sym same in
        arm_crossed f place end w o.place low past (inside s) (omega (arith, l, e)) (omega (arith, a, after)) (omega (arith, most, r, h)) (omega (arith, a, after, least, less, behind))
        (ap (λ (i : Inst). i.op) (inst_there insts scope from (way.Picks head) o) ∙ pw.is) merge (ap (λ (n : ℕ). n == op.LABEL) switch) t.is_label
        (begins_as (arm_begins low t.is_label after (omega (arith, g, most)) earlier) (omega (arith, a))) (λ q at under from_low before is_label. pa.placed.entered q at (inl under) from_low before is_label) least less
        (λ skipped to_low.
        let sw = switch_way f (o.place + 1) (f.plan.fate (o.place + 1)) (origin f (o.place + 1)) skipped.label skipped.goes_to switch in
        let none = within f (o.place + 1) skipped.label switch (omega (arith, l, e)) (omega (arith, a, after, g, most, r, h)) sw.0 sw.1 in
        let there_none = ap (λ (n : ℕ). is_left_within f.plan insts (intervals_of d) skipped.label n) (sym (ap (λ (n : ℕ). word_at 0 (inst_at insts n)) {x = o.place + 1 - 1} {y = o.place} (omega arith) ∙ merge)) ∙ none in
        nested_holds skipped.label low past there_none (and_true (is_label_at insts low) (label_at insts low == skipped.label) t.is_label (eq-eqb (label_at insts low) skipped.label (sym to_low))) among (inside s)
        (lies_behind insts s) (λ test some. pa.placed.intervals test some))
      where
        begins_as : {after also cut : ℕ} → Begins f.words.insts after cut → after ≡ also → Begins f.words.insts also cut
        begins_as begin is = record { leads = λ q under among. begin.leads q under among ∙ is; merges = λ q under among. begin.merges q under among }
