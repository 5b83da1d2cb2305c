-- Where an arm isn't left from within to a label, nothing nested in it leads there.
use Rattle.std.proofs.Common.{◌≡◌, ℕ, ◌+◌, ◌-◌, Bool, true, false, ◌==◌, ◌||◌, ◌&&◌, nat_lt, nat_le, List, [], ◌∷◌, ◌++◌, refl, arith, Option}
use Rattle.std.specs.List.{list_any}
use Rattle.std.proofs.lemmas.Bool.{eq-eqb, lt-ltb, le-leb}
use Rattle.spirv_model.specs.declared.module.Inst.{Inst}
use Rattle.body_model.specs.declared.block_end.BlockEnd.TheVariants as way
use Rattle.body_model.specs.Scope.{Scope}
use Rattle.body_model.specs.Switches.{is_among}
use Rattle.body_model.specs.Targets.{targets}
use Rattle.body_model.specs.Grammar.{Sequence, ends, goes_on, selects, picks, loops}
use Rattle.body_model.proofs.Forward.{sound_at, forward, arm_forward, arms_forward}
use Rattle.valid_model.specs.Definitions.{inst_at}
use Rattle.check_model.specs.Intervals.{Interval, interval, around, inside, of_arm, of_arms}
use Rattle.typed_model.proofs.Keeping.{LieIn, wider, lie_both, lie_around}
use Rattle.typed_model.proofs.VisibleJumps.{lies, arm_lies, arms_lie}
use Rattle.unit_model.specs.ConstantScalars.{begins_at, is_nested, is_left_to, is_left_from_within}
use Rattle.change_model.proofs.BranchEnds.{NoneLeads}
use Rattle.change_model.proofs.LeftChosen.{any_of_range}
use Rattle.change_model.proofs.LeftScopes.{is_label_at, label_at}

clash : {Q : Type 0} (b : Bool) → b ≡ true → b ≡ false → Q
clash true is isnt = cc
clash false is isnt = cc

refuted : (b : Bool) → (b ≡ true → ⊥) → b ≡ false
refuted true isnt = absurd (isnt refl)
refuted false isnt = refl

both : (a b : Bool) → a ≡ true → b ≡ true → (a && b) ≡ true
both a b first second = rw first second

or_left : (a b : Bool) → a ≡ true → (a || b) ≡ true
or_left true b is = refl
or_left false b is = cc

or_right : (a b : Bool) → b ≡ true → (a || b) ≡ true
or_right true b is = refl
or_right false b is = is

-- the intervals of a sequence begin behind its beginning
lies_behind : (insts : List Inst) {scope : Scope} {wanted next : Option ℕ} {from to : ℕ} (s : Sequence insts scope wanted from to next) → LieIn (from + 1) to (inside s)
lies_behind insts (ends last here is label_is place_is) = tt
lies_behind insts {scope = scope} {from = from} {to = to} (goes_on after here is rest) = let f = (sound_at insts scope from (way.GoesOn after) is).forward in wider after to (from + 1) to (inside rest) (omega (arith, f)) (omega arith) (lies insts rest)
lies_behind insts {scope = scope} {from = from} {to = to} (selects head second join here is on_true on_false rest) =
    let f = (sound_at insts scope from (way.Selects head) is).0.forward in
    let p = arm_forward insts on_true in
    let q = arm_forward insts on_false in
    let g = (forward insts rest).forward in
    lie_both (from + 1) to (of_arm on_true) (of_arm on_false ++ inside rest) (wider head.after second (from + 1) to (of_arm on_true) (omega (arith, f)) (omega (arith, q, g)) (arm_lies insts on_true))
    (lie_both (from + 1) to (of_arm on_false) (inside rest) (wider second join (from + 1) to (of_arm on_false) (omega (arith, f, p)) (omega (arith, g)) (arm_lies insts on_false))
    (wider join to (from + 1) to (inside rest) (omega (arith, f, p, q)) (omega arith) (lies insts rest)))
lies_behind insts {scope = scope} {from = from} {to = to} (picks head join here is arms rest) =
    let f = (sound_at insts scope from (way.Picks head) is).0.forward in
    let p = arms_forward insts arms in
    let g = (forward insts rest).forward in
    lie_both (from + 1) to (of_arms arms) (inside rest) (wider head.after join (from + 1) to (of_arms arms) (omega (arith, f)) (omega (arith, g)) (arms_lie insts arms)) (wider join to (from + 1) to (inside rest) (omega (arith, f, p)) (omega arith) (lies insts rest))
lies_behind insts {scope = scope} {from = from} {to = to} (loops head inner first second third here is tested body step rest) =
    let f = (sound_at insts scope from (way.Loops head) is).0.forward in
    let t = (forward insts tested).forward in
    let q = (forward insts body).forward in
    let r = (forward insts step).forward in
    let g = (forward insts rest).forward in
    let T = around head.after first (inside tested) in
    let B = around first second (inside body) in
    let S = around second third (inside step) in
    lie_both (from + 1) to T (B ++ (S ++ inside rest)) (wider head.after first (from + 1) to T (omega (arith, f)) (omega (arith, q, r, g)) (lie_around head.after first (inside tested) (lies insts tested)))
    (lie_both (from + 1) to B (S ++ inside rest) (wider first second (from + 1) to B (omega (arith, f, t)) (omega (arith, r, g)) (lie_around first second (inside body) (lies insts body)))
    (lie_both (from + 1) to S (inside rest) (wider second third (from + 1) to S (omega (arith, f, t, q)) (omega (arith, g)) (lie_around second third (inside step) (lies insts step)))
    (wider third to (from + 1) to (inside rest) (omega (arith, f, t, q, r)) (omega arith) (lies insts rest))))

-- intervals within another one, none of which leads to the label
nested_none : (insts : List Inst) (label : ℕ) (outer : Interval) (all is : List Interval) → LieIn (outer.from + 1) outer.to is → ((test : Interval → Bool) → list_any test is ≡ true → list_any test all ≡ true)
    → list_any (λ (inner : Interval). is_nested outer inner && is_left_to insts label inner) all ≡ false → NoneLeads insts label is
nested_none insts label outer all [] lie among none = tt
nested_none insts label outer all (i ∷ is) lie among none = (
  λ place low high. refuted (is_among label (targets (inst_at insts place))) (λ leads.
      let starts = lie.0 in
      let stops = lie.1 in
      let left = any_of_range (λ (n : ℕ). is_among label (targets (inst_at insts n))) (i.to - i.from) i.from place low (omega (arith, low, high)) leads in
      let nested = both (nat_lt outer.from i.from) (nat_le i.to outer.to) (lt-ltb outer.from i.from (omega (arith, starts))) (le-leb i.to outer.to stops) in
      clash (list_any (λ (inner : Interval). is_nested outer inner && is_left_to insts label inner) all)
      (among (λ (inner : Interval). is_nested outer inner && is_left_to insts label inner)
      (or_left (is_nested outer i && is_left_to insts label i) (list_any (λ (inner : Interval). is_nested outer inner && is_left_to insts label inner) is) (both (is_nested outer i) (is_left_to insts label i) nested left))) none),
  nested_none insts label outer all is lie.2 (λ test some. among test (or_right (test i) (list_any test is) some)) none,
)

-- something leads to the label that is nested in an interval
abbrev leads_within : List Inst → List Interval → ℕ → Interval → Bool
leads_within insts all label outer = list_any (λ (inner : Interval). is_nested outer inner && is_left_to insts label inner) all

pub unleft_arm : (insts : List Inst) (all : List Interval) (label : ℕ) {scope : Scope} {wanted next : Option ℕ} {from to : ℕ} (s : Sequence insts scope wanted from to next) → is_label_at insts from ≡ true
    → ((test : Interval → Bool) → list_any test (around from to (inside s)) ≡ true → list_any test all ≡ true) → is_left_from_within all insts (label_at insts from) label ≡ false → NoneLeads insts label (inside s)
unleft_arm insts all label {from = from} {to = to} s is among none =
    nested_none insts label (interval from to) all (inside s) (lies_behind insts s) (λ test some. among test (or_right (test (interval from to)) (list_any test (inside s)) some))
    (refuted (leads_within insts all label (interval from to)) (λ left.
    clash (list_any (λ (outer : Interval). begins_at insts (label_at insts from) outer && leads_within insts all label outer) all)
    (among (λ (outer : Interval). begins_at insts (label_at insts from) outer && leads_within insts all label outer)
    (or_left (begins_at insts (label_at insts from) (interval from to) && leads_within insts all label (interval from to)) (list_any (λ (outer : Interval). begins_at insts (label_at insts from) outer && leads_within insts all label outer) (inside s))
    (both (begins_at insts (label_at insts from) (interval from to)) (leads_within insts all label (interval from to)) (both (is_label_at insts from) (label_at insts from == label_at insts from) is (eq-eqb (label_at insts from) (label_at insts from) refl)) left))) none))
