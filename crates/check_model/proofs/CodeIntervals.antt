-- All derivations of a list have the same intervals: they are those of its code, from its first place.
use Rattle.std.proofs.Common.{◌≡◌, ℕ, ◌+◌, List, [], ◌++◌, length, Option, refl, ap, sym, ◌∙◌, arith, length-append}
use Rattle.spirv_model.specs.declared.module.Inst.{Inst}
use Rattle.body_model.specs.declared.block_end.BlockEnd.TheVariants.{GoesOn as WayOn, Selects as WaySelects, Picks as WayPicks, Loops as WayLoops}
use Rattle.body_model.specs.Scope.{Scope}
use Rattle.body_model.specs.Grammar.{Sequence, ends, goes_on, selects, picks, loops, Arm, straight, through, Arms, no_arm, arm_behind, Derives}
use Rattle.body_model.specs.Code.{Code, Ends, GoesOn, Selects, Picks, Loops, CodeArm, Straight, Through, CodeArms, NoArm, ArmBehind, printed, printed_arm, printed_arms, slice, code_of, code_of_arm, code_of_arms}
use Rattle.body_model.proofs.Forward.{sound_at, forward}
use Rattle.body_model.proofs.Ends.{Between}
use Rattle.body_model.proofs.Listings.{listed}
use Rattle.body_model.proofs.Slices.{slice_long}
use Rattle.body_model.proofs.OneFunction.{one_function}
use Rattle.check_model.specs.Intervals.{Interval, around, inside, of_arm, of_arms, intervals_of}

-- ---- the intervals of code that stands at a place

abbrev pub past : ℕ → List Inst → ℕ
past from xs = from + length xs

abbrev pub between : ℕ → Code → List Interval → List Interval
between from code within = around from (past from (printed code)) within

abbrev mutual
  pub inside_code : Code → ℕ → List Interval
  inside_code (Ends block end) from = []
  inside_code (GoesOn block rest) from = inside_code rest (past from block)
  inside_code (Selects block cond merge on_true on_false if_true if_false rest) from =
      inside_arm if_true (past from block) ++ (inside_arm if_false (past (past from block) (printed_arm if_true))
      ++ inside_code rest (past (past (past from block) (printed_arm if_true)) (printed_arm if_false)))
  inside_code (Picks block selector merge default cases arms rest) from =
      inside_arms arms (past from block) ++ inside_code rest (past (past from block) (printed_arms arms))
  inside_code (Loops block merge next test condition inner step rest) from =
      between (past from block) condition (inside_code condition (past from block))
      ++ (between (past (past from block) (printed condition)) inner (inside_code inner (past (past from block) (printed condition)))
      ++ (between (past (past (past from block) (printed condition)) (printed inner)) step (inside_code step (past (past (past from block) (printed condition)) (printed inner)))
      ++ inside_code rest (past (past (past (past from block) (printed condition)) (printed inner)) (printed step))))

  pub inside_arm : CodeArm → ℕ → List Interval
  inside_arm Straight from = []
  inside_arm (Through code) from = between from code (inside_code code from)

  pub inside_arms : CodeArms → ℕ → List Interval
  inside_arms NoArm from = []
  inside_arms (ArmBehind arms label code) from = inside_arms arms from ++ between (past from (printed_arms arms)) code (inside_code code (past from (printed_arms arms)))

-- ---- the places of a derivation's parts

block_past : (insts : List Inst) (from after : ℕ) → Between from (length insts) after → past from (slice insts from after) ≡ after
block_past insts from after b = omega (arith, b.forward, b.within, slice_long insts from after (omega (arith, b.within)))

sequence_past : (insts : List Inst) {scope : Scope} {wanted next : Option ℕ} {from to : ℕ} (d : Sequence insts scope wanted from to next) → past from (printed (code_of d)) ≡ to
sequence_past insts {from = from} {to = to} d =
    let b = forward insts d in omega (arith, b.forward, b.within, ap length (listed insts d), slice_long insts from to (omega (arith, b.within)))

arm_past : (insts : List Inst) {scope : Scope} {merge target from to : ℕ} (d : Arm insts scope merge target from to) → past from (printed_arm (code_of_arm d)) ≡ to
arm_past insts (straight is none) = omega (arith, none)
arm_past insts (through isnt sequence) = sequence_past insts sequence

arms_past : (insts : List Inst) {scope : Scope} {merge : ℕ} {all due left : List ℕ} {from to : ℕ} (d : Arms insts scope merge all due from left to) → past from (printed_arms (code_of_arms d)) ≡ to
arms_past insts (no_arm is none) = omega (arith, none)
arms_past insts (arm_behind label between before arms among is sequence) =
    omega (arith, arms_past insts arms, sequence_past insts sequence, length-append (printed_arms (code_of_arms arms)) (printed (code_of sequence)))

-- ---- the intervals of a derivation are those of its code

same_around : (from from' to to' : ℕ) (is is' : List Interval) → from ≡ from' → to ≡ to' → is ≡ is' → around from to is ≡ around from' to' is'
same_around from from' to to' is is' a b c = cc

joined : (xs xs' ys ys' : List Interval) → xs ≡ xs' → ys ≡ ys' → xs ++ ys ≡ xs' ++ ys'
joined xs xs' ys ys' a b = cc

-- code that stands at an equal place
moved : (code : Code) (is : List Interval) (from from' : ℕ) → from ≡ from' → is ≡ inside_code code from' → is ≡ inside_code code from
moved code is from from' here same = same ∙ sym (ap (inside_code code) here)

moved_arm : (code : CodeArm) (is : List Interval) (from from' : ℕ) → from ≡ from' → is ≡ inside_arm code from' → is ≡ inside_arm code from
moved_arm code is from from' here same = same ∙ sym (ap (inside_arm code) here)

moved_arms : (code : CodeArms) (is : List Interval) (from from' : ℕ) → from ≡ from' → is ≡ inside_arms code from' → is ≡ inside_arms code from
moved_arms code is from from' here same = same ∙ sym (ap (inside_arms code) here)

further : (from from' to : ℕ) (xs : List Inst) → from ≡ from' → past from' xs ≡ to → past from xs ≡ to
further from from' to xs here is = omega (arith, here, is)

mutual
  pub inside_is : (insts : List Inst) {scope : Scope} {wanted next : Option ℕ} {from to : ℕ} (d : Sequence insts scope wanted from to next) → inside d ≡ inside_code (code_of d) from
  inside_is insts (ends last here label is place_is) = refl
  inside_is insts {from = from} (goes_on after here is rest) = moved (code_of rest) _ _ _ (block_past insts from after (sound_at insts _ from (WayOn after) is)) (inside_is insts rest)
  inside_is insts {from = from} (selects head second join here is on_true on_false rest) =
      let a = block_past insts from head.after (sound_at insts _ from (WaySelects head) is).0 in
      let b = further _ _ _ _ a (arm_past insts on_true) in
      let c = further _ _ _ _ b (arm_past insts on_false) in
      joined _ _ _ _ (moved_arm (code_of_arm on_true) _ _ _ a (arm_is insts on_true)) (joined _ _ _ _ (moved_arm (code_of_arm on_false) _ _ _ b (arm_is insts on_false)) (moved (code_of rest) _ _ _ c (inside_is insts rest)))
  inside_is insts {from = from} (picks head join here is arms rest) =
      let a = block_past insts from head.after (sound_at insts _ from (WayPicks head) is).0 in
      let b = further _ _ _ _ a (arms_past insts arms) in
      joined _ _ _ _ (moved_arms (code_of_arms arms) _ _ _ a (arms_is insts arms)) (moved (code_of rest) _ _ _ b (inside_is insts rest))
  inside_is insts {from = from} (loops head inner first second third here is tested body step rest) =
      let a = block_past insts from head.after (sound_at insts _ from (WayLoops head) is).0 in
      let b = further _ _ _ _ a (sequence_past insts tested) in
      let c = further _ _ _ _ b (sequence_past insts body) in
      let d = further _ _ _ _ c (sequence_past insts step) in
      joined _ _ _ _ (same_around _ _ _ _ _ _ (sym a) (sym b) (moved (code_of tested) _ _ _ a (inside_is insts tested)))
      (joined _ _ _ _ (same_around _ _ _ _ _ _ (sym b) (sym c) (moved (code_of body) _ _ _ b (inside_is insts body)))
      (joined _ _ _ _ (same_around _ _ _ _ _ _ (sym c) (sym d) (moved (code_of step) _ _ _ c (inside_is insts step))) (moved (code_of rest) _ _ _ d (inside_is insts rest))))

  arm_is : (insts : List Inst) {scope : Scope} {merge target from to : ℕ} (d : Arm insts scope merge target from to) → of_arm d ≡ inside_arm (code_of_arm d) from
  arm_is insts (straight is none) = refl
  arm_is insts (through isnt sequence) = same_around _ _ _ _ _ _ refl (sym (sequence_past insts sequence)) (inside_is insts sequence)

  arms_is : (insts : List Inst) {scope : Scope} {merge : ℕ} {all due left : List ℕ} {from to : ℕ} (d : Arms insts scope merge all due from left to) → of_arms d ≡ inside_arms (code_of_arms d) from
  arms_is insts (no_arm is none) = refl
  arms_is insts (arm_behind label between before arms among is sequence) =
      let a = arms_past insts arms in
      joined _ _ _ _ (arms_is insts arms) (same_around _ _ _ _ _ _ (sym a) (sym (further _ _ _ _ a (sequence_past insts sequence))) (moved (code_of sequence) _ _ _ a (inside_is insts sequence)))

-- ---- one function, one list of intervals

same_from : (code code' : Code) (from from' : ℕ) → code ≡ code' → from ≡ from' → inside_code code from ≡ inside_code code' from'
same_from code code' from from' is here = cc

pub one_intervals : (insts : List Inst) (d d' : Derives insts) → intervals_of d ≡ intervals_of d'
one_intervals insts d d' =
    let one = one_function insts d d' in
    same_around _ _ _ _ _ _ (ap (λ (n : ℕ). n + 1) one.0) one.1
    (inside_is insts d.sequence ∙ same_from _ _ _ _ one.2 (ap (λ (n : ℕ). n + 1) one.0) ∙ sym (inside_is insts d'.sequence))
