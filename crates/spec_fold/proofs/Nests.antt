-- The sequences of a function, and its OpSwitches each with what stands up to its merge block, are nested: two of them are apart,
-- or one lies in the other, behind its beginning and before its end.
use Rattle.std.proofs.Common.{◌≡◌, ℕ, ◌+◌, ◌-◌, ◌<◌, ◌≤◌, ◌⊎◌, inl, inr, List, [], ◌∷◌, ◌++◌, ap, sym, ◌∙◌, subst, arith, Option}
use Rattle.spirv_model.specs.declared.module.Inst.{Inst}
use Rattle.body_model.specs.declared.block_end.BlockEnd.{BlockEnd}
use Rattle.body_model.specs.declared.block_end.BlockEnd.TheVariants as way
use Rattle.body_model.specs.Scope.{Scope}
use Rattle.body_model.specs.Blocks.{block_end}
use Rattle.body_model.specs.Due.{IsDue}
use Rattle.body_model.specs.Grammar.{Sequence, ends, goes_on, selects, picks, loops, Arm, straight, through, Arms, no_arm, arm_behind}
use Rattle.body_model.proofs.Forward.{forward, arm_forward, arms_forward}
use Rattle.body_model.proofs.Shapes.{IsWhole, after_of}
use Rattle.check_model.specs.Intervals.{Interval, interval, around, inside, of_arm, of_arms}
use Rattle.change_model.proofs.LeftFronts.{old_block}
use Rattle.change_model.proofs.LeftBlockNames.{last_within}

-- ---- two of them

pub data Nest (i j : Interval) : Type 0 where
  stands_before : i.to ≤ j.from → Nest i j
  stands_behind : j.to ≤ i.from → Nest i j
  has : i.from < j.from → j.to < i.to → Nest i j
  lies_in : j.from < i.from → i.to < j.to → Nest i j
  same : i.from ≡ j.from → i.to ≡ j.to → Nest i j

turned : (i j : Interval) → Nest i j → Nest j i
turned i j (stands_before up) = stands_behind up
turned i j (stands_behind up) = stands_before up
turned i j (has low high) = lies_in low high
turned i j (lies_in low high) = has low high
turned i j (same low high) = same (sym low) (sym high)

-- ---- lists

abbrev pub Among : Interval → List Interval → Type 0
Among i [] = ⊥
Among i (j ∷ js) = (i ≡ j) ⊎ Among i js

pub among_left : (i : Interval) (is js : List Interval) → Among i is → Among i (is ++ js)
among_left i [] js among = absurd among
among_left i (k ∷ is) js (inl first) = inl first
among_left i (k ∷ is) js (inr later) = inr (among_left i is js later)

pub among_right : (i : Interval) (is js : List Interval) → Among i js → Among i (is ++ js)
among_right i [] js among = among
among_right i (k ∷ is) js among = inr (among_right i is js among)

pub among_either : (i : Interval) (is js : List Interval) → Among i (is ++ js) → Among i is ⊎ Among i js
among_either i [] js among = inr among
among_either i (k ∷ is) js (inl first) = inl (inl first)
among_either i (k ∷ is) js (inr later) = elim (among_either i is js later) [ inl left ↦ inl (inr left) | inr right ↦ inr right ]

abbrev pub Each : (Interval → Type 0) → List Interval → Type 0
Each P [] = Unit {0}
Each P (i ∷ is) = P i × Each P is

each_both : (P : Interval → Type 0) (is js : List Interval) → Each P is → Each P js → Each P (is ++ js)
each_both P [] js one two = two
each_both P (i ∷ is) js one two = (one.0, each_both P is js one.1 two)

each_more : (P Q : Interval → Type 0) → ((i : Interval) → P i → Q i) → (is : List Interval) → Each P is → Each Q is
each_more P Q more [] each = tt
each_more P Q more (i ∷ is) each = (more i each.0, each_more P Q more is each.1)

pub each_of : (P : Interval → Type 0) (i : Interval) (is : List Interval) → Each P is → Among i is → P i
each_of P i [] each among = absurd among
each_of P i (j ∷ is) each (inl first) = subst P (sym first) each.0
each_of P i (j ∷ is) each (inr later) = each_of P i is each.1 later

-- at least two places each
pub record Lies (from to : ℕ) (i : Interval) : Type 0 where
  pub low : from ≤ i.from
  pub long : i.from + 1 < i.to
  pub high : i.to ≤ to

pub record Inner (from to : ℕ) (i : Interval) : Type 0 where
  pub low : from < i.from
  pub long : i.from + 1 < i.to
  pub high : i.to < to

lies_wider : (from to low high : ℕ) → low ≤ from → to ≤ high → (i : Interval) → Lies from to i → Lies low high i
lies_wider from to low high down up i l = record { low = let a = l.low in omega (arith, a, down); long = l.long; high = let b = l.high in omega (arith, b, up) }

lies_inner : (from to low high : ℕ) → low < from → to < high → (i : Interval) → Lies from to i → Inner low high i
lies_inner from to low high down up i l = record { low = let a = l.low in omega (arith, a, down); long = l.long; high = let b = l.high in omega (arith, b, up) }

inner_wider : (from to low high : ℕ) → low ≤ from → to ≤ high → (i : Interval) → Inner from to i → Inner low high i
inner_wider from to low high down up i l = record { low = let a = l.low in omega (arith, a, down); long = l.long; high = let b = l.high in omega (arith, b, up) }

inner_lies : (from to : ℕ) (i : Interval) → Inner from to i → Lies from to i
inner_lies from to i l = record { low = let a = l.low in omega (arith, a); long = l.long; high = let b = l.high in omega (arith, b) }

abbrev pub Nests : List Interval → Type 0
Nests [] = Unit {0}
Nests (i ∷ is) = Each (Nest i) is × Nests is

pub nest_of : (i j : Interval) (is : List Interval) → Nests is → Among i is → Among j is → Nest i j
nest_of i j [] nests one two = absurd one
nest_of i j (k ∷ is) nests (inl first) (inl second) = same (ap (λ (x : Interval). x.from) (first ∙ sym second)) (ap (λ (x : Interval). x.to) (first ∙ sym second))
nest_of i j (k ∷ is) nests (inl first) (inr later) = subst (λ (x : Interval). Nest x j) (sym first) (each_of (Nest k) j is nests.0 later)
nest_of i j (k ∷ is) nests (inr later) (inl second) = turned j i (subst (λ (x : Interval). Nest x i) (sym second) (each_of (Nest k) i is nests.0 later))
nest_of i j (k ∷ is) nests (inr later) (inr also) = nest_of i j is nests.1 later also

-- one list behind the other
nests_both : (from middle to : ℕ) (is js : List Interval) → Each (Lies from middle) is → Each (Lies middle to) js → Nests is → Nests js → Nests (is ++ js)
nests_both from middle to [] js one two nests also = also
nests_both from middle to (i ∷ is) js one two nests also =
    (each_both (Nest i) is js nests.0 (each_more (Lies middle to) (Nest i) (λ j l. let a = one.0.high in let b = l.low in stands_before (omega (arith, a, b))) js two), nests_both from middle to is js one.1 two nests.1 also)

-- and one around them
nests_around : (from to : ℕ) (is : List Interval) → Each (Inner from to) is → Nests is → Nests (around from to is)
nests_around from to is inner nests = (each_more (Inner from to) (Nest (interval from to)) (λ j l. has l.low l.high) is inner, nests)

-- ---- of a sequence

abbrev mutual
  -- its intervals, and its OpSwitches
  pub parts : {insts : List Inst} {scope : Scope} {wanted next : Option ℕ} {from to : ℕ} → Sequence insts scope wanted from to next → List Interval
  parts (ends last here is next_is place_is) = []
  parts (goes_on after here is rest) = parts rest
  parts (selects head second join here is on_true on_false rest) = arm_parts on_true ++ (arm_parts on_false ++ parts rest)
  parts (picks head join here is arms rest) = around (head.after - 1) (join + 1) (arms_parts arms) ++ parts rest
  parts (loops head inner first second third here is condition body step rest) =
      around head.after first (parts condition) ++ (around first second (parts body) ++ (around second third (parts step) ++ parts rest))

  pub arm_parts : {insts : List Inst} {scope : Scope} {merge target from to : ℕ} → Arm insts scope merge target from to → List Interval
  arm_parts (straight is none) = []
  arm_parts {from = from} {to = to} (through isnt sequence) = around from to (parts sequence)

  pub arms_parts : {insts : List Inst} {scope : Scope} {merge : ℕ} {all due left : List ℕ} {from to : ℕ} → Arms insts scope merge all due from left to → List Interval
  arms_parts (no_arm is none) = []
  arms_parts {to = to} (arm_behind label between before arms among is sequence) = arms_parts arms ++ around between to (parts sequence)

-- a block has two instructions, and a third before it ends in an OpSwitch
block_long : (insts : List Inst) (scope : Scope) (wanted : Option ℕ) (from : ℕ) (end : BlockEnd) → IsDue insts wanted from → block_end insts scope from ≡ end → IsWhole end → from + 2 ≤ after_of end
block_long insts scope wanted from end here is whole =
    let o = old_block insts scope wanted from end here is whole in
    let e = o.place_is in
    let l = last_within insts scope from end o whole in
    omega (arith, e, l)

pub long : (insts : List Inst) {scope : Scope} {wanted next : Option ℕ} {from to : ℕ} → Sequence insts scope wanted from to next → from + 2 ≤ to
long insts {scope} {wanted} {from = from} (ends last here is next_is place_is) = let b = block_long insts scope wanted from (way.Ends last) here is tt in omega (arith, b, place_is)
long insts {scope} {wanted} {from = from} (goes_on after here is rest) = let b = block_long insts scope wanted from (way.GoesOn after) here is tt in let f = (forward insts rest).forward in omega (arith, b, f)
long insts {scope} {wanted} {from = from} (selects head second join here is on_true on_false rest) =
    let b = block_long insts scope wanted from (way.Selects head) here is tt in
    let p = arm_forward insts on_true in let q = arm_forward insts on_false in
    let f = (forward insts rest).forward in omega (arith, b, p, q, f)
long insts {scope} {wanted} {from = from} (picks head join here is arms rest) =
    let b = block_long insts scope wanted from (way.Picks head) here is tt in
    let p = arms_forward insts arms in
    let f = (forward insts rest).forward in omega (arith, b, p, f)
long insts {scope} {wanted} {from = from} (loops head inner first second third here is condition body step rest) =
    let b = block_long insts scope wanted from (way.Loops head) here is tt in
    let p = (forward insts condition).forward in let q = (forward insts body).forward in let r = (forward insts step).forward in
    let f = (forward insts rest).forward in omega (arith, b, p, q, r, f)

-- ---- they are nested

abbrev pub Tidy : ℕ → ℕ → List Interval → Type 0
Tidy from to is = Each (Lies from to) is × Nests is

abbrev pub Deep : ℕ → ℕ → List Interval → Type 0
Deep from to is = Each (Inner from to) is × Nests is

deep_wider : (from to low high : ℕ) (is : List Interval) → low ≤ from → to ≤ high → Deep from to is → Deep low high is
deep_wider from to low high is down up deep = (each_more (Inner from to) (Inner low high) (inner_wider from to low high down up) is deep.0, deep.1)

tidy_deep : (from to low high : ℕ) (is : List Interval) → low < from → to < high → Tidy from to is → Deep low high is
tidy_deep from to low high is down up tidy = (each_more (Lies from to) (Inner low high) (lies_inner from to low high down up) is tidy.0, tidy.1)

pub around_tidy : (from to : ℕ) (is : List Interval) → from + 1 < to → Deep from to is → Tidy from to (around from to is)
around_tidy from to is much deep = ((record { low = omega arith; long = much; high = omega arith }, each_more (Inner from to) (Lies from to) (inner_lies from to) is deep.0), nests_around from to is deep.0 deep.1)

joined : (from low middle start to : ℕ) (is js : List Interval) → from < low → middle ≤ start + 1 → middle < to → from ≤ start → Tidy low middle is → Deep start to js → Deep from to (is ++ js)
joined from low middle start to is js down near up order tidy deep = (
  each_both (Inner from to) is js (each_more (Lies low middle) (Inner from to) (lies_inner low middle from to down up) is tidy.0) (each_more (Inner start to) (Inner from to) (inner_wider start to from to order (omega arith)) js deep.0),
  nests_both low middle to is js tidy.0
      (each_more (Inner start to) (Lies middle to) (λ j l. record { low = let a = l.low in omega (arith, a, near); long = l.long; high = let b = l.high in omega (arith, b) }) js deep.0) tidy.1 deep.1,
)

two : (from middle to : ℕ) (is js : List Interval) → from ≤ middle → middle ≤ to → Tidy from middle is → Tidy middle to js → Tidy from to (is ++ js)
two from middle to is js low high one other = (
  each_both (Lies from to) is js (each_more (Lies from middle) (Lies from to) (lies_wider from middle from to (omega arith) high) is one.0) (each_more (Lies middle to) (Lies from to) (lies_wider middle to from to low (omega arith)) js other.0),
  nests_both from middle to is js one.0 other.0 one.1 other.1,
)

mutual
  pub nested : (insts : List Inst) {scope : Scope} {wanted next : Option ℕ} {from to : ℕ} (d : Sequence insts scope wanted from to next) → Deep from to (parts d)
  nested insts (ends last here is next_is place_is) = (tt, tt)
  nested insts {scope} {wanted} {from = from} {to = to} (goes_on after here is rest) =
      let b = block_long insts scope wanted from (way.GoesOn after) here is tt in deep_wider after to from to (parts rest) (omega (arith, b)) (omega arith) (nested insts rest)
  nested insts {scope} {wanted} {from = from} {to = to} (selects head second join here is on_true on_false rest) =
      let b = block_long insts scope wanted from (way.Selects head) here is tt in
      let p = arm_forward insts on_true in let q = arm_forward insts on_false in
      let f = (forward insts rest).forward in
      joined from head.after second (second - 1) to (arm_parts on_true) (arm_parts on_false ++ parts rest) (omega (arith, b)) (omega arith) (omega (arith, q, f)) (omega (arith, b, p)) (arm_nested insts on_true)
      (joined (second - 1) second join join to (arm_parts on_false) (parts rest) (omega (arith, b, p)) (omega arith) f (omega (arith, q)) (arm_nested insts on_false) (nested insts rest))
  nested insts {scope} {wanted} {from = from} {to = to} (picks head join here is arms rest) =
      let b = block_long insts scope wanted from (way.Picks head) here is tt in
      let p = arms_forward insts arms in
      let f = long insts rest in
      joined from (head.after - 1) (join + 1) join to (around (head.after - 1) (join + 1) (arms_parts arms)) (parts rest) (omega (arith, b)) (omega arith) (omega (arith, f)) (omega (arith, b, p))
      (around_tidy (head.after - 1) (join + 1) (arms_parts arms) (omega (arith, b, p)) (tidy_deep head.after join (head.after - 1) (join + 1) (arms_parts arms) (omega (arith, b)) (omega arith) (arms_nested insts arms)))
      (nested insts rest)
  nested insts {scope} {wanted} {from = from} {to = to} (loops head inner first second third here is condition body step rest) =
      let b = block_long insts scope wanted from (way.Loops head) here is tt in
      let p = long insts condition in let q = long insts body in let r = long insts step in
      let f = (forward insts rest).forward in
      joined from head.after first (first - 1) to (around head.after first (parts condition)) _ (omega (arith, b)) (omega arith) (omega (arith, q, r, f)) (omega (arith, b, p))
      (around_tidy head.after first (parts condition) (omega (arith, p)) (nested insts condition))
      (joined (first - 1) first second (second - 1) to (around first second (parts body)) _ (omega (arith, p)) (omega arith) (omega (arith, r, f)) (omega (arith, q))
      (around_tidy first second (parts body) (omega (arith, q)) (nested insts body))
      (joined (second - 1) second third third to (around second third (parts step)) (parts rest) (omega (arith, q)) (omega arith) f (omega (arith, r))
      (around_tidy second third (parts step) (omega (arith, r)) (nested insts step)) (nested insts rest)))

  arm_nested : (insts : List Inst) {scope : Scope} {merge target from to : ℕ} (a : Arm insts scope merge target from to) → Tidy from to (arm_parts a)
  arm_nested insts (straight is none) = (tt, tt)
  arm_nested insts {from = from} {to = to} (through isnt sequence) = let l = long insts sequence in around_tidy from to (parts sequence) (omega (arith, l)) (nested insts sequence)

  arms_nested : (insts : List Inst) {scope : Scope} {merge : ℕ} {all due left : List ℕ} {from to : ℕ} (a : Arms insts scope merge all due from left to) → Tidy from to (arms_parts a)
  arms_nested insts (no_arm is none) = (tt, tt)
  arms_nested insts {from = from} {to = to} (arm_behind label between before arms among is sequence) =
      let l = long insts sequence in
      two from between to (arms_parts arms) (around between to (parts sequence)) (arms_forward insts arms) (omega (arith, l)) (arms_nested insts arms) (around_tidy between to (parts sequence) (omega (arith, l)) (nested insts sequence))

-- ---- the intervals are among them

around_among : (from to : ℕ) (is js : List Interval) (i : Interval) → (Among i is → Among i js) → Among i (around from to is) → Among i (around from to js)
around_among from to is js i more (inl first) = inl first
around_among from to is js i more (inr later) = inr (more later)

mutual
  pub inside_parts : {insts : List Inst} {scope : Scope} {wanted next : Option ℕ} {from to : ℕ} (d : Sequence insts scope wanted from to next) (i : Interval) → Among i (inside d) → Among i (parts d)
  inside_parts (ends last here is next_is place_is) i among = among
  inside_parts (goes_on after here is rest) i among = inside_parts rest i among
  inside_parts (selects head second join here is on_true on_false rest) i among =
      elim (among_either i (of_arm on_true) (of_arm on_false ++ inside rest) among) [
        | inl left ↦ among_left i (arm_parts on_true) (arm_parts on_false ++ parts rest) (arm_inside on_true i left)
        | inr more ↦ among_right i (arm_parts on_true) (arm_parts on_false ++ parts rest) (elim (among_either i (of_arm on_false) (inside rest) more) [
          | inl left ↦ among_left i (arm_parts on_false) (parts rest) (arm_inside on_false i left)
          | inr right ↦ among_right i (arm_parts on_false) (parts rest) (inside_parts rest i right)
        ])
      ]
  inside_parts (picks head join here is arms rest) i among =
      elim (among_either i (of_arms arms) (inside rest) among) [
        | inl left ↦ inr (among_left i (arms_parts arms) (parts rest) (arms_inside arms i left))
        | inr right ↦ inr (among_right i (arms_parts arms) (parts rest) (inside_parts rest i right))
      ]
  inside_parts (loops head inner first second third here is condition body step rest) i among =
      elim (among_either i (around head.after first (inside condition)) (around first second (inside body) ++ (around second third (inside step) ++ inside rest)) among) [
        | inl left ↦ among_left i (around head.after first (parts condition)) _ (around_among head.after first (inside condition) (parts condition) i (λ a. inside_parts condition i a) left)
        | inr more ↦ among_right i (around head.after first (parts condition)) _ (elim (among_either i (around first second (inside body)) (around second third (inside step) ++ inside rest) more) [
          | inl left ↦ among_left i (around first second (parts body)) _ (around_among first second (inside body) (parts body) i (λ a. inside_parts body i a) left)
          | inr still ↦ among_right i (around first second (parts body)) _ (elim (among_either i (around second third (inside step)) (inside rest) still) [
            | inl left ↦ among_left i (around second third (parts step)) (parts rest) (around_among second third (inside step) (parts step) i (λ a. inside_parts step i a) left)
            | inr right ↦ among_right i (around second third (parts step)) (parts rest) (inside_parts rest i right)
          ])
        ])
      ]

  arm_inside : {insts : List Inst} {scope : Scope} {merge target from to : ℕ} (a : Arm insts scope merge target from to) (i : Interval) → Among i (of_arm a) → Among i (arm_parts a)
  arm_inside (straight is none) i among = among
  arm_inside {from = from} {to = to} (through isnt sequence) i among = around_among from to (inside sequence) (parts sequence) i (λ a. inside_parts sequence i a) among

  arms_inside : {insts : List Inst} {scope : Scope} {merge : ℕ} {all due left : List ℕ} {from to : ℕ} (a : Arms insts scope merge all due from left to) (i : Interval) → Among i (of_arms a) → Among i (arms_parts a)
  arms_inside (no_arm is none) i among = among
  arms_inside {to = to} (arm_behind label between before arms among is sequence) i there =
      elim (among_either i (of_arms arms) (around between to (inside sequence)) there) [
        | inl left ↦ among_left i (arms_parts arms) _ (arms_inside arms i left)
        | inr right ↦ among_right i (arms_parts arms) _ (around_among between to (inside sequence) (parts sequence) i (λ a. inside_parts sequence i a) right)
      ]
