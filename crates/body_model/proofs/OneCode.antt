-- All derivations from one place have one code.
use Rattle.std.proofs.Common.{◌≡◌, ℕ, List, [], Option, None, Some, refl, ap, subst, sym, ◌∙◌, arith}
use Rattle.spirv_model.specs.declared.module.Inst.{Inst}
use Rattle.body_model.specs.declared.block_end.BlockEnd.{BlockEnd}
use Rattle.body_model.specs.declared.block_end.BlockEnd.TheVariants as way
use Rattle.body_model.specs.Scope.{Scope, behind_block, behind_selection, behind_loop, switch_arm, condition, body, continuing}
use Rattle.body_model.specs.Switches.{without, cases_of, switch_words}
use Rattle.body_model.specs.Blocks.{block_end}
use Rattle.body_model.specs.Grammar.{Sequence, ends, goes_on, selects, picks, loops, Arm, straight, through, Arms, no_arm, arm_behind, ArmsUpTo}
use Rattle.body_model.specs.Code.{Code, Ends, GoesOn, Selects, Picks, Loops, Through, CodeArms, ArmBehind, slice, code_of, code_of_arm, code_of_arms}
use Rattle.body_model.proofs.SameCode.{same_ends, same_goes, same_selects, same_picks, same_loops}
use Rattle.body_model.proofs.CodeStands.{IsSequence}
use Rattle.body_model.proofs.OneArms.{count, same_label, arms_end, same_count}

-- the parts of a sequence whose first block ends so, and its code by theirs
abbrev Parts : List Inst → Scope → (from to : ℕ) → Option ℕ → Code → BlockEnd → Type 0
Parts insts scope from to next code (way.Broken fault) = ⊥
Parts insts scope from to next code (way.Ends last) = (last.after ≡ to) × (code ≡ Ends (slice insts from last.after) last.end)
Parts insts scope from to next code (way.GoesOn after) = (rest : Sequence insts (behind_block scope) None after to next) × (code ≡ GoesOn (slice insts from after) (code_of rest))
Parts insts scope from to next code (way.Selects head) =
    (second : ℕ) × (join : ℕ) × (on_true : Arm insts scope head.merge head.on_true head.after second) × (on_false : Arm insts scope head.merge head.on_false second join)
    × (rest : Sequence insts (behind_selection scope) (Some head.merge) join to next)
    × (code ≡ Selects (slice insts from head.after) head.cond head.merge head.on_true head.on_false (code_of_arm on_true) (code_of_arm on_false) (code_of rest))
Parts insts scope from to next code (way.Picks head) =
    (join : ℕ) × (arms : ArmsUpTo insts scope head [] join) × (rest : Sequence insts (behind_selection scope) (Some head.merge) join to next)
    × (code ≡ Picks (slice insts from head.after) head.selector head.merge head.default (cases_of (switch_words insts head)) (code_of_arms arms) (code_of rest))
Parts insts scope from to next code (way.Loops head) =
    (inner : ℕ) × (first : ℕ) × (second : ℕ) × (third : ℕ) × (tested : Sequence insts (condition scope head.merge) (Some head.test) head.after first (Some inner))
    × (inside : Sequence insts (body scope head.merge head.next) (Some inner) first second None) × (step : Sequence insts (continuing scope head.header) (Some head.next) second third None)
    × (rest : Sequence insts (behind_loop scope) (Some head.merge) third to next)
    × (code ≡ Loops (slice insts from head.after) head.merge head.next head.test (code_of tested) (code_of inside) (code_of step) (code_of rest))

parts : (insts : List Inst) {scope : Scope} {wanted next : Option ℕ} {from to : ℕ} (d : Sequence insts scope wanted from to next) → Parts insts scope from to next (code_of d) (block_end insts scope from)
parts insts {scope = scope} {next = next} {from = from} {to = to} (ends last here is label_is place_is) =
    subst (Parts insts scope from to next (Ends (slice insts from last.after) last.end)) (sym is) (place_is, refl)
parts insts {scope = scope} {next = next} {from = from} {to = to} (goes_on after here is rest) =
    subst (Parts insts scope from to next (GoesOn (slice insts from after) (code_of rest))) (sym is) (rest, refl)
parts insts {scope = scope} {next = next} {from = from} {to = to} (selects head second join here is on_true on_false rest) =
    subst (Parts insts scope from to next (Selects (slice insts from head.after) head.cond head.merge head.on_true head.on_false (code_of_arm on_true) (code_of_arm on_false) (code_of rest))) (sym is)
    (second, join, on_true, on_false, rest, refl)
parts insts {scope = scope} {next = next} {from = from} {to = to} (picks head join here is arms rest) =
    subst (Parts insts scope from to next (Picks (slice insts from head.after) head.selector head.merge head.default (cases_of (switch_words insts head)) (code_of_arms arms) (code_of rest))) (sym is)
    (join, arms, rest, refl)
parts insts {scope = scope} {next = next} {from = from} {to = to} (loops head inner first second third here is tested inside step rest) =
    subst (Parts insts scope from to next (Loops (slice insts from head.after) head.merge head.next head.test (code_of tested) (code_of inside) (code_of step) (code_of rest))) (sym is)
    (inner, first, second, third, tested, inside, step, rest, refl)

-- the parts of another derivation from the same place
parts_at : (insts : List Inst) {scope : Scope} {wanted next : Option ℕ} {from from' to : ℕ} (end : BlockEnd) (d : Sequence insts scope wanted from' to next) → from ≡ from' → block_end insts scope from ≡ end
    → Parts insts scope from' to next (code_of d) end
parts_at insts {scope = scope} {next = next} {from' = from'} {to = to} end d here is =
    subst (Parts insts scope from' to next (code_of d)) (sym (ap (block_end insts scope) here) ∙ is) (parts insts d)

from_slice : (insts : List Inst) (from from' after : ℕ) → from ≡ from' → slice insts from after ≡ slice insts from' after
from_slice insts from from' after here = ap (λ (n : ℕ). slice insts n after) here

relabelled : (insts : List Inst) (scope : Scope) (merge : ℕ) (all : List ℕ) (label label' between to : ℕ) → label ≡ label' → (d : Sequence insts (switch_arm scope merge (without label' all)) (Some label') between to None)
    → IsSequence insts (switch_arm scope merge (without label all)) (Some label) between to None (code_of d)
relabelled insts scope merge all label label' between to same d =
    subst (λ (l : ℕ). IsSequence insts (switch_arm scope merge (without l all)) (Some l) between to None (code_of d)) (sym same) (record { sequence = d; same = refl })

mutual
  pub one : (insts : List Inst) {scope : Scope} {wanted wanted' next next' : Option ℕ} {from from' to to' : ℕ} (d : Sequence insts scope wanted from to next) (d' : Sequence insts scope wanted' from' to' next')
      → from ≡ from' → (to ≡ to') × (code_of d ≡ code_of d')
  one insts {from = from} {from' = from'} (ends last here is label_is place_is) d' same =
      let p = parts_at insts (way.Ends last) d' same is in
      (sym place_is ∙ p.0, same_ends _ _ last.end (from_slice insts from from' last.after same) ∙ sym p.1)
  one insts {from = from} {from' = from'} (goes_on after here is rest) d' same =
      let p = parts_at insts (way.GoesOn after) d' same is in
      let more = one insts rest p.0 refl in
      (more.0, same_goes _ _ _ _ (from_slice insts from from' after same) more.1 ∙ sym p.1)
  one insts {from = from} {from' = from'} (selects head second join here is on_true on_false rest) d' same =
      let p = parts_at insts (way.Selects head) d' same is in
      let first = one_arm insts on_true p.2 refl in
      let other = one_arm insts on_false p.3 first.0 in
      let more = one insts rest p.4 other.0 in
      (more.0, same_selects _ _ head.cond head.merge head.on_true head.on_false _ _ _ _ _ _ (from_slice insts from from' head.after same) first.1 other.1 more.1 ∙ sym p.5)
  one insts {from = from} {from' = from'} (picks head join here is arms rest) d' same =
      let p = parts_at insts (way.Picks head) d' same is in
      let numbers = same_count insts arms p.1 refl in
      let more = one insts rest p.2 (arms_end insts arms p.1 refl numbers).1 in
      (more.0, same_picks _ _ head.selector head.merge head.default _ _ _ _ _ _ (from_slice insts from from' head.after same) refl (one_arms insts arms p.1 refl numbers) more.1 ∙ sym p.3)
  one insts {from = from} {from' = from'} (loops head inner first second third here is tested inside step rest) d' same =
      let p = parts_at insts (way.Loops head) d' same is in
      let a = one insts tested p.4 refl in
      let b = one insts inside p.5 a.0 in
      let c = one insts step p.6 b.0 in
      let more = one insts rest p.7 c.0 in
      (more.0, same_loops _ _ head.merge head.next head.test _ _ _ _ _ _ _ _ (from_slice insts from from' head.after same) a.1 b.1 c.1 more.1 ∙ sym p.8)

  pub one_arm : (insts : List Inst) {scope : Scope} {merge target from from' to to' : ℕ} (d : Arm insts scope merge target from to) (d' : Arm insts scope merge target from' to') → from ≡ from'
      → (to ≡ to') × (code_of_arm d ≡ code_of_arm d')
  one_arm insts (straight is none) (straight is' none') same = (sym none ∙ same ∙ none', refl)
  one_arm insts (straight is none) (through isnt' sequence') same = absurd (isnt' is)
  one_arm insts (through isnt sequence) (straight is' none') same = absurd (isnt is')
  one_arm insts (through isnt sequence) (through isnt' sequence') same = let both = one insts sequence sequence' same in (both.0, ap Through both.1)

  pub one_arms : (insts : List Inst) {scope : Scope} {merge : ℕ} {all due left left' : List ℕ} {from from' to to' : ℕ} (d : Arms insts scope merge all due from left to) (d' : Arms insts scope merge all due from' left' to')
      → from ≡ from' → count d ≡ count d' → code_of_arms d ≡ code_of_arms d'
  one_arms insts (no_arm is none) (no_arm is' none') here same = refl
  one_arms insts (no_arm is none) (arm_behind label' between' before' arms' among' is' sequence') here same = absurd (omega arith)
  one_arms insts (arm_behind label between before arms among is sequence) (no_arm is' none') here same = absurd (omega arith)
  one_arms insts {scope = scope} {merge = merge} {all = all} {to' = to'} (arm_behind label between before arms among is sequence) (arm_behind label' between' before' arms' among' is' sequence') here same =
      let reach = (arms_end insts arms arms' here (omega arith)).1 in
      let labels = same_label insts reach sequence sequence' in
      let other = relabelled insts scope merge all label label' between' to' labels sequence' in
      ap (λ (x : CodeArms). ArmBehind x label (code_of sequence)) (one_arms insts arms arms' here (omega arith)) ∙ ap (λ (l : ℕ). ArmBehind (code_of_arms arms') l (code_of sequence)) labels
      ∙ ap (ArmBehind (code_of_arms arms') label') ((one insts sequence other.sequence reach).1 ∙ other.same)

pub one_code : (insts : List Inst) (scope : Scope) (wanted next next' : Option ℕ) (from to to' : ℕ) (d : Sequence insts scope wanted from to next) (d' : Sequence insts scope wanted from to' next') → code_of d ≡ code_of d'
one_code insts scope wanted next next' from to to' d d' = (one insts d d' refl).1
