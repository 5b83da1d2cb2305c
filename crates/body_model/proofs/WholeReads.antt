-- A sequence that stands is read to its end, and so are arms: whatever is read comes to the place behind them.
use Rattle.std.proofs.Common.{◌≡◌, ℕ, zero, suc, ◌+◌, ◌≤◌, Bool, false, ◌==◌, if◌then◌else◌, List, [], ◌∷◌, length, drop, Option, None, Some, Result, Ok, refl, ap, ◌∙◌, arith}
use Rattle.std.specs.Prelude.{IsTrue}
use Rattle.std.proofs.lemmas.Bool.{eq-eqb, ne_eqb}
use Rattle.spirv_model.specs.declared.module.Inst.{Inst}
use Rattle.body_model.specs.declared.block_end.BlockEnd.{BlockEnd}
use Rattle.body_model.specs.declared.block_end.BlockEnd.TheVariants.{Ends, GoesOn, Selects, Picks, Loops}
use Rattle.body_model.specs.declared.fault.TreeFault.{TreeFault}
use Rattle.body_model.specs.Scope.{Scope, behind_selection, behind_loop, arm, switch_arm, body, continuing}
use Rattle.body_model.specs.Blocks.{block_end}
use Rattle.body_model.specs.Due.{only, IsDue}
use Rattle.body_model.specs.Switches.{is_among, without, labels_of}
use Rattle.body_model.specs.Grammar.{Sequence, ends, goes_on, selects, picks, loops, Arm, straight, through, Arms, no_arm, arm_behind}
use Rattle.body_model.specs.Reading.{Read, Reader, unless, with, read_arm, label_at, read_arms, read_behind, read_blocks}
use Rattle.body_model.proofs.Dues.{due_within, due_among, label_is}
use Rattle.body_model.proofs.Forward.{sound_at, forward, arm_forward, arms_forward}
use Rattle.body_model.proofs.Shorter.{shorter}

-- reading at a block that is there: so many blocks are enough that one is left to take
pub opened : (insts : List Inst) (scope : Scope) (wanted : Option ℕ) (from : ℕ) (end : BlockEnd) (answer : Result Read TreeFault) → IsDue insts wanted from → block_end insts scope from ≡ end
    → ((n : ℕ) → length insts ≤ from + suc n → read_behind insts (read_blocks n insts) scope end ≡ answer) → (n : ℕ) → length insts ≤ from + n → read_blocks n insts scope wanted from ≡ answer
opened insts scope wanted from end answer here is behind zero enough = absurd (omega (arith, due_within insts (only wanted) from here))
opened insts scope wanted from end answer here is behind (suc n) enough =
    ap (λ (m : Option TreeFault). unless m (read_behind insts (read_blocks n insts) scope (block_end insts scope from))) here
    ∙ ap (read_behind insts (read_blocks n insts) scope) is ∙ behind n enough

-- the next arm of an OpSwitch
abbrev pub arm_after : List Inst → Reader → ℕ → Scope → ℕ → (all labels : List ℕ) → ℕ → ℕ → Result ℕ TreeFault
arm_after insts read n scope merge all labels place label =
    with (read (switch_arm scope merge (without label all)) (Some label) place) (λ arm. read_arms insts read n scope merge all (without label labels) arm.after)

pub next_arm : (insts : List Inst) (read : Reader) (n : ℕ) (scope : Scope) (merge : ℕ) (all : List ℕ) (first : ℕ) (labels : List ℕ) (place label : ℕ) → IsTrue (is_among label (first ∷ labels)) → IsDue insts (Some label) place
    → read_arms insts read (suc n) scope merge all (first ∷ labels) place ≡ arm_after insts read n scope merge all (first ∷ labels) place label
next_arm insts read n scope merge all first labels place label among here =
    ap (λ (m : Option TreeFault). unless m (arm_after insts read n scope merge all (first ∷ labels) place (label_at (drop place insts)))) (due_among insts (first ∷ labels) label place among here)
    ∙ ap (arm_after insts read n scope merge all (first ∷ labels) place) (label_is insts label place here)

-- reading arms comes to reading those that are left
pub record Left (insts : List Inst) (read : Reader) (scope : Scope) (merge : ℕ) (all : List ℕ) (answer : Result ℕ TreeFault) (left : List ℕ) (place : ℕ) : Type 0 where
  pub most : ℕ
  pub enough : length left ≤ most
  pub comes : answer ≡ read_arms insts read most scope merge all left place

more_arms : (insts : List Inst) (read : Reader) (n : ℕ) (scope : Scope) (merge : ℕ) (all labels left : List ℕ) (place to label : ℕ) → length labels ≤ n → IsTrue (is_among label labels) → without label labels ≡ left
    → IsDue insts (Some label) place → read (switch_arm scope merge (without label all)) (Some label) place ≡ Ok (record { after = to; next = None })
    → Left insts read scope merge all (read_arms insts read n scope merge all labels place) left to
more_arms insts read n scope merge all [] left place to label few among is here stands = cc
more_arms insts read zero scope merge all (first ∷ labels) left place to label few among is here stands = absurd (omega arith)
more_arms insts read (suc n) scope merge all (first ∷ labels) left place to label few among is here stands = record {
  most = n;
  enough = omega (arith, shorter label (first ∷ labels) among, ap length is);
  comes = next_arm insts read n scope merge all first labels place label among here
      ∙ ap (λ (r : Result Read TreeFault). with r (λ arm. read_arms insts read n scope merge all (without label (first ∷ labels)) arm.after)) stands
      ∙ ap (λ (l : List ℕ). read_arms insts read n scope merge all l to) is;
}

then_arms : (insts : List Inst) (read : Reader) (scope : Scope) (merge : ℕ) (all : List ℕ) (answer : Result ℕ TreeFault) (before left : List ℕ) (between to : ℕ) → Left insts read scope merge all answer before between
    → ((n : ℕ) → length before ≤ n → Left insts read scope merge all (read_arms insts read n scope merge all before between) left to) → Left insts read scope merge all answer left to
then_arms insts read scope merge all answer before left between to first go =
    let second = go first.most first.enough in record { most = second.most; enough = second.enough; comes = first.comes ∙ second.comes }

same_arms : (insts : List Inst) (read : Reader) (n : ℕ) (scope : Scope) (merge : ℕ) (all due left : List ℕ) (from to : ℕ) → length due ≤ n → due ≡ left → from ≡ to
    → Left insts read scope merge all (read_arms insts read n scope merge all due from) left to
same_arms insts read n scope merge all due left from to few same here = record { most = n; enough = omega (arith, ap length same); comes = cc }

pub due_of : (insts : List Inst) {scope : Scope} {wanted next : Option ℕ} {from to : ℕ} → Sequence insts scope wanted from to next → IsDue insts wanted from
due_of insts (ends last here is label_is place_is) = here
due_of insts (goes_on after here is rest) = here
due_of insts (selects head second join here is on_true on_false rest) = here
due_of insts (picks head join here is arms rest) = here
due_of insts (loops head inner first second third here is tested inside step rest) = here

by_arm : (read : Reader) (scope : Scope) (merge target from to : ℕ) (same : Bool) → target == merge ≡ same → same ≡ false → read (arm scope merge) (Some target) from ≡ Ok (record { after = to; next = None })
    → read_arm read scope merge target from ≡ Ok to
by_arm read scope merge target from to same is isnt stands =
    ap (λ (b : Bool). if b then Ok from else with (read (arm scope merge) (Some target) from) (λ arm. Ok arm.after)) (is ∙ isnt)
    ∙ ap (λ (r : Result Read TreeFault). with r (λ arm. Ok arm.after)) stands

mutual
  pub whole : (insts : List Inst) {scope : Scope} {wanted next : Option ℕ} {from to : ℕ} → Sequence insts scope wanted from to next → (n : ℕ) → length insts ≤ from + n
      → read_blocks n insts scope wanted from ≡ Ok (record { after = to; next = next })
  whole insts {scope = scope} {wanted = wanted} {from = from} (ends last here is label_is place_is) = opened insts scope wanted from (Ends last) _ here is (λ n enough. cc)
  whole insts {scope = scope} {wanted = wanted} {from = from} (goes_on after here is rest) =
      opened insts scope wanted from (GoesOn after) _ here is (λ n enough. whole insts rest n (omega (arith, (sound_at insts scope from (GoesOn after) is).forward)))
  whole insts {scope = scope} {wanted = wanted} {from = from} (selects head second join here is on_true on_false rest) =
      opened insts scope wanted from (Selects head) _ here is (λ n enough.
      let ahead = (sound_at insts scope from (Selects head) is).0.forward in
      let past_true = arm_forward insts on_true in
      let past_false = arm_forward insts on_false in
      ap (λ (r : Result ℕ TreeFault). with r (λ second. with (read_arm (read_blocks n insts) scope head.merge head.on_false second) (λ join. read_blocks n insts (behind_selection scope) (Some head.merge) join)))
      (whole_arm insts on_true n (omega arith))
      ∙ ap (λ (r : Result ℕ TreeFault). with r (λ join. read_blocks n insts (behind_selection scope) (Some head.merge) join)) (whole_arm insts on_false n (omega arith))
      ∙ whole insts rest n (omega arith))
  whole insts {scope = scope} {wanted = wanted} {from = from} (picks head join here is arms rest) =
      opened insts scope wanted from (Picks head) _ here is (λ n enough.
      let ahead = (sound_at insts scope from (Picks head) is).0.forward in
      let past_arms = arms_forward insts arms in
      ap (λ (r : Result ℕ TreeFault). with r (λ join. read_blocks n insts (behind_selection scope) (Some head.merge) join))
      (whole_arms insts arms n (omega arith) (length (labels_of insts head)) (omega arith)).comes
      ∙ whole insts rest n (omega arith))
  whole insts {scope = scope} {wanted = wanted} {from = from} (loops head inner first second third here is tested inside step rest) =
      opened insts scope wanted from (Loops head) _ here is (λ n enough.
      let ahead = (sound_at insts scope from (Loops head) is).0.forward in
      let past_test = (forward insts tested).forward in
      let past_body = (forward insts inside).forward in
      let past_step = (forward insts step).forward in
      ap (λ (r : Result Read TreeFault). with r (λ test. with (read_blocks n insts (body scope head.merge head.next) test.next test.after) (λ inner.
      with (read_blocks n insts (continuing scope head.header) (Some head.next) inner.after) (λ step. read_blocks n insts (behind_loop scope) (Some head.merge) step.after))))
      (whole insts tested n (omega arith))
      ∙ ap (λ (r : Result Read TreeFault). with r (λ inner.
      with (read_blocks n insts (continuing scope head.header) (Some head.next) inner.after) (λ step. read_blocks n insts (behind_loop scope) (Some head.merge) step.after)))
      (whole insts inside n (omega arith))
      ∙ ap (λ (r : Result Read TreeFault). with r (λ step. read_blocks n insts (behind_loop scope) (Some head.merge) step.after)) (whole insts step n (omega arith))
      ∙ whole insts rest n (omega arith))

  pub whole_arm : (insts : List Inst) {scope : Scope} {merge target from to : ℕ} → Arm insts scope merge target from to → (n : ℕ) → length insts ≤ from + n
      → read_arm (read_blocks n insts) scope merge target from ≡ Ok to
  whole_arm insts {scope = scope} {merge = merge} {target = target} {from = from} {to = to} (straight is none) n enough =
      ap (λ (b : Bool). if b then Ok from else with (read_blocks n insts (arm scope merge) (Some target) from) (λ arm. Ok arm.after)) (eq-eqb target merge is) ∙ ap Ok none
  whole_arm insts {scope = scope} {merge = merge} {target = target} {from = from} {to = to} (through isnt sequence) n enough =
      by_arm (read_blocks n insts) scope merge target from to (target == merge) refl (ne_eqb target merge isnt) (whole insts sequence n enough)

  pub whole_arms : (insts : List Inst) {scope : Scope} {merge : ℕ} {all due left : List ℕ} {from to : ℕ} → Arms insts scope merge all due from left to → (n : ℕ) → length insts ≤ from + n
      → (most : ℕ) → length due ≤ most → Left insts (read_blocks n insts) scope merge all (read_arms insts (read_blocks n insts) most scope merge all due from) left to
  whole_arms insts {scope = scope} {merge = merge} {all = all} {due = due} {left = left} {from = from} {to = to} (no_arm same here) n enough most few =
      same_arms insts (read_blocks n insts) most scope merge all due left from to few same here
  whole_arms insts {scope = scope} {merge = merge} {all = all} {left = left} {to = to} (arm_behind label between before arms among is sequence) n enough most few =
      then_arms insts (read_blocks n insts) scope merge all _ before left between to (whole_arms insts arms n enough most few)
      (λ k few_left. more_arms insts (read_blocks n insts) k scope merge all before left between to label few_left among is (due_of insts sequence)
      (whole insts sequence n (omega (arith, arms_forward insts arms))))
