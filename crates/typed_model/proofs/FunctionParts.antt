-- What stands in a function: parts of blocks; behind a terminator stands a label or the function's end, and behind any other a further part.
use Rattle.std.proofs.Common.{◌≡◌, ℕ, zero, suc, ◌+◌, ◌-◌, ◌<◌, ◌≤◌, ◌==◌, ◌⊎◌, inl, inr, true, false, List, [], ◌∷◌, ◌++◌, length, drop, refl, ap, sym, ◌∙◌, subst, arith, Option, Some}
use Rattle.std.specs.Prelude.{slice_get}
use Rattle.std.proofs.lemmas.Bool.{cases_lt}
use Rattle.spirv_model.specs.declared.module.Inst.{Inst}
use Rattle.spirv_model.specs.declared.op.TheConstants.{LABEL, PHI}
use Rattle.body_model.specs.declared.block_end.BlockEnd.{BlockEnd}
use Rattle.body_model.specs.declared.block_end.BlockEnd.TheVariants as way
use Rattle.body_model.specs.Classes.{is_terminator}
use Rattle.body_model.specs.Scope.{Scope}
use Rattle.body_model.specs.Due.{only, IsDue}
use Rattle.body_model.specs.Blocks.{block_end}
use Rattle.body_model.specs.Grammar.{Sequence, ends, goes_on, selects, picks, loops, Arm, straight, through, Arms, no_arm, arm_behind, Derives}
use Rattle.body_model.proofs.Dues.{stands_at}
use Rattle.body_model.proofs.Shapes.{after_of, IsWhole}
use Rattle.body_model.proofs.Slices.{slice_get-drop}
use Rattle.body_model.proofs.Forward.{forward, arm_forward, arms_forward}
use Rattle.stage_model.proofs.WholeBlocks.{block_at}
use Rattle.stage_model.proofs.CodeRuns.{due_of}
use Rattle.typed_model.proofs.VisibleJumps.{block_last}
use Rattle.typed_model.proofs.BlockParts.{clash, BlockPart, block_parts}

-- an OpLabel stands at the place
pub record LabelAt (insts : List Inst) (place : ℕ) : Type 0 where
  pub inst : Inst
  pub at : slice_get insts place ≡ Some inst
  pub is : inst.op == LABEL ≡ true

-- a part of a block stands at the place; a label behind it, where it is a terminator that isn't the last one up to an end; and else a further part, which is no label, and a phi only behind a
-- label or a phi
pub record Fits (insts : List Inst) (to place : ℕ) : Type 0 where
  pub inst : Inst
  pub at : slice_get insts place ≡ Some inst
  pub part : BlockPart inst
  pub on : is_terminator inst.op ≡ false → place + 1 < to
  pub inside : is_terminator inst.op ≡ false → (other : Inst) → slice_get insts (place + 1) ≡ Some other → other.op == LABEL ≡ false
  pub next : is_terminator inst.op ≡ true → place + 1 < to → LabelAt insts (place + 1)
  pub phis : is_terminator inst.op ≡ false → inst.op == LABEL ≡ false → inst.op == PHI ≡ false → (other : Inst) → slice_get insts (place + 1) ≡ Some other → other.op == PHI ≡ false

-- parts of blocks stand from a place up to another one, a label first
pub record Fills (insts : List Inst) (from to : ℕ) : Type 0 where
  pub starts : (from ≡ to) ⊎ LabelAt insts from
  pub each : (place : ℕ) → from ≤ place → place < to → Fits insts to place

fits_on : (insts : List Inst) (middle to place : ℕ) → place < middle → middle ≤ to → Fits insts middle place → (middle ≡ to) ⊎ LabelAt insts middle → Fits insts to place
fits_on insts middle to place less more f starts = record {
  inst = f.inst;
  at = f.at;
  part = f.part;
  on = λ isnt. omega (arith, f.on isnt, more);
  inside = f.inside;
  phis = f.phis;
  next = λ is low. elim (cases_lt (place + 1) middle) [
    | inl early ↦ f.next is early
    | inr late ↦ elim starts [
      | inl none ↦ absurd (omega (arith, none, less, low))
      | inr label ↦ let e : middle ≡ place + 1 = omega arith in subst (LabelAt insts) e label
    ]
  ];
}

joined : (insts : List Inst) (from middle to : ℕ) → from ≤ middle → middle ≤ to → Fills insts from middle → Fills insts middle to → Fills insts from to
joined insts from middle to low high front rest = record {
  starts = elim front.starts [ inl none ↦ subst (λ n. (n ≡ to) ⊎ LabelAt insts n) (sym none) rest.starts | inr label ↦ inr label ];
  each = λ place past less. elim (cases_lt place middle) [
    | inl early ↦ fits_on insts middle to place early high (front.each place past early) rest.starts
    | inr late ↦ rest.each place (omega (arith, late)) less
  ];
}

nothing : (insts : List Inst) (from to : ℕ) → from ≡ to → Fills insts from to
nothing insts from to none = record { starts = inl none; each = λ place past less. absurd (omega (arith, none, past, less)) }

-- ---- a block

found_front : (front : List Inst) (last : Inst) (behind : List Inst) (index : ℕ) → index < length front + 1 → (inst : Inst) × (slice_get (front ++ last ∷ behind) index ≡ Some inst)
found_front [] last behind zero less = (last, refl)
found_front [] last behind (suc index) less = absurd (omega arith)
found_front (first ∷ front) last behind zero less = (first, refl)
found_front (first ∷ front) last behind (suc index) less = found_front front last behind index (omega (arith, less))

pub last_of : (front : List Inst) (last : Inst) (behind : List Inst) → slice_get (front ++ last ∷ behind) (length front) ≡ Some last
last_of [] last behind = refl
last_of (first ∷ front) last behind = last_of front last behind

same_inst : (found : Option Inst) (a b : Inst) → found ≡ Some a → found ≡ Some b → a ≡ b
same_inst found a b is also = cc

block_fits : (insts : List Inst) (scope : Scope) (wanted : Option ℕ) (from : ℕ) (end : BlockEnd) → IsDue insts wanted from → block_end insts scope from ≡ end → IsWhole end → (place : ℕ) → from ≤ place → place < after_of end → Fits insts (after_of end) place
block_fits insts scope wanted from end due is whole place low high =
    let b = block_at insts scope wanted from end due is whole in
    let e : from + (place - from) ≡ place = omega arith in
    let found = found_front b.front b.last b.behind (place - from) (omega (arith, b.after)) in
    let here : slice_get (drop from insts) (place - from) ≡ Some found.0 = ap (λ (l : List Inst). slice_get l (place - from)) b.here ∙ found.1 in
    let at : slice_get insts place ≡ Some found.0 = sym (slice_get-drop from (place - from) insts ∙ ap (slice_get insts) e) ∙ here in
    record {
      inst = found.0;
      at = at;
      part = (block_parts insts scope wanted from end due is whole).parts (place - from) found.0 here (omega (arith, e, high));
      on = on found.0 found.1;
      inside = λ isnt other behind.
          let n : from + suc (place - from) ≡ place + 1 = omega (arith, e) in
          let less = on found.0 found.1 isnt in
          ((block_parts insts scope wanted from end due is whole).later (place - from) other (slice_get-drop from (suc (place - from)) insts ∙ ap (slice_get insts) n ∙ behind) (omega (arith, n, less))).no_label;
      phis = λ isnt no_label no_phi other behind.
          let n : from + suc (place - from) ≡ place + 1 = omega (arith, e) in
          let less = on found.0 found.1 isnt in
          (block_parts insts scope wanted from end due is whole).phis (place - from) found.0 other here (slice_get-drop from (suc (place - from)) insts ∙ ap (slice_get insts) n ∙ behind) (omega (arith, n, less)) no_label no_phi;
      next = λ ending more. let l = block_last insts scope from end b place found.0 low high at ending in absurd (omega (arith, l.0, more));
    }
  where
    on : (found : Inst) → slice_get ((block_at insts scope wanted from end due is whole).front ++ (block_at insts scope wanted from end due is whole).last ∷ (block_at insts scope wanted from end due is whole).behind) (place - from) ≡ Some found
        → is_terminator found.op ≡ false → place + 1 < after_of end
    on found here isnt = elim (cases_lt (place + 1) (after_of end)) [
      | inl early ↦ early
      | inr late ↦
          let b = block_at insts scope wanted from end due is whole in
          let k : place - from ≡ length b.front = omega (arith, b.after, late, high) in
          let l : b.last ≡ found = same_inst _ b.last found (ap (slice_get (b.front ++ b.last ∷ b.behind)) k ∙ last_of b.front b.last b.behind) here in
          absurd (clash (is_terminator b.last.op) b.terminator (ap (λ (i : Inst). is_terminator i.op) l ∙ isnt))
    ]

pub label_due : (insts : List Inst) (wanted : Option ℕ) (from : ℕ) → IsDue insts wanted from → LabelAt insts from
label_due insts wanted from due =
    let s = stands_at insts (only wanted) from due in
    let e : from + 0 ≡ from = omega arith in
    record { inst = s.inst; at = sym (slice_get-drop from 0 insts ∙ ap (slice_get insts) e) ∙ ap (λ (l : List Inst). slice_get l 0) s.front; is = s.label }

block_fills : (insts : List Inst) (scope : Scope) (wanted : Option ℕ) (from : ℕ) (end : BlockEnd) → IsDue insts wanted from → block_end insts scope from ≡ end → IsWhole end → Fills insts from (after_of end)
block_fills insts scope wanted from end due is whole = record { starts = inr (label_due insts wanted from due); each = block_fits insts scope wanted from end due is whole }

block_on : (insts : List Inst) (scope : Scope) (wanted : Option ℕ) (from : ℕ) (end : BlockEnd) → IsDue insts wanted from → block_end insts scope from ≡ end → IsWhole end → from ≤ after_of end
block_on insts scope wanted from end due is whole = let b = block_at insts scope wanted from end due is whole in omega (arith, b.after)

-- a block, and what follows
behind_block : (insts : List Inst) (scope : Scope) (wanted : Option ℕ) (from to : ℕ) (end : BlockEnd) → IsDue insts wanted from → block_end insts scope from ≡ end → IsWhole end → after_of end ≤ to → Fills insts (after_of end) to → Fills insts from to
behind_block insts scope wanted from to end due is whole high rest =
    joined insts from (after_of end) to (block_on insts scope wanted from end due is whole) high (block_fills insts scope wanted from end due is whole) rest

-- ---- a function

mutual
  fills : (insts : List Inst) {scope : Scope} {wanted next : Option ℕ} {from to : ℕ} → Sequence insts scope wanted from to next → Fills insts from to
  fills insts {scope = scope} {wanted = wanted} {from = from} {to = to} (ends last here is label_is place_is) =
      subst (Fills insts from) place_is (block_fills insts scope wanted from (way.Ends last) here is tt)
  fills insts {scope = scope} {wanted = wanted} {from = from} {to = to} (goes_on after here is rest) =
      let r = forward insts rest in behind_block insts scope wanted from to (way.GoesOn after) here is tt (omega (arith, r.forward)) (fills insts rest)
  fills insts {scope = scope} {wanted = wanted} {from = from} {to = to} (selects head second join here is on_true on_false rest) =
      let p = arm_forward insts on_true in let q = arm_forward insts on_false in let r = forward insts rest in
      behind_block insts scope wanted from to (way.Selects head) here is tt (omega (arith, p, q, r.forward))
      (joined insts head.after second to p (omega (arith, q, r.forward)) (arm_fills insts on_true) (joined insts second join to q (omega (arith, r.forward)) (arm_fills insts on_false) (fills insts rest)))
  fills insts {scope = scope} {wanted = wanted} {from = from} {to = to} (picks head join here is arms rest) =
      let p = arms_forward insts arms in let r = forward insts rest in
      behind_block insts scope wanted from to (way.Picks head) here is tt (omega (arith, p, r.forward))
      (joined insts head.after join to p (omega (arith, r.forward)) (arms_fill insts arms) (fills insts rest))
  fills insts {scope = scope} {wanted = wanted} {from = from} {to = to} (loops head inner first second third here is condition body step rest) =
      let p = forward insts condition in let q = forward insts body in let r = forward insts step in let u = forward insts rest in
      behind_block insts scope wanted from to (way.Loops head) here is tt (omega (arith, p.forward, q.forward, r.forward, u.forward))
      (joined insts head.after first to (omega (arith, p.forward)) (omega (arith, q.forward, r.forward, u.forward)) (fills insts condition)
      (joined insts first second to (omega (arith, q.forward)) (omega (arith, r.forward, u.forward)) (fills insts body)
      (joined insts second third to (omega (arith, r.forward)) (omega (arith, u.forward)) (fills insts step) (fills insts rest))))

  arm_fills : (insts : List Inst) {scope : Scope} {merge target from to : ℕ} → Arm insts scope merge target from to → Fills insts from to
  arm_fills insts {from = from} {to = to} (straight is none) = nothing insts from to none
  arm_fills insts (through isnt sequence) = fills insts sequence

  arms_fill : (insts : List Inst) {scope : Scope} {merge : ℕ} {all due left : List ℕ} {from to : ℕ} → Arms insts scope merge all due from left to → Fills insts from to
  arms_fill insts {from = from} {to = to} (no_arm is none) = nothing insts from to none
  arms_fill insts {from = from} {to = to} (arm_behind label between before arms among is sequence) =
      let q = forward insts sequence in joined insts from between to (arms_forward insts arms) (omega (arith, q.forward)) (arms_fill insts arms) (fills insts sequence)

-- each instruction from the function's first label up to its end is a part of a block, with a label or a further part that is none behind it
pub function_fits : (insts : List Inst) (d : Derives insts) (place : ℕ) → d.before + 1 ≤ place → place < d.after → Fits insts d.after place
function_fits insts d place low high = (fills insts d.sequence).each place low high

-- an OpLabel stands first
pub function_starts : (insts : List Inst) (d : Derives insts) → LabelAt insts (d.before + 1)
function_starts insts d = by_sequence d.sequence
  where
    by_sequence : {scope : Scope} {wanted next : Option ℕ} {from to : ℕ} → Sequence insts scope wanted from to next → LabelAt insts from
    by_sequence {wanted = wanted} {from = from} s = label_due insts wanted from (due_of s)
