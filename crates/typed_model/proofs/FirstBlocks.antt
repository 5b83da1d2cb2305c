-- The function's first block has no phi.
use Rattle.std.proofs.Common.{◌≡◌, ℕ, suc, ◌+◌, ◌-◌, ◌<◌, ◌≤◌, ◌==◌, inl, inr, false, List, length, refl, ap, sym, ◌∙◌, arith, Option, None, Some}
use Rattle.std.specs.Prelude.{slice_get}
use Rattle.std.proofs.lemmas.Bool.{cases_lt}
use Rattle.std.proofs.lemmas.Option.{get_or_from_slice_get}
use Rattle.spirv_model.specs.declared.module.Inst.{Inst}
use Rattle.spirv_model.specs.declared.op.TheConstants.{LABEL, PHI}
use Rattle.body_model.specs.declared.block_end.BlockEnd.{BlockEnd}
use Rattle.body_model.specs.declared.block_end.BlockEnd.TheVariants as way
use Rattle.body_model.specs.Classes.{is_terminator}
use Rattle.body_model.specs.Scope.{Scope, main}
use Rattle.body_model.specs.Due.{IsDue}
use Rattle.body_model.specs.Blocks.{block_end}
use Rattle.body_model.specs.Grammar.{Sequence, ends, goes_on, selects, picks, loops, Derives}
use Rattle.body_model.proofs.Shapes.{after_of, IsWhole}
use Rattle.body_model.proofs.Slices.{slice_get-drop}
use Rattle.valid_model.specs.Definitions.{inst_at, no_instruction}
use Rattle.stage_model.proofs.WholeBlocks.{block_at}
use Rattle.typed_model.specs.Running.{IsInFirst}
use Rattle.typed_model.proofs.BlockParts.{block_parts, clash}
use Rattle.typed_model.proofs.FunctionParts.{last_of, function_fits}

-- how a sequence's first block ends
record FirstBlock (insts : List Inst) (scope : Scope) (wanted : Option ℕ) (from : ℕ) : Type 0 where
  end : BlockEnd
  due : IsDue insts wanted from
  is : block_end insts scope from ≡ end
  whole : IsWhole end

first_block : (insts : List Inst) {scope : Scope} {wanted next : Option ℕ} {from to : ℕ} → Sequence insts scope wanted from to next → FirstBlock insts scope wanted from
first_block insts (ends last here is label_is place_is) = record { end = way.Ends last; due = here; is = is; whole = tt }
first_block insts (goes_on after here is rest) = record { end = way.GoesOn after; due = here; is = is; whole = tt }
first_block insts (selects head second join here is on_true on_false rest) = record { end = way.Selects head; due = here; is = is; whole = tt }
first_block insts (picks head join here is arms rest) = record { end = way.Picks head; due = here; is = is; whole = tt }
first_block insts (loops head inner first second third here is condition body step rest) = record { end = way.Loops head; due = here; is = is; whole = tt }

pub found_at : (insts : List Inst) (place : ℕ) (inst : Inst) → slice_get insts place ≡ Some inst → inst_at insts place ≡ inst
found_at insts place inst at = get_or_from_slice_get insts place inst no_instruction at

same_found : (found : Option Inst) (a b : Inst) → found ≡ Some a → found ≡ Some b → a ≡ b
same_found found a b is also = cc

-- behind the first block there is a label before the place
behind_first : (insts : List Inst) (d : Derives insts) (place : ℕ) → d.before + 1 ≤ place → place < d.after → after_of (first_block insts d.sequence).end ≤ place → IsInFirst insts (d.before + 1) place → ⊥
behind_first insts d place low high late first =
    let f = first_block insts d.sequence in let from = d.before + 1 in
    let b = block_at insts main None from f.end f.due f.is f.whole in
    let last : slice_get insts (from + length b.front) ≡ Some b.last = sym (slice_get-drop from (length b.front) insts) ∙ (ap (λ (l : List Inst). slice_get l (length b.front)) b.here ∙ last_of b.front b.last b.behind) in
    let g = function_fits insts d (from + length b.front) (omega arith) (omega (arith, b.after, late, high)) in
    let e : b.last ≡ g.inst = same_found _ b.last g.inst last g.at in
    let label = g.next (ap (λ (i : Inst). is_terminator i.op) (sym e) ∙ b.terminator) (omega (arith, b.after, late, high)) in
    clash (label.inst.op == LABEL) label.is (ap (λ (i : Inst). i.op == LABEL) (sym (found_at insts (from + length b.front + 1) label.inst label.at)) ∙ first (from + length b.front + 1) (omega arith) (omega (arith, b.after, late)))

pub no_phi_first : (insts : List Inst) (d : Derives insts) (place : ℕ) → d.before + 1 < place → place < d.after → IsInFirst insts (d.before + 1) place → (inst_at insts place).op == PHI ≡ false
no_phi_first insts d place low high first =
    let f = first_block insts d.sequence in let from = d.before + 1 in
    let g = function_fits insts d place (omega (arith, low)) high in
    let n : from + suc (place - from - 1) ≡ place = omega (arith, low) in
    elim (cases_lt place (after_of f.end)) [
      | inl early ↦ ap (λ (i : Inst). i.op == PHI) (found_at insts place g.inst g.at)
          ∙ ((block_parts insts main None from f.end f.due f.is f.whole).later (place - from - 1) g.inst (slice_get-drop from (suc (place - from - 1)) insts ∙ ap (slice_get insts) n ∙ g.at) (omega (arith, n, early))).no_phi refl
      | inr late ↦ absurd (behind_first insts d place (omega (arith, low)) high late first)
    ]
