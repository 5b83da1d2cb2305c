-- A block that the grammar takes, as the machine runs it.
use Rattle.std.proofs.Common.{◌≡◌, ℕ, ◌+◌, ◌-◌, ◌<◌, ◌≤◌, ◌==◌, ◌&&◌, Bool, true, false, List, [], ◌∷◌, ◌++◌, length, drop, take, slice_index, refl, ap, sym, ◌∙◌, subst, arith, Option, None, Some}
use Rattle.std.proofs.lemmas.Bool.Decides.{nat_tests}
use Rattle.std.proofs.Math.Seq.{take-append-add}
use Rattle.limits.specs.declared.TheConstants.{BACK_EDGES}
use Rattle.spirv_model.specs.declared.module.Inst.{Inst}
use Rattle.spirv_model.specs.declared.op.TheConstants.{LABEL}
use Rattle.body_model.specs.declared.block_end.BlockEnd.{BlockEnd}
use Rattle.body_model.specs.Classes.{is_terminator}
use Rattle.body_model.specs.Scope.{Scope}
use Rattle.body_model.specs.Blocks.{begins_with, leads_to_loop, may_have_phis, rest_of_block, block_from, block_end}
use Rattle.body_model.specs.Due.{only, IsDue}
use Rattle.body_model.specs.Code.{slice}
use Rattle.body_model.proofs.ClassFacts.{straight_label}
use Rattle.body_model.proofs.Dues.{stands_at}
use Rattle.body_model.proofs.Shapes.{AreStraight, Terminates, after_of, IsWhole, Shape, shape_rest}
use Rattle.stage_model.specs.Program.{Program}
use Rattle.stage_model.specs.Machine.{State}
use Rattle.stage_model.specs.Running.{block}
use Rattle.stage_model.specs.Leads.{Leads}
use Rattle.stage_model.proofs.BlockRuns.{AfterLast, block_leads}

-- the block at a place: its instructions up to its terminator, the terminator, and what stands behind
pub record BlockAt (insts : List Inst) (scope : Scope) (place : ℕ) (end : BlockEnd) : Type 0 where
  pub label : ℕ
  pub front : List Inst
  pub last : Inst
  pub behind : List Inst
  pub here : drop place insts ≡ front ++ last ∷ behind
  pub begins : begins_with label (drop place insts) ≡ true
  pub straight : AreStraight front
  pub terminator : is_terminator last.op ≡ true
  pub after : after_of end ≡ place + length front + 1
  pub ends : Terminates scope label last behind end

op_is : (op known : ℕ) → op == known ≡ true → op ≡ known
op_is op known is = grind (arith, nat_tests)

self : (a : ℕ) → a == a ≡ true
self a = grind (arith, nat_tests)

both_true : (a b : Bool) → a ≡ true → b ≡ true → (a && b) ≡ true
both_true true b is also = also
both_true false b is also = cc

with_label : (insts : List Inst) (scope : Scope) (place : ℕ) (end : BlockEnd) (inst : Inst) (more : List Inst) → drop place insts ≡ inst ∷ more → inst.op == LABEL ≡ true
    → Shape scope (slice_index inst.words 0) more (place + 1) end → BlockAt insts scope place end
with_label insts scope place end inst more is label shape = record {
  label = slice_index inst.words 0;
  front = inst ∷ shape.front;
  last = shape.last;
  behind = shape.behind;
  here = is ∙ ap (λ (l : List Inst). inst ∷ l) shape.is;
  begins = ap (begins_with (slice_index inst.words 0)) is ∙ both_true _ _ label (self (slice_index inst.words 0));
  straight = (ap is_terminator (op_is inst.op LABEL label) ∙ straight_label, shape.straight);
  terminator = shape.terminator;
  after = omega (arith, shape.after);
  ends = shape.ends;
}

by_front : (scope : Scope) (place : ℕ) (end : BlockEnd) (inst : Inst) (more : List Inst) → block_from scope (inst ∷ more) place ≡ end → IsWhole end → Shape scope (slice_index inst.words 0) more (place + 1) end
by_front scope place end inst more is whole =
    let P : BlockEnd → Type 0 = λ end. IsWhole end → Shape scope (slice_index inst.words 0) more (place + 1) end in
    subst P is (shape_rest scope (slice_index inst.words 0) (may_have_phis scope.phis (leads_to_loop more)) scope.first more (place + 1)) whole

pub block_at : (insts : List Inst) (scope : Scope) (wanted : Option ℕ) (place : ℕ) (end : BlockEnd) → IsDue insts wanted place → block_end insts scope place ≡ end → IsWhole end
    → BlockAt insts scope place end
unfolding block_end
block_at insts scope wanted place end due is whole =
    let s = stands_at insts (only wanted) place due in
    with_label insts scope place end s.inst s.more s.front s.label
    (by_front scope place end s.inst s.more (sym (ap (λ (l : List Inst). block_from scope l place) s.front) ∙ is) whole)

take_front : (front : List Inst) (last : Inst) (behind : List Inst) → take (length front + 1) (front ++ last ∷ behind) ≡ front ++ last ∷ []
take_front front last behind = take-append-add front (last ∷ behind) 1

pub slice_is : (insts : List Inst) (scope : Scope) (place : ℕ) (end : BlockEnd) (b : BlockAt insts scope place end) → slice insts place (after_of end) ≡ b.front ++ b.last ∷ []
slice_is insts scope place end b =
    ap (λ (n : ℕ). take n (drop place insts)) (omega (arith, b.after)) ∙ ap (take (length b.front + 1)) b.here ∙ take_front b.front b.last b.behind

-- it leads where its terminator does
pub leads_block : (insts : List Inst) (program : Program) → program.insts ≡ insts → (scope : Scope) (place : ℕ) (end : BlockEnd) (b : BlockAt insts scope place end) (state : State) → state.back_edges < BACK_EDGES
    → Leads program (AfterLast b.last) place (after_of end) state (block program (slice insts place (after_of end)) state)
leads_block insts program same scope place end b state few =
    let runs = block_leads program b.front b.last b.behind place state (ap (drop place) same ∙ b.here) b.straight b.terminator few in
    subst (λ after. Leads program (AfterLast b.last) place after state (block program (slice insts place (after_of end)) state)) (sym b.after)
    (subst (λ part. Leads program (AfterLast b.last) place (place + length b.front + 1) state (block program part state)) (sym (slice_is insts scope place end b)) runs)
