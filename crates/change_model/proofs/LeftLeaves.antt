-- Which labels the instructions of a sequence name: labels that stand in it, or to which it may be left.
use Rattle.std.proofs.Common.{◌≡◌, ℕ, ◌+◌, ◌<◌, ◌≤◌, ◌⊎◌, inl, inr, Bool, true, false, ◌==◌, ◌||◌, if◌then◌else◌, List, [], ◌∷◌, length, slice_index, refl, ap, ◌∙◌, arith, Option}
use Rattle.std.proofs.lemmas.Bool.{eqb-true}
use Rattle.std.proofs.lemmas.Option.{slice_get-get_or}
use Rattle.spirv_model.specs.declared.module.Inst.{Inst}
use Rattle.spirv_model.specs.declared.op.TheConstants as op
use Rattle.body_model.specs.declared.block_end.BlockEnd.{BlockEnd}
use Rattle.body_model.specs.Blocks.{block_end}
use Rattle.body_model.specs.Classes.{is_terminator}
use Rattle.body_model.specs.Due.{IsDue}
use Rattle.body_model.specs.Scope.{Scope}
use Rattle.body_model.specs.Switches.{is_among, targets_of}
use Rattle.body_model.specs.Targets.{targets_by, targets, MayLeaveTo}
use Rattle.body_model.specs.Grammar.{Sequence}
use Rattle.body_model.proofs.ClassFacts.{ends_branch, ends_branch_conditional, ends_switch}
use Rattle.body_model.proofs.Forward.{forward}
use Rattle.body_model.proofs.Shapes.{IsWhole, after_of}
use Rattle.valid_model.specs.Definitions.{inst_at, no_instruction}
use Rattle.stage_model.proofs.WholeBlocks.{BlockAt, block_at}
use Rattle.typed_model.proofs.VisibleJumps.{Names, block_last, jumps}
use Rattle.change_model.specs.PlanRules.{merge_labels}
use Rattle.change_model.proofs.LeftFronts.{old_block}
use Rattle.change_model.proofs.LeftBlockNames.{StandsIn, stands_due, stands_wider, by_merge, Merged, block_merges}
use Rattle.change_model.proofs.LeftMerges.{merges_in}
use Rattle.change_model.proofs.LeftScopes.{names}

-- what names a label is a terminator
pub named_terminator : (inst : Inst) (label : ℕ) → is_among label (targets inst) ≡ true → is_terminator inst.op ≡ true
unfolding targets_by
named_terminator inst label among = by_tests (inst.op == op.BRANCH) (inst.op == op.BRANCH_CONDITIONAL) (inst.op == op.SWITCH) refl refl refl among
  where
    by_tests : (a b c : Bool) → inst.op == op.BRANCH ≡ a → inst.op == op.BRANCH_CONDITIONAL ≡ b → inst.op == op.SWITCH ≡ c
        → is_among label (if a then slice_index inst.words 0 ∷ [] else if b then slice_index inst.words 1 ∷ slice_index inst.words 2 ∷ [] else if c then targets_of inst.words else []) ≡ true
        → is_terminator inst.op ≡ true
    by_tests true b c is also third among = ap is_terminator (eqb-true inst.op op.BRANCH is) ∙ ends_branch
    by_tests false true c is also third among = ap is_terminator (eqb-true inst.op op.BRANCH_CONDITIONAL also) ∙ ends_branch_conditional
    by_tests false false true is also third among = ap is_terminator (eqb-true inst.op op.SWITCH third) ∙ ends_switch
    by_tests false false false is also third among = cc

pub targets_in : (insts : List Inst) {scope : Scope} {wanted next : Option ℕ} {from to : ℕ} → Sequence insts scope wanted from to next → (place label : ℕ) → from ≤ place → place < to → is_among label (targets (inst_at insts place)) ≡ true
    → StandsIn insts from to label ⊎ MayLeaveTo scope next label
targets_in insts {from = from} {to = to} s place label low high among =
    let f = forward insts s in
    let w = f.within in
    let n : Names insts place label = record { inst = inst_at insts place; at = slice_get-get_or insts place no_instruction (omega (arith, high, w)); terminator = named_terminator (inst_at insts place) label among; among = among } in
    elim (jumps insts s place label n low high) [
      | inl l ↦ inl (stands_due insts from to label label l.place l.low l.high refl l.due)
      | inr may ↦ inr may
    ]

pub names_in : (insts : List Inst) {scope : Scope} {wanted next : Option ℕ} {from to : ℕ} → Sequence insts scope wanted from to next → (place label : ℕ) → from ≤ place → place < to → names insts place label ≡ true
    → StandsIn insts from to label ⊎ MayLeaveTo scope next label
names_in insts {scope} {wanted} {next} {from} {to} s place label low high named = by_test (is_among label (targets (inst_at insts place))) (is_among label (merge_labels (inst_at insts place))) refl refl named
  where
    by_test : (a b : Bool) → is_among label (targets (inst_at insts place)) ≡ a → is_among label (merge_labels (inst_at insts place)) ≡ b → (a || b) ≡ true → StandsIn insts from to label ⊎ MayLeaveTo scope next label
    by_test true b leads merges either = targets_in insts s place label low high leads
    by_test false true leads merges either = inl (stands_wider insts (place + 1) to from to label (omega (arith, low)) (omega arith) (merges_in insts s place label low high (by_merge merges)))
    by_test false false leads merges either = cc

-- ---- the first block

-- what it names by a terminator is named by its last one
pub block_targets : (insts : List Inst) (scope : Scope) (from : ℕ) (end : BlockEnd) (b : BlockAt insts scope from end) → after_of end ≤ length insts → (place label : ℕ) → from ≤ place → place < after_of end
    → is_among label (targets (inst_at insts place)) ≡ true → is_among label (targets b.last) ≡ true
block_targets insts scope from end b within place label low high among =
    let last = block_last insts scope from end b place (inst_at insts place) low high (slice_get-get_or insts place no_instruction (omega (arith, high, within))) (named_terminator (inst_at insts place) label among) in
    ap (λ (i : Inst). is_among label (targets i)) last.1 ∙ among

-- by a terminator, or by a merge instruction
pub block_names : {Q : ℕ → Type 0} (insts : List Inst) (scope : Scope) (wanted : Option ℕ) (from : ℕ) (end : BlockEnd) → IsDue insts wanted from → block_end insts scope from ≡ end → IsWhole end → after_of end ≤ length insts
    → ((b : BlockAt insts scope from end) (label : ℕ) → is_among label (targets b.last) ≡ true → Q label) → ((label : ℕ) → Merged insts end label → Q label)
    → (place label : ℕ) → from ≤ place → place < after_of end → names insts place label ≡ true → Q label
block_names {Q = Q} insts scope wanted from end here is whole within leads merges place label low high named =
    by_test (is_among label (targets (inst_at insts place))) (is_among label (merge_labels (inst_at insts place))) refl refl named
  where
    by_test : (a b : Bool) → is_among label (targets (inst_at insts place)) ≡ a → is_among label (merge_labels (inst_at insts place)) ≡ b → (a || b) ≡ true → Q label
    by_test true b first second either =
        let block = block_at insts scope wanted from end here is whole in
        leads block label (block_targets insts scope from end block within place label low high first)
    by_test false true first second either = merges label (block_merges insts scope from end (old_block insts scope wanted from end here is whole) whole place label low high (by_merge second))
    by_test false false first second either = cc
