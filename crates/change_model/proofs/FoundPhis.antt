-- The block of a phi in the plan that one pass finds: its label, and that it is alive where the phi is.
use Rattle.std.proofs.Common.{◌≡◌, ℕ, zero, suc, ◌+◌, ◌-◌, ◌<◌, ◌≤◌, false, List, refl, ap, sym, ◌∙◌, arith}
use Rattle.spirv_model.specs.declared.module.Inst.{Inst}
use Rattle.spirv_model.specs.declared.op.TheConstants as op
use Rattle.valid_model.specs.Definitions.{inst_at}
use Rattle.typed_model.proofs.FunctionRuns.{function_within}
use Rattle.change_model.specs.Plans.{is_dead, block_at}
use Rattle.change_model.proofs.FoundLabels.{same_block}
use Rattle.change_model.proofs.FoundPlans.{Found}
use Rattle.change_model.proofs.LeftBlockNames.{inner_isnt}
use Rattle.change_model.proofs.LeftFates.{inners}
use Rattle.change_model.proofs.LeftPhis.{block_of}
use Rattle.change_model.proofs.LeftScopes.{is_label_at, label_at}
use Rattle.change_model.proofs.PhiEntries.{PhiIn, phi_in}

module _ (f : Found) where
  abbrev insts : List Inst
  insts = f.words.insts

  -- an instruction is dead where the label of its block is
  life_by : (n from place : ℕ) → place ≡ from + n → f.valid.derivation.before + 1 ≤ from → place < f.valid.derivation.after → ((at : ℕ) → from < at → at ≤ place → is_label_at insts at ≡ false) → is_dead (f.plan.fate place) ≡ is_dead (f.plan.fate from)
  life_by zero from place is low high plain = ap (λ (n : ℕ). is_dead (f.plan.fate n)) {x = place} {y = from} (omega (arith, is))
  life_by (suc n) from place is low high plain =
      let one : place ≡ from + n + 1 = omega (arith, is) in
      ap (λ (n : ℕ). is_dead (f.plan.fate n)) one
      ∙ same_block f (from + n) (omega (arith, low)) (omega (arith, one, high)) (ap (is_label_at insts) (sym one) ∙ plain place (omega (arith, is)) (omega arith))
      ∙ life_by n from (from + n) refl low (omega (arith, one, high)) (λ at less most. plain at less (omega (arith, one, most)))

  pub block_life : (from place : ℕ) → from ≤ place → f.valid.derivation.before + 1 ≤ from → place < f.valid.derivation.after → ((at : ℕ) → from < at → at ≤ place → is_label_at insts at ≡ false) → is_dead (f.plan.fate place) ≡ is_dead (f.plan.fate from)
  block_life from place most low high plain = life_by (place - from) from place (omega (arith, most)) low high plain

  module _ (place : ℕ) (low : f.valid.derivation.before < place) (high : place < f.valid.derivation.after) (is : (inst_at insts place).op ≡ op.PHI) where
    pub phi_block : PhiIn insts f.valid.derivation place
    phi_block = phi_in f.words f.valid place (omega (arith, low)) high is

    no_label : (at : ℕ) → phi_block.at < at → at ≤ place → is_label_at insts at ≡ false
    no_label at less most = inner_isnt (inst_at insts at).op op.LABEL (phi_block.front at less most) inners.label

    pub phi_own : block_at insts place ≡ label_at insts phi_block.at
    phi_own =
        let b = phi_block.behind in
        let w = function_within insts f.valid.derivation place high in
        block_of insts phi_block.at place b (omega (arith, w)) phi_block.is_label (λ at less more. no_label at less (omega (arith, more)))

    pub phi_life : is_dead (f.plan.fate place) ≡ is_dead (f.plan.fate phi_block.at)
    phi_life =
        let b = phi_block.behind in
        let l = phi_block.low in
        block_life phi_block.at place (omega (arith, b)) (omega (arith, l)) high no_label
