-- The label of the block that a place is in stands before it, and no id that is given is zero.
use Rattle.std.proofs.Common.{◌≡◌, ℕ, zero, suc, ◌<◌, ◌≤◌, ◌⊎◌, inl, inr, Bool, true, false, not, ◌==◌, ◌&&◌, nat_lt, if◌then◌else◌, List, length, refl, ap, sym, ◌∙◌, arith, Some}
use Rattle.std.specs.List.{list_all}
use Rattle.std.proofs.lemmas.Bool.{ltb-true}
use Rattle.std.proofs.lemmas.Option.{slice_get-get_or}
use Rattle.basics.proofs.Bools.{first_of_both}
use Rattle.spirv_model.specs.declared.module.Inst.{Inst}
use Rattle.spirv_model.specs.declared.module.Words.{Words}
use Rattle.spirv_model.specs.declared.op.TheConstants as op
use Rattle.spirv_model.specs.Operands.{word_at, ids, result}
use Rattle.valid_model.specs.Definitions.{inst_at, no_instruction, id_out_of_bound}
use Rattle.check_model.specs.Validity.{IsValidList}
use Rattle.typed_model.proofs.BlockLists.{label_behind_next}
use Rattle.typed_model.proofs.ValidModules.{valid_sound}
use Rattle.change_model.specs.Plans.{block_at}
use Rattle.change_model.proofs.ConstantsSound.{keeps_all}
use Rattle.change_model.proofs.LeftScopes.{is_label_at, label_at}
use Rattle.change_model.proofs.ResultsAmongIds.{true_of_result}

-- the label of the block that a place is in stands before it
pub block_before : (insts : List Inst) (at : ℕ) → at ≤ length insts → (block_at insts at ≡ 0) ⊎ ((l : ℕ) × (l < at) × (is_label_at insts l ≡ true) × (label_at insts l ≡ block_at insts at))
block_before insts zero most = inl refl
block_before insts (suc n) most =
    by_label (is_label_at insts n) refl (label_behind_next 0 insts n (inst_at insts n) (slice_get-get_or insts n no_instruction (omega (arith, most)))) (block_before insts n (omega (arith, most)))
  where
    by_label : (b : Bool) → is_label_at insts n ≡ b → block_at insts (suc n) ≡ (if (inst_at insts n).op == op.LABEL then word_at 0 (inst_at insts n) else block_at insts n)
        → (block_at insts n ≡ 0) ⊎ ((l : ℕ) × (l < n) × (is_label_at insts l ≡ true) × (label_at insts l ≡ block_at insts n))
        → (block_at insts (suc n) ≡ 0) ⊎ ((l : ℕ) × (l < suc n) × (is_label_at insts l ≡ true) × (label_at insts l ≡ block_at insts (suc n)))
    by_label true is same before = inr (n, omega arith, is, sym (same ∙ ap (λ (b : Bool). if b then word_at 0 (inst_at insts n) else block_at insts n) is))
    by_label false isnt same before =
        let on = same ∙ ap (λ (b : Bool). if b then word_at 0 (inst_at insts n) else block_at insts n) isnt in
        elim before [ inl zero_is ↦ inl (on ∙ zero_is) | inr l ↦ (let low = l.1 in inr (l.0, omega (arith, low), l.2, l.3 ∙ sym on)) ]

-- no id that is given is zero
pub given_some : (words : Words) (v : IsValidList words) (place id : ℕ) → place < length words.insts → result (inst_at words.insts place) ≡ Some id → id ≡ 0 → ⊥
unfolding id_out_of_bound
given_some words v place id within gives none =
    let inst = inst_at words.insts place in
    let bounded = true_of_result (λ id. nat_lt 0 id && nat_lt id words.bound) inst id ((valid_sound words v).shaped place within)
    (not_false (list_all (λ id. nat_lt 0 id && nat_lt id words.bound) (ids inst)) (keeps_all words v.sound place within).inside) gives in
    let above = ltb-true 0 id (first_of_both (nat_lt 0 id) (nat_lt id words.bound) bounded) in
    omega (arith, above, none)
  where
    not_false : (b : Bool) → not b ≡ false → b ≡ true
    not_false true is = refl
    not_false false is = cc
