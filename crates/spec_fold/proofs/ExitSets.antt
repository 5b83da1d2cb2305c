-- The sets of merge blocks to which an instruction leads from a nested sequence.
use Rattle.std.proofs.Common.{◌≡◌, ℕ, ◌==◌, ◌&&◌, ◌||◌, Bool, true, false, List, [], ◌∷◌, map, drop, refl, ap, sym, ◌∙◌, subst}
use Rattle.std.specs.Prelude.{Result, OnOk}
use Rattle.std.proofs.lemmas.Result.{on_ok_weaker}
use Rattle.spirv_model.specs.declared.module.Inst.{Inst}
use Rattle.spirv_model.specs.declared.op.TheConstants as op
use Rattle.spirv_model.specs.Operands.{word_at, words_from}
use Rattle.body_model.specs.Switches.{Case, cases_in, cases_of, is_among}
use Rattle.body_model.specs.Targets.{targets, targets_by}
use Rattle.id_table.specs.declared.table.IdTable.{IdTable}
use Rattle.id_table.specs.Tables.{at}
use Rattle.spec_fold.specs.Facts.{is_nested_in, leaves_to}
use Rattle.spec_fold.specs.Sets.{has, AddsThose}
use Rattle.spec_fold.specs.declared.marks.Marks.{Marks}
use Rattle.spec_fold.specs.declared.within.Arm.{Arm}

-- ---- the targets of an instruction

abbrev targets_in : List ℕ → List ℕ
targets_in cases = map (λ (case : Case). case.target) (cases_in cases)

branch_targets : (inst : Inst) → inst.op ≡ op.BRANCH → targets inst ≡ word_at 0 inst ∷ []
unfolding targets_by
branch_targets inst is = ap (λ (o : ℕ). targets_by o inst.words) is

choice_targets : (inst : Inst) → inst.op ≡ op.BRANCH_CONDITIONAL → targets inst ≡ word_at 1 inst ∷ word_at 2 inst ∷ []
unfolding targets_by
choice_targets inst is = ap (λ (o : ℕ). targets_by o inst.words) is

behind_two : (words : List ℕ) → cases_of words ≡ cases_in (drop 2 words)
behind_two [] = refl
behind_two (a ∷ []) = refl
behind_two (a ∷ b ∷ words) = refl

switch_targets : (inst : Inst) → inst.op ≡ op.SWITCH → targets inst ≡ word_at 1 inst ∷ targets_in (words_from 2 inst)
unfolding targets_by
switch_targets inst is =
    ap (λ (o : ℕ). targets_by o inst.words) is ∙ ap (λ (cases : List Case). word_at 1 inst ∷ map (λ (case : Case). case.target) cases) (behind_two inst.words)

module _ (arms : IdTable Arm) (place limit : ℕ) where
  abbrev Adds : List ℕ → Marks → Marks → Type 0
  Adds labels old new = AddsThose (leaves_to arms place limit labels) old new

  first_rest : (h a r n : Bool) → ((h || ((a || false) && n)) || (r && n)) ≡ (h || ((a || r) && n))
  first_rest true a r n = refl
  first_rest false true true true = refl
  first_rest false true false true = refl
  first_rest false true true false = refl
  first_rest false true false false = refl
  first_rest false false r n = refl

  -- one label, and then others
  adds_both : (first : ℕ) (rest : List ℕ) (old middle new : Marks) → Adds (first ∷ []) old middle → Adds rest middle new → Adds (first ∷ rest) old new
  adds_both first rest old middle new one more id =
      more id ∙ ap (λ (b : Bool). b || leaves_to arms place limit rest id) (one id)
      ∙ first_rest (has old id) (first == id) (is_among id rest) (is_nested_in (at arms id) place limit)

  module _ {E : Type 0} (result : Result Unit E) (inst : Inst) (old middle new : Marks) where
    pub adds_branch : (word : ℕ) → inst.op ≡ op.BRANCH → word ≡ word_at 0 inst → OnOk result (Adds (word ∷ []) old new) → OnOk result (Adds (targets inst) old new)
    adds_branch word is same adds = subst (λ (l : List ℕ). OnOk result (Adds l old new)) (ap (λ (w : ℕ). w ∷ []) same ∙ sym (branch_targets inst is)) adds

    pub adds_choice : (first second : ℕ) → inst.op ≡ op.BRANCH_CONDITIONAL → first ≡ word_at 1 inst → second ≡ word_at 2 inst → Adds (first ∷ []) old middle → OnOk result (Adds (second ∷ []) middle new)
        → OnOk result (Adds (targets inst) old new)
    adds_choice first second is one two adds more =
        subst (λ (l : List ℕ). OnOk result (Adds l old new)) (ap (λ (w : ℕ). w ∷ second ∷ []) one ∙ ap (λ (w : ℕ). word_at 1 inst ∷ w ∷ []) two ∙ sym (choice_targets inst is))
        (on_ok_weaker result (λ also. adds_both first (second ∷ []) old middle new adds also) more)

    pub adds_switch : (first : ℕ) (cases : List ℕ) → inst.op ≡ op.SWITCH → first ≡ word_at 1 inst → cases ≡ words_from 2 inst → Adds (first ∷ []) old middle → OnOk result (Adds (targets_in cases) middle new)
        → OnOk result (Adds (targets inst) old new)
    adds_switch first cases is one rest adds more =
        subst (λ (l : List ℕ). OnOk result (Adds l old new)) (ap (λ (w : ℕ). w ∷ targets_in cases) one ∙ ap (λ (l : List ℕ). word_at 1 inst ∷ targets_in l) rest ∙ sym (switch_targets inst is))
        (on_ok_weaker result (λ also. adds_both first (targets_in cases) old middle new adds also) more)
