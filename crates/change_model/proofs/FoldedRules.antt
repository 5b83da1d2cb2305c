-- Constants fit their types where an operation is folded, if the constant of its value does.
use Rattle.std.proofs.Common.{◌≡◌, ℕ, ◌+◌, ◌<◌, ◌&&◌, ◌⊎◌, inl, inr, Bool, false, not, List, length, take, ap, sym, ◌∙◌, subst}
use Rattle.std.proofs.lemmas.Bool.{cases_lt}
use Rattle.spirv_model.specs.declared.module.Inst.{Inst}
use Rattle.spirv_model.specs.declared.module.Words.{Words}
use Rattle.valid_model.specs.Constants.{constant_fits, breaks_constants}
use Rattle.valid_model.specs.Definitions.{inst_at}
use Rattle.valid_model.specs.FirstFault.{bad_constant}
use Rattle.valid_model.specs.Knowledge.{Knowledge}
use Rattle.valid_model.specs.Meanings.{is_constant, known_by, known_before}
use Rattle.check_model.specs.Validity.{IsValidList}
use Rattle.change_model.specs.Folding.{moved_up}
use Rattle.change_model.proofs.ConstantOperands.{alone_behind}
use Rattle.change_model.proofs.ConstantsSound.{keeps_all}
use Rattle.change_model.proofs.FoldedPlaces.{same_or_not, StoodAt, stood_at, level_front, constant_there}

pub no_constant : (known : Knowledge) (inst : Inst) → is_constant inst.op ≡ false → breaks_constants known inst ≡ false
no_constant known inst isnt = ap (λ (b : Bool). b && not (constant_fits known inst)) isnt

unfit_at : (words : Words) (v : IsValidList words) (gone : ℕ) (constant : Inst) (place : ℕ) → StoodAt words.insts v.derivation gone constant place
    → bad_constant (moved_up (v.derivation.before + 1 + gone) constant words.insts) place ≡ false
unfolding bad_constant
unfit_at words v gone constant place s =
    let insts = words.insts in
    let new = moved_up (v.derivation.before + 1 + gone) constant insts in
    elim (cases_lt s.old v.derivation.before) [
      | inl less ↦ ap (λ (l : List Inst). breaks_constants (known_by l) (inst_at new place)) (s.early less) ∙ ap (breaks_constants (known_before insts s.old)) s.inst
          ∙ (keeps_all words v.sound s.old s.within).constants
      | inr late ↦ ap (breaks_constants (known_before new place)) s.inst
          ∙ no_constant (known_before new place) (inst_at insts s.old) (alone_behind insts v.derivation s.old late s.within).1
    ]

unfit_constant : (words : Words) (v : IsValidList words) (gone : ℕ) (constant : Inst) → breaks_constants (known_by (take v.derivation.before words.insts)) constant ≡ false
    → bad_constant (moved_up (v.derivation.before + 1 + gone) constant words.insts) v.derivation.before ≡ false
unfolding bad_constant
unfit_constant words v gone constant fits =
    let insts = words.insts in let before = v.derivation.before in
    let new = moved_up (before + 1 + gone) constant insts in
    ap (λ (l : List Inst). breaks_constants (known_by l) (inst_at new before)) (level_front insts v.derivation gone constant)
    ∙ ap (breaks_constants (known_by (take before insts))) (constant_there insts v.derivation gone constant) ∙ fits

-- where the constant fits its type at the end of the module's level, each constant of the new list does
pub constants_folded : (words : Words) (v : IsValidList words) (gone : ℕ) (constant : Inst) → v.derivation.before + 1 + gone < length words.insts → breaks_constants (known_by (take v.derivation.before words.insts)) constant ≡ false
    → (place : ℕ) → place < length (moved_up (v.derivation.before + 1 + gone) constant words.insts) → bad_constant (moved_up (v.derivation.before + 1 + gone) constant words.insts) place ≡ false
constants_folded words v gone constant there fits place within = by_order (same_or_not place v.derivation.before)
  where
    by_order : (place ≡ v.derivation.before) ⊎ (place ≡ v.derivation.before → ⊥) → bad_constant (moved_up (v.derivation.before + 1 + gone) constant words.insts) place ≡ false
    by_order (inl here) = subst (λ (n : ℕ). bad_constant (moved_up (v.derivation.before + 1 + gone) constant words.insts) n ≡ false) (sym here) (unfit_constant words v gone constant fits)
    by_order (inr differs) = unfit_at words v gone constant place (stood_at words.insts v.derivation gone constant place there within differs)
