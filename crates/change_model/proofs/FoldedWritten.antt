-- With a scalar operation folded a list can still be written, and its ids are below the bound.
use Rattle.std.proofs.Common.{◌≡◌, ℕ, suc, ◌+◌, ◌<◌, ◌≤◌, ◌&&◌, ◌⊎◌, inl, inr, Bool, true, false, List, [], ◌∷◌, length, slice_index, refl, ap, sym, ◌∙◌, subst, arith, Option, None, Some, is_some}
use Rattle.std.specs.Option.{option_map, unwrap_or}
use Rattle.std.specs.List.{list_all}
use Rattle.spirv_model.specs.declared.module.Inst.{Inst}
use Rattle.spirv_model.specs.declared.module.Words.{Words}
use Rattle.spirv_model.specs.declared.table.Operand.{Operand}
use Rattle.spirv_model.specs.declared.table.Operand.TheVariants.{IdResultType, IdResult}
use Rattle.spirv_model.specs.declared.table.Operands.{Operands}
use Rattle.spirv_model.specs.declared.table.Rest.{Rest}
use Rattle.spirv_model.specs.declared.table.Entry.{Entry}
use Rattle.spirv_model.specs.declared.table.Entry.TheVariants.{Skipped, Float, Listed}
use Rattle.spirv_model.specs.Operands.{word_at, entry_of, class_in, class_of, listed_of, kinds_from, kinds_in, kinds, ids_among, ids_by, ids}
use Rattle.spirv_model.specs.Module.{fits_table, IsWritable}
use Rattle.valid_model.specs.Definitions.{inst_at, id_out_of_bound}
use Rattle.check_model.specs.Validity.{IsValidList}
use Rattle.stage_model.specs.Value.{Value}
use Rattle.typed_model.proofs.ValidModules.{valid_sound}
use Rattle.change_model.specs.Constants.{scalar_constant}
use Rattle.change_model.specs.Folding.{moved_up}
use Rattle.change_model.proofs.ConstantsFit.{FirstTwo, IsSettledWell, scalar_well}
use Rattle.change_model.proofs.ConstantsSound.{keeps_all}
use Rattle.change_model.proofs.FoldedPlaces.{same_or_not, stood_at, constant_there}
use Rattle.change_model.proofs.FoldedRuns.{is_scalar_class, is_scalar}
use Rattle.change_model.proofs.FoldedWords.{is_type_operand, is_result_operand, is_ref_operand, type_operand, result_operand, begins_so, is_long_row, long_row, implied, both, fold_shortens}

-- ---- the first two words of a scalar operation are ids

record TwoIds (found words : List ℕ) : Type 0 where
  rest : List ℕ
  are : found ≡ slice_index words 0 ∷ slice_index words 1 ∷ rest

two_listed : (more : List (Option Operand)) (rest : Rest) (words : List ℕ) → is_some (kinds_from (Some IdResultType ∷ Some IdResult ∷ more) rest words) ≡ true
    → TwoIds (ids_by (kinds_from (Some IdResultType ∷ Some IdResult ∷ more) rest words) words) words
two_listed more rest [] fits = cc
two_listed more rest (a ∷ []) fits = cc
two_listed more rest (a ∷ b ∷ words) fits = by_found (kinds_from more rest words) fits
  where
    by_found : (found : Option (List Operand)) → is_some (option_map (λ (k : List Operand). IdResultType ∷ k) (option_map (λ (k : List Operand). IdResult ∷ k) found)) ≡ true
        → TwoIds (ids_by (option_map (λ (k : List Operand). IdResultType ∷ k) (option_map (λ (k : List Operand). IdResult ∷ k) found)) (a ∷ b ∷ words)) (a ∷ b ∷ words)
    by_found None fits = cc
    by_found (Some k) fits = record { rest = ids_among k words; are = refl }

HasTwo : List (Option Operand) → Rest → List ℕ → Type 0
HasTwo listed rest words = is_some (kinds_from listed rest words) ≡ true → TwoIds (ids_by (kinds_from listed rest words) words) words

two_operands : (operands : Operands) (words : List ℕ) → begins_so operands ≡ true → HasTwo (listed_of operands) operands.rest words
unfolding HasTwo
two_operands operands words begins =
    let one = both (is_type_operand operands.listed.0) (is_result_operand operands.listed.1 && is_ref_operand operands.listed.2) begins in
    let two = both (is_result_operand operands.listed.1) (is_ref_operand operands.listed.2) one.1 in
    let more = operands.listed.2 ∷ operands.listed.3 ∷ operands.listed.4 ∷ [] in
    subst (λ (o : Option Operand). HasTwo (o ∷ operands.listed.1 ∷ more) operands.rest words) (sym (type_operand operands.listed.0 one.0))
    (subst (λ (o : Option Operand). HasTwo (Some IdResultType ∷ o ∷ more) operands.rest words) (sym (result_operand operands.listed.1 two.0)) (two_listed more operands.rest words))

two_entry : (opcode : ℕ) (entry : Option Entry) (words : List ℕ) → is_scalar_class (class_in entry) ≡ true → is_long_row opcode entry ≡ true → is_some (kinds_in entry words) ≡ true → TwoIds (ids_by (kinds_in entry words) words) words
unfolding HasTwo
two_entry opcode (Some (Listed of operands)) words is long fits = two_operands operands words (implied (is_scalar_class (Some of)) (begins_so operands) is long) fits
two_entry opcode (Some Skipped) words is long fits = cc
two_entry opcode (Some Float) words is long fits = cc
two_entry opcode None words is long fits = cc

scalar_two : (inst : Inst) → is_scalar inst.op ≡ true → is_some (kinds inst) ≡ true → FirstTwo inst
unfolding class_of kinds ids
scalar_two inst is fits = let t = two_entry inst.op (entry_of inst.op) inst.words is (long_row inst.op) fits in record { rest = t.rest; are = t.are }

-- ---- each instruction

-- the constant of its value fits the table, with ids below the bound
fold_well : (bound : ℕ) (inst : Inst) (value : Value) (constant : Inst) → is_scalar inst.op ≡ true → is_some (kinds inst) ≡ true → id_out_of_bound bound inst ≡ false
    → scalar_constant (word_at 0 inst) (word_at 1 inst) (Some value) ≡ Some constant → IsSettledWell bound constant
fold_well bound inst value constant scalar fits inside is =
    subst (IsSettledWell bound) (ap (λ (o : Option Inst). unwrap_or o inst) is) (scalar_well bound inst (scalar_two inst scalar fits) fits inside (Some value))

all_well : (words : Words) (v : IsValidList words) (gone : ℕ) (constant : Inst) → v.derivation.before + 1 + gone < length words.insts → IsSettledWell words.bound constant → (place : ℕ)
    → place < length (moved_up (v.derivation.before + 1 + gone) constant words.insts) → IsSettledWell words.bound (inst_at (moved_up (v.derivation.before + 1 + gone) constant words.insts) place)
all_well words v gone constant there well place within = by_order (same_or_not place v.derivation.before)
  where
    by_order : (place ≡ v.derivation.before) ⊎ (place ≡ v.derivation.before → ⊥) → IsSettledWell words.bound (inst_at (moved_up (v.derivation.before + 1 + gone) constant words.insts) place)
    by_order (inl here) = subst (IsSettledWell words.bound) (sym (ap (λ (n : ℕ). inst_at (moved_up (v.derivation.before + 1 + gone) constant words.insts) n) here ∙ constant_there words.insts v.derivation gone constant)) well
    by_order (inr differs) =
        let s = stood_at words.insts v.derivation gone constant place there within differs in
        subst (IsSettledWell words.bound) (sym s.inst) (record { shaped = (valid_sound words v).shaped s.old s.within; bounded = (keeps_all words v.sound s.old s.within).inside })

-- each instruction of the new list fits the table, with ids below the bound
pub fold_well_at : (words : Words) (v : IsValidList words) (gone : ℕ) (constant : Inst) (value : Value) → v.derivation.before + 1 + gone < length words.insts → is_scalar (inst_at words.insts (v.derivation.before + 1 + gone)).op ≡ true
    → scalar_constant (word_at 0 (inst_at words.insts (v.derivation.before + 1 + gone))) (word_at 1 (inst_at words.insts (v.derivation.before + 1 + gone))) (Some value) ≡ Some constant → (place : ℕ)
    → place < length (moved_up (v.derivation.before + 1 + gone) constant words.insts) → IsSettledWell words.bound (inst_at (moved_up (v.derivation.before + 1 + gone) constant words.insts) place)
fold_well_at words v gone constant value within scalar is place there =
    let at = v.derivation.before + 1 + gone in
    all_well words v gone constant within
    (fold_well words.bound (inst_at words.insts at) value constant scalar ((valid_sound words v).shaped at within) (keeps_all words v.sound at within).inside is) place there

-- ---- all of them

every_fits : (insts : List Inst) → ((k : ℕ) → k < length insts → is_some (kinds (inst_at insts k)) ≡ true) → list_all fits_table insts ≡ true
every_fits [] fit = refl
every_fits (inst ∷ insts) fit = ap (λ (b : Bool). b && list_all fits_table insts) (fit 0 (omega arith)) ∙ every_fits insts (λ k within. fit (suc k) (omega (arith, within)))

less_again : (a b c : ℕ) → a ≤ b → b ≤ c → a ≤ c
less_again a b c first second = omega arith

-- the list can be written
pub fold_written : (words : Words) (v : IsValidList words) (gone : ℕ) (constant : Inst) (value : Value) → v.derivation.before + 1 + gone < length words.insts → is_scalar (inst_at words.insts (v.derivation.before + 1 + gone)).op ≡ true
    → scalar_constant (word_at 0 (inst_at words.insts (v.derivation.before + 1 + gone))) (word_at 1 (inst_at words.insts (v.derivation.before + 1 + gone))) (Some value) ≡ Some constant
    → IsWritable (record { bound = words.bound; insts = moved_up (v.derivation.before + 1 + gone) constant words.insts })
fold_written words v gone constant value within scalar is = record {
  fit = every_fits (moved_up (v.derivation.before + 1 + gone) constant words.insts) (λ k there. (fold_well_at words v gone constant value within scalar is k there).shaped);
  bound_least = v.writable.bound_least;
  bound_most = v.writable.bound_most;
  few = less_again _ _ _ (fold_shortens words v gone constant value within scalar is) v.writable.few;
}
