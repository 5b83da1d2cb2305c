-- A result is one of an instruction's ids.
use Rattle.std.proofs.Common.{◌≡◌, ℕ, ◌&&◌, Bool, true, List, [], ◌∷◌, slice_index, ap, sym, ◌∙◌, Option, None, Some}
use Rattle.std.specs.Prelude.{is_some}
use Rattle.std.specs.List.{list_all}
use Rattle.std.specs.Option.{option_map}
use Rattle.basics.proofs.Bools.{first_of_both, second_of_both}
use Rattle.spirv_model.specs.declared.module.Inst.{Inst}
use Rattle.spirv_model.specs.declared.table.Operand.{Operand}
use Rattle.spirv_model.specs.declared.table.Operand.TheVariants.{IdResultType, IdResult}
use Rattle.spirv_model.specs.declared.table.Rest.{Rest}
use Rattle.spirv_model.specs.declared.table.Entry.{Entry}
use Rattle.spirv_model.specs.declared.table.Entry.TheVariants.{Listed, Skipped, Float}
use Rattle.spirv_model.specs.Operands.{entry_of, kinds_from, kinds_in, kinds, listed_of, ids_among, ids_by, ids, result_place, result_in, result}

same_id : (a b : ℕ) → ◌≡◌ {A = Option ℕ} (Some a) (Some b) → a ≡ b
same_id a b is = cc

by_listed : (test : ℕ → Bool) (listed : List (Option Operand)) (rest : Rest) (words : List ℕ) (id : ℕ) → is_some (kinds_from listed rest words) ≡ true → list_all test (ids_by (kinds_from listed rest words) words) ≡ true
    → option_map (slice_index words) (result_place listed) ≡ Some id → test id ≡ true
by_listed test (Some IdResult ∷ more) rest [] id has all is = cc
by_listed test (Some IdResult ∷ more) rest (word ∷ words) id has all is = ap test (sym (same_id word id is)) ∙ by_rest (kinds_from more rest words) has all
  where
    by_rest : (found : Option (List Operand)) → is_some (option_map (λ (k : List Operand). IdResult ∷ k) found) ≡ true → list_all test (ids_by (option_map (λ (k : List Operand). IdResult ∷ k) found) (word ∷ words)) ≡ true → test word ≡ true
    by_rest None has all = cc
    by_rest (Some k) has all = first_of_both (test word) (list_all test (ids_among k words)) all
by_listed test (Some IdResultType ∷ Some IdResult ∷ more) rest [] id has all is = cc
by_listed test (Some IdResultType ∷ Some IdResult ∷ more) rest (type ∷ []) id has all is = cc
by_listed test (Some IdResultType ∷ Some IdResult ∷ more) rest (type ∷ word ∷ words) id has all is = ap test (sym (same_id word id is)) ∙ by_rest (kinds_from more rest words) has all
  where
    by_rest : (found : Option (List Operand)) → is_some (option_map (λ (k : List Operand). IdResultType ∷ k) (option_map (λ (k : List Operand). IdResult ∷ k) found)) ≡ true
        → list_all test (ids_by (option_map (λ (k : List Operand). IdResultType ∷ k) (option_map (λ (k : List Operand). IdResult ∷ k) found)) (type ∷ word ∷ words)) ≡ true → test word ≡ true
    by_rest None has all = cc
    by_rest (Some k) has all = first_of_both (test word) (list_all test (ids_among k words)) (second_of_both (test type) (test word && list_all test (ids_among k words)) all)
by_listed test listed rest words id has all is = cc

by_entry : (test : ℕ → Bool) (entry : Option Entry) (inst : Inst) (id : ℕ) → is_some (kinds_in entry inst.words) ≡ true → list_all test (ids_by (kinds_in entry inst.words) inst.words) ≡ true → result_in entry inst ≡ Some id → test id ≡ true
by_entry test (Some (Listed of operands)) inst id has all is = by_listed test (listed_of operands) operands.rest inst.words id has all is
by_entry test (Some Skipped) inst id has all is = cc
by_entry test (Some Float) inst id has all is = cc
by_entry test None inst id has all is = cc

-- what is true of all ids of an instruction is true of its result
pub true_of_result : (test : ℕ → Bool) (inst : Inst) (id : ℕ) → is_some (kinds inst) ≡ true → list_all test (ids inst) ≡ true → result inst ≡ Some id → test id ≡ true
unfolding kinds ids result
true_of_result test inst id has all is = by_entry test (entry_of inst.op) inst id has all is
