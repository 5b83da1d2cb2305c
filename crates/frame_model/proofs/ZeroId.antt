-- The id 0 is no type of a valid module.
use Rattle.std.proofs.Common.{◌≡◌, ℕ, suc, if◌then◌else◌, ◌<◌, ◌==◌, ◌&&◌, not, nat_lt, Bool, true, false, List, [], ◌∷◌, length, slice_index, refl, ap, sym, ◌∙◌, subst, arith, Option, None, Some, is_some}
use Rattle.std.specs.List.{list_all}
use Rattle.std.specs.Option.{option_map}
use Rattle.std.proofs.lemmas.Bool.Decides.{nat_tests}
use Rattle.std.proofs.lemmas.List.{take_all}
use Rattle.basics.proofs.Bools.{first_of_both, second_of_both}
use Rattle.spirv_model.specs.declared.module.Inst.{Inst}
use Rattle.spirv_model.specs.declared.module.Words.{Words}
use Rattle.spirv_model.specs.declared.table.Operand.{Operand}
use Rattle.spirv_model.specs.declared.table.Operand.TheVariants.{IdResultType, IdResult}
use Rattle.spirv_model.specs.declared.table.Rest.{Rest}
use Rattle.spirv_model.specs.declared.table.Entry.{Entry}
use Rattle.spirv_model.specs.declared.table.Entry.TheVariants.{Listed, Skipped, Float}
use Rattle.spirv_model.specs.Operands.{entry_of, kinds_from, kinds_in, kinds, listed_of, ids_among, ids_by, ids, result_place, result_in, result}
use Rattle.valid_model.specs.Definitions.{has_result, gives, definition, id_twice, id_out_of_bound, inst_at}
use Rattle.valid_model.specs.Meanings.{known_by, meaning}
use Rattle.valid_model.specs.FirstFault.{fault_of, bad_type, bad_constant, rule_fault, type_fault, type_fault_at}
use Rattle.valid_model.proofs.KnownIds.{unknown_without_definition}
use Rattle.check_model.specs.Validity.{IsValidList}
use Rattle.stage_model.specs.Program.{layouts_by, program_of}
use Rattle.typed_model.proofs.ModuleTypes.{all_fit}
use Rattle.typed_model.proofs.ValidTypes.{none_of_both, no_first, defined_within}
use Rattle.typed_model.proofs.ValidModules.{valid_sound}

-- ---- a result is one of an instruction's ids

all_of : (test : ℕ → Bool) (found : Option (List Operand)) (words : List ℕ) → Bool
all_of test found words = list_all test (ids_by found words)

first_is : (test : ℕ → Bool) (more : List (Option Operand)) (rest : Rest) (words : List ℕ) → is_some (kinds_from (Some IdResult ∷ more) rest words) ≡ true → all_of test (kinds_from (Some IdResult ∷ more) rest words) words ≡ true → test (slice_index words 0) ≡ true
unfolding all_of
first_is test more rest [] has all = cc
first_is test more rest (word ∷ words) has all = by_rest test word words (kinds_from more rest words) has all
  where
    by_rest : (test : ℕ → Bool) (word : ℕ) (words : List ℕ) (found : Option (List Operand)) → is_some (option_map (λ kinds. IdResult ∷ kinds) found) ≡ true → list_all test (ids_by (option_map (λ kinds. IdResult ∷ kinds) found) (word ∷ words)) ≡ true → test word ≡ true
    by_rest test word words None has all = cc
    by_rest test word words (Some kinds) has all = first_of_both (test word) (list_all test (ids_among kinds words)) all

second_is : (test : ℕ → Bool) (more : List (Option Operand)) (rest : Rest) (words : List ℕ) → is_some (kinds_from (Some IdResultType ∷ Some IdResult ∷ more) rest words) ≡ true
    → all_of test (kinds_from (Some IdResultType ∷ Some IdResult ∷ more) rest words) words ≡ true → test (slice_index words 1) ≡ true
unfolding all_of
second_is test more rest [] has all = cc
second_is test more rest (type ∷ []) has all = cc
second_is test more rest (type ∷ word ∷ words) has all = by_rest test type word words (kinds_from more rest words) has all
  where
    by_rest : (test : ℕ → Bool) (type word : ℕ) (words : List ℕ) (found : Option (List Operand)) → is_some (option_map (λ kinds. IdResultType ∷ kinds) (option_map (λ kinds. IdResult ∷ kinds) found)) ≡ true
        → list_all test (ids_by (option_map (λ kinds. IdResultType ∷ kinds) (option_map (λ kinds. IdResult ∷ kinds) found)) (type ∷ word ∷ words)) ≡ true → test word ≡ true
    by_rest test type word words None has all = cc
    by_rest test type word words (Some kinds) has all = first_of_both (test word) (list_all test (ids_among kinds words)) (second_of_both (test type) (test word && list_all test (ids_among kinds words)) all)

same_id : (a b : ℕ) → ◌≡◌ {A = Option ℕ} (Some a) (Some b) → a ≡ b
same_id a b is = cc

by_listed : (test : ℕ → Bool) (listed : List (Option Operand)) (rest : Rest) (words : List ℕ) (id : ℕ) → is_some (kinds_from listed rest words) ≡ true → all_of test (kinds_from listed rest words) words ≡ true
    → option_map (λ place. slice_index words place) (result_place listed) ≡ Some id → test id ≡ true
by_listed test (Some IdResult ∷ more) rest words id has all is = ap test (sym (same_id _ id is)) ∙ first_is test more rest words has all
by_listed test (Some IdResultType ∷ Some IdResult ∷ more) rest words id has all is = ap test (sym (same_id _ id is)) ∙ second_is test more rest words has all
by_listed test listed rest words id has all is = cc

by_entry : (test : ℕ → Bool) (entry : Option Entry) (inst : Inst) (id : ℕ) → is_some (kinds_in entry inst.words) ≡ true → all_of test (kinds_in entry inst.words) inst.words ≡ true → result_in entry inst ≡ Some id → test id ≡ true
by_entry test (Some (Listed class operands)) inst id has all is = by_listed test (listed_of operands) operands.rest inst.words id has all is
by_entry test (Some Skipped) inst id has all is = cc
by_entry test (Some Float) inst id has all is = cc
by_entry test None inst id has all is = cc

-- what is true of all ids of an instruction is true of its result
pub true_of_result : (test : ℕ → Bool) (inst : Inst) (id : ℕ) → is_some (kinds inst) ≡ true → list_all test (ids inst) ≡ true → result inst ≡ Some id → test id ≡ true
unfolding all_of kinds ids result
true_of_result test inst id has all is = by_entry test (entry_of inst.op) inst id has all is

-- ---- ids are above 0

no_outside : (place : ℕ) (twice : Option ℕ) (outside misdeclared unfit : Bool) → fault_of place twice outside misdeclared unfit ≡ None → outside ≡ false
no_outside place (Some id) outside misdeclared unfit is = cc
no_outside place None true misdeclared unfit is = cc
no_outside place None false misdeclared unfit is = refl

not_false : (b : Bool) → not b ≡ false → b ≡ true
not_false true is = refl
not_false false is = cc

in_bound : (words : Words) → type_fault words ≡ None → (place : ℕ) → place < length words.insts → list_all (λ id. nat_lt 0 id && nat_lt id words.bound) (ids (inst_at words.insts place)) ≡ true
unfolding type_fault rule_fault id_out_of_bound
in_bound words sound place within =
    let none = none_of_both (rule_fault words place) _ (no_first (type_fault_at words) (length words.insts) place sound within) in
    not_false _ (no_outside place (id_twice words.insts place) (id_out_of_bound words.bound (inst_at words.insts place)) (bad_type words.insts place) (bad_constant words.insts place) none.0)

gave : (id : ℕ) (found : Option ℕ) → has_result id found ≡ true → found ≡ Some id
gave id None is = cc
gave id (Some own) is = ap Some (same own id is)
  where
    same : (a b : ℕ) → a == b ≡ true → a ≡ b
    same a b is = grind (arith, nat_tests)

gives_there : (insts : List Inst) (id place : ℕ) → definition insts id ≡ Some place → gives id (inst_at insts place) ≡ true
unfolding definition
gives_there [] id place is = cc
gives_there (inst ∷ insts) id place is = by_first inst insts id place (gives id inst) (definition insts id) refl refl is (λ later e. gives_there insts id later e)
  where
    by_first : (inst : Inst) (insts : List Inst) (id place : ℕ) (b : Bool) (later : Option ℕ) → gives id inst ≡ b → definition insts id ≡ later → (if b then Some 0 else option_map (λ (place : ℕ). suc place) later) ≡ Some place
        → ((place : ℕ) → definition insts id ≡ Some place → gives id (inst_at insts place) ≡ true) → gives id (inst_at (inst ∷ insts) place) ≡ true
    by_first inst insts id place true later here known is go = subst (λ (n : ℕ). gives id (inst_at (inst ∷ insts) n) ≡ true) (same_id 0 place is) here
    by_first inst insts id place false None here known is go = cc
    by_first inst insts id place false (Some before) here known is go = subst (λ (n : ℕ). gives id (inst_at (inst ∷ insts) n) ≡ true) (same_id (suc before) place is) (go before known)

-- an id is the result of the instruction that defines it
pub definition_result : (insts : List Inst) (id place : ℕ) → definition insts id ≡ Some place → result (inst_at insts place) ≡ Some id
definition_result insts id place is = gave id (result (inst_at insts place)) (gives_there insts id place is)

never : (id : ℕ) (b : Bool) → id ≡ 0 → (nat_lt 0 id && b) ≡ true → ⊥
never id b is above = let e : nat_lt 0 id ≡ true = first_of_both (nat_lt 0 id) b above in let f : nat_lt 0 id ≡ false = ap (nat_lt 0) is in cc

undefined : (words : Words) → IsValidList words → (at : Option ℕ) → definition words.insts 0 ≡ at → at ≡ None
undefined words v None is = refl
undefined words v (Some place) is =
    let within = defined_within words.insts 0 place is in
    absurd (never 0 (nat_lt 0 words.bound) refl
    (true_of_result (λ id. nat_lt 0 id && nat_lt id words.bound) (inst_at words.insts place) 0 ((valid_sound words v).shaped place within) (in_bound words v.sound place within)
    (gave 0 (result (inst_at words.insts place)) (gives_there words.insts 0 place is))))

pub zero_undefined : (words : Words) → IsValidList words → definition words.insts 0 ≡ None
zero_undefined words v = undefined words v (definition words.insts 0) refl

-- the id 0 has no layout
pub zero_without_layout : (words : Words) → IsValidList words → (program_of words.insts).layout 0 ≡ None
unfolding program_of
zero_without_layout words v =
    let e = take_all (length words.insts) words.insts (omega arith) in
    let fits = (all_fit words.insts (length words.insts) (omega arith)).0 in
    ap (λ (l : List Inst). layouts_by (meaning words.insts) l 0) (sym e) ∙ fits.fresh 0 (ap (λ (l : List Inst). known_by l 0) e ∙ unknown_without_definition words.insts 0 (zero_undefined words v))
