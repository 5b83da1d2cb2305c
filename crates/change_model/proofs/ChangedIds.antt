-- All ids of the list that a plan makes are below the bound.
use Rattle.std.proofs.Common.{◌≡◌, ℕ, ◌<◌, ◌≤◌, ◌%◌, ◌==◌, ◌&&◌, not, inl, inr, Bool, true, false, if◌then◌else◌, List, [], ◌∷◌, length, drop, slice_index, refl, ap, sym, ◌∙◌, subst, arith, Option, None, Some}
use Rattle.std.specs.Prelude.{is_some}
use Rattle.std.specs.Option.{option_map}
use Rattle.std.specs.List.{list_all}
use Rattle.std.proofs.lemmas.Bool.{cases_lt}
use Rattle.spirv_model.specs.declared.module.Inst.{Inst}
use Rattle.spirv_model.specs.declared.class.Class.{Class}
use Rattle.spirv_model.specs.declared.class.Class.TheVariants as class
use Rattle.spirv_model.specs.declared.op.TheConstants as op
use Rattle.spirv_model.specs.declared.table.Operand.{Operand}
use Rattle.spirv_model.specs.declared.table.Operand.TheVariants.{IdResultType, IdResult, IdRef}
use Rattle.spirv_model.specs.declared.table.Rest.{Rest}
use Rattle.spirv_model.specs.declared.table.Entry.{Entry}
use Rattle.spirv_model.specs.declared.table.Entry.TheVariants.{Listed, Skipped, Float}
use Rattle.spirv_model.specs.Operands.{word_at, words_from, entry_of, class_of, literal_and_id, listed_of, kinds_from, kinds_in, kinds, ids_among, ids_by, ids, result_place}
use Rattle.scalar_model.specs.declared.scalar_value.Scalar.{Scalar}
use Rattle.scalar_model.specs.declared.scalar_value.Scalar.TheVariants.{Bool as TruthOf, Word as WordOf}
use Rattle.valid_model.specs.Definitions.{inst_at, id_out_of_bound}
use Rattle.stage_model.specs.Effect.{target_for}
use Rattle.stage_model.specs.Start.{of_scalar}
use Rattle.typed_model.proofs.ValidModules.{valid_sound}
use Rattle.unit_model.specs.ConstantScalars.{chosen_target}
use Rattle.change_model.specs.Constants.{scalar_constant}
use Rattle.change_model.specs.Folding.{function_at}
use Rattle.change_model.specs.Plans.{Plan, branch_to, switch_to, changed}
use Rattle.change_model.specs.PlanRules.{switched_target, scalar_left, only_target}
use Rattle.change_model.proofs.BehindLevel.{BehindLevel, new_one, written_one, behind_level, is_setting_class, setting_fails, fails_function}
use Rattle.change_model.proofs.ChangedBounds.{is_in_bound, ids_bounded, name_bounded, kept_bounded}
use Rattle.change_model.proofs.ChangedMeanings.{level_inst}
use Rattle.change_model.proofs.ChangedPlaces.{function_within}
use Rattle.change_model.proofs.FoldedRuns.{is_scalar_class, differs, others}
use Rattle.change_model.proofs.Planned.{Planned, IsWritten, keeps, goes, picks, IsNewConstant, folds, nulls}
use Rattle.change_model.proofs.RenamedWords.{place_in, is_second, typed_place, is_value_class}
use Rattle.change_model.proofs.Settlings.{op_is}

first_of : (a b : Bool) → (a && b) ≡ true → (a ≡ true) × (b ≡ true)
first_of true b is = (refl, is)
first_of false b is = cc

two_true : (a b : Bool) → a ≡ true → b ≡ true → (a && (b && true)) ≡ true
two_true true true is also = refl
two_true false b is also = cc
two_true true false is also = cc

-- ---- branches

record ThreeOk (ok : ℕ → Bool) (words : List ℕ) : Type 0 where
  zero_ok : ok (slice_index words 0) ≡ true
  one_ok : ok (slice_index words 1) ≡ true
  two_ok : ok (slice_index words 2) ≡ true

conditional_ok : (ok : ℕ → Bool) (words : List ℕ) → is_some (kinds_in (entry_of op.BRANCH_CONDITIONAL) words) ≡ true → list_all ok (ids_by (kinds_in (entry_of op.BRANCH_CONDITIONAL) words) words) ≡ true → ThreeOk ok words
unfolding entry_of
conditional_ok ok [] fits all = cc
conditional_ok ok (a ∷ []) fits all = cc
conditional_ok ok (a ∷ b ∷ []) fits all = cc
conditional_ok ok (a ∷ b ∷ c ∷ []) fits all =
    let f = first_of (ok a) (ok b && (ok c && true)) all in
    let s = first_of (ok b) (ok c && true) f.1 in
    record { zero_ok = f.0; one_ok = s.0; two_ok = (first_of (ok c) true s.1).0 }
conditional_ok ok (a ∷ b ∷ c ∷ d ∷ words) fits all = cc

target_ok : (ok : ℕ → Bool) (selector default : ℕ) (words : List ℕ) → ok default ≡ true → list_all ok (ids_among (literal_and_id words) words) ≡ true → ok (target_for selector default words) ≡ true
target_ok ok selector default [] is all = is
target_ok ok selector default (literal ∷ []) is all = is
target_ok ok selector default (literal ∷ target ∷ words) is all =
    let f = first_of (ok target) (list_all ok (ids_among (literal_and_id words) words)) all in
    by_test (literal == selector) f.0 (target_ok ok selector default words is f.1)
  where
    by_test : (b : Bool) → ok target ≡ true → ok (target_for selector default words) ≡ true → ok (if b then target else target_for selector default words) ≡ true
    by_test true here rest = here
    by_test false here rest = rest

record SwitchOk (ok : ℕ → Bool) (words : List ℕ) : Type 0 where
  selector_ok : ok (slice_index words 0) ≡ true
  targets_ok : (selector : ℕ) → ok (target_for selector (slice_index words 1) (drop 2 words)) ≡ true

switch_ok : (ok : ℕ → Bool) (words : List ℕ) → is_some (kinds_in (entry_of op.SWITCH) words) ≡ true → list_all ok (ids_by (kinds_in (entry_of op.SWITCH) words) words) ≡ true → SwitchOk ok words
unfolding entry_of
switch_ok ok [] fits all = cc
switch_ok ok (a ∷ []) fits all = cc
switch_ok ok (a ∷ b ∷ words) fits all = by_even (length words % 2 == 0) fits all
  where
    by_even : (even : Bool) → is_some (option_map (λ (k : List Operand). IdRef ∷ k) (option_map (λ (k : List Operand). IdRef ∷ k) (if even then Some (literal_and_id words) else None))) ≡ true
        → list_all ok (ids_by (option_map (λ (k : List Operand). IdRef ∷ k) (option_map (λ (k : List Operand). IdRef ∷ k) (if even then Some (literal_and_id words) else None))) (a ∷ b ∷ words)) ≡ true
        → SwitchOk ok (a ∷ b ∷ words)
    by_even false fits all = cc
    by_even true fits all =
        let f = first_of (ok a) (ok b && list_all ok (ids_among (literal_and_id words) words)) all in
        let s = first_of (ok b) (list_all ok (ids_among (literal_and_id words) words)) f.1 in
        record { selector_ok = f.0; targets_ok = λ selector. target_ok ok selector b words s.0 s.1 }

conditional_inst : (ok : ℕ → Bool) (inst : Inst) → inst.op ≡ op.BRANCH_CONDITIONAL → is_some (kinds inst) ≡ true → list_all ok (ids inst) ≡ true → ThreeOk ok inst.words
unfolding kinds ids
conditional_inst ok inst is fits all =
    conditional_ok ok inst.words (ap (λ (o : ℕ). is_some (kinds_in (entry_of o) inst.words)) (sym is) ∙ fits) (ap (λ (o : ℕ). list_all ok (ids_by (kinds_in (entry_of o) inst.words) inst.words)) (sym is) ∙ all)

switch_inst : (ok : ℕ → Bool) (inst : Inst) → inst.op ≡ op.SWITCH → is_some (kinds inst) ≡ true → list_all ok (ids inst) ≡ true → SwitchOk ok inst.words
unfolding kinds ids
switch_inst ok inst is fits all =
    switch_ok ok inst.words (ap (λ (o : ℕ). is_some (kinds_in (entry_of o) inst.words)) (sym is) ∙ fits) (ap (λ (o : ℕ). list_all ok (ids_by (kinds_in (entry_of o) inst.words) inst.words)) (sym is) ∙ all)

some_same : (a b : ℕ) → ◌≡◌ {A = Option ℕ} (Some a) (Some b) → a ≡ b
some_same a b is = cc

-- where a branch always leads is one of its labels
label_ok : (ok : ℕ → Bool) (plan : Plan) (insts : List Inst) (inst : Inst) (label : ℕ) → only_target plan insts inst ≡ Some label → is_some (kinds inst) ≡ true → list_all ok (ids inst) ≡ true → ok label ≡ true
label_ok ok plan insts inst label is fits all = by_tests (inst.op == op.BRANCH_CONDITIONAL) (inst.op == op.SWITCH) refl refl (scalar_left plan insts (word_at 0 inst)) is
  where
    by_tests : (a b : Bool) → inst.op == op.BRANCH_CONDITIONAL ≡ a → inst.op == op.SWITCH ≡ b → (found : Option Scalar)
        → (if a then chosen_target found inst else if b then switched_target found inst else None) ≡ Some label → ok label ≡ true
    by_tests true b one other None is = cc
    by_tests true b one other (Some (WordOf word)) is = cc
    by_tests true b one other (Some (TruthOf true)) is =
        ap ok (sym (some_same (word_at 1 inst) label is)) ∙ (conditional_inst ok inst (op_is inst.op op.BRANCH_CONDITIONAL one) fits all).one_ok
    by_tests true b one other (Some (TruthOf false)) is =
        ap ok (sym (some_same (word_at 2 inst) label is)) ∙ (conditional_inst ok inst (op_is inst.op op.BRANCH_CONDITIONAL one) fits all).two_ok
    by_tests false true one other None is = cc
    by_tests false true one other (Some (TruthOf b)) is = cc
    by_tests false true one other (Some (WordOf word)) is =
        ap ok (sym (some_same (target_for word (word_at 1 inst) (words_from 2 inst)) label is)) ∙ (switch_inst ok inst (op_is inst.op op.SWITCH other) fits all).targets_ok word
    by_tests false false one other found is = cc

branch_ok : (ok : ℕ → Bool) (label : ℕ) → ok label ≡ true → list_all ok (ids (branch_to label)) ≡ true
unfolding ids kinds entry_of
branch_ok ok label is = ap (λ (b : Bool). b && true) is

switch_to_ok : (ok : ℕ → Bool) (selector label : ℕ) → ok selector ≡ true → ok label ≡ true → list_all ok (ids (switch_to selector label)) ≡ true
unfolding ids kinds entry_of
switch_to_ok ok selector label is also = two_true (ok selector) (ok label) is also

pub written_bounded : (g : Planned) (place : ℕ) (inst : Inst) → IsWritten g place inst → function_at g.words.insts ≤ place → place < length g.words.insts → list_all (is_in_bound g.words.bound) (ids inst) ≡ true
written_bounded g place inst w low within = by_kind w
  where
    ok : ℕ → Bool
    ok = is_in_bound g.words.bound

    old : Inst
    old = inst_at g.words.insts place

    fits : is_some (kinds (inst_at g.words.insts place)) ≡ true
    fits = (valid_sound g.words g.valid).shaped place within

    all : list_all (is_in_bound g.words.bound) (ids (inst_at g.words.insts place)) ≡ true
    all = ids_bounded g place within

    by_kind : IsWritten g place inst → list_all (is_in_bound g.words.bound) (ids inst) ≡ true
    by_kind (keeps same is) =
        ap (λ (i : Inst). list_all ok (ids i)) (sym is) ∙ kept_bounded ok g.plan g.words.insts place old (name_bounded g) (fails_function g is_setting_class setting_fails place low within) fits all
    by_kind (goes label same may is) = ap (λ (i : Inst). list_all ok (ids i)) (sym is) ∙ branch_ok ok label (label_ok ok g.plan g.words.insts old label may.only fits all)
    by_kind (picks label same may is) =
        ap (λ (i : Inst). list_all ok (ids i)) (sym is)
        ∙ switch_to_ok ok (g.plan.name (word_at 0 old)) label (name_bounded g (word_at 0 old) (switch_inst ok old may.is_switch fits all).selector_ok) (label_ok ok g.plan g.words.insts old label may.only fits all)

-- ---- constants

record TwoOk (ok : ℕ → Bool) (words : List ℕ) : Type 0 where
  type_ok : ok (slice_index words 0) ≡ true
  own_ok : ok (slice_index words 1) ≡ true

listed_ok : (ok : ℕ → Bool) (listed : List (Option Operand)) (rest : Rest) (words : List ℕ) → is_second (result_place listed) ≡ true → is_some (kinds_from listed rest words) ≡ true
    → list_all ok (ids_by (kinds_from listed rest words) words) ≡ true → TwoOk ok words
listed_ok ok (Some IdResultType ∷ Some IdResult ∷ more) rest [] is fits all = cc
listed_ok ok (Some IdResultType ∷ Some IdResult ∷ more) rest (a ∷ []) is fits all = cc
listed_ok ok (Some IdResultType ∷ Some IdResult ∷ more) rest (a ∷ b ∷ words) is fits all = by_rest (kinds_from more rest words) fits all
  where
    by_rest : (found : Option (List Operand)) → is_some (option_map (λ (k : List Operand). IdResultType ∷ k) (option_map (λ (k : List Operand). IdResult ∷ k) found)) ≡ true
        → list_all ok (ids_by (option_map (λ (k : List Operand). IdResultType ∷ k) (option_map (λ (k : List Operand). IdResult ∷ k) found)) (a ∷ b ∷ words)) ≡ true → TwoOk ok (a ∷ b ∷ words)
    by_rest None fits all = cc
    by_rest (Some k) fits all =
        let f = first_of (ok a) (ok b && list_all ok (ids_among k words)) all in
        record { type_ok = f.0; own_ok = (first_of (ok b) (list_all ok (ids_among k words)) f.1).0 }
listed_ok ok listed rest words is fits all = cc

entry_ok : (ok : ℕ → Bool) (entry : Option Entry) (words : List ℕ) → is_second (place_in entry) ≡ true → is_some (kinds_in entry words) ≡ true → list_all ok (ids_by (kinds_in entry words) words) ≡ true → TwoOk ok words
entry_ok ok (Some (Listed of operands)) words is fits all = listed_ok ok (listed_of operands) operands.rest words is fits all
entry_ok ok (Some Skipped) words is fits all = cc
entry_ok ok (Some Float) words is fits all = cc
entry_ok ok None words is fits all = cc

typed_ok : (ok : ℕ → Bool) (inst : Inst) → is_second (place_in (entry_of inst.op)) ≡ true → is_some (kinds inst) ≡ true → list_all ok (ids inst) ≡ true → TwoOk ok inst.words
unfolding ids kinds
typed_ok ok inst is fits all = entry_ok ok (entry_of inst.op) inst.words is fits all

true_ids : (type own : ℕ) → ids (record { op = op.CONSTANT_TRUE; words = type ∷ own ∷ [] }) ≡ type ∷ own ∷ []
unfolding ids kinds entry_of
true_ids type own = refl

false_ids : (type own : ℕ) → ids (record { op = op.CONSTANT_FALSE; words = type ∷ own ∷ [] }) ≡ type ∷ own ∷ []
unfolding ids kinds entry_of
false_ids type own = refl

number_ids : (type own word : ℕ) → ids (record { op = op.CONSTANT; words = type ∷ own ∷ word ∷ [] }) ≡ type ∷ own ∷ []
unfolding ids kinds entry_of
number_ids type own word = refl

null_ids : (type own : ℕ) → ids (record { op = op.CONSTANT_NULL; words = type ∷ own ∷ [] }) ≡ type ∷ own ∷ []
unfolding ids kinds entry_of
null_ids type own = refl

same_inst : (a b : Inst) → ◌≡◌ {A = Option Inst} (Some a) (Some b) → a ≡ b
same_inst a b is = cc

scalar_ids : (type own : ℕ) (scalar : Scalar) (inst : Inst) → scalar_constant type own (Some (of_scalar scalar)) ≡ Some inst → ids inst ≡ type ∷ own ∷ []
scalar_ids type own (TruthOf true) inst is = subst (λ (i : Inst). ids i ≡ type ∷ own ∷ []) (same_inst _ inst is) (true_ids type own)
scalar_ids type own (TruthOf false) inst is = subst (λ (i : Inst). ids i ≡ type ∷ own ∷ []) (same_inst _ inst is) (false_ids type own)
scalar_ids type own (WordOf word) inst is = subst (λ (i : Inst). ids i ≡ type ∷ own ∷ []) (same_inst _ inst is) (number_ids type own word)

constant_ids : (g : Planned) (place : ℕ) (inst : Inst) → IsNewConstant g place inst → ids inst ≡ word_at 0 (inst_at g.words.insts place) ∷ word_at 1 (inst_at g.words.insts place) ∷ []
constant_ids g place inst (folds scalar same may is) = scalar_ids (word_at 0 (inst_at g.words.insts place)) (word_at 1 (inst_at g.words.insts place)) scalar inst is
constant_ids g place inst (nulls same may is) = ap ids (sym is) ∙ null_ids (word_at 0 (inst_at g.words.insts place)) (word_at 1 (inst_at g.words.insts place))

scalar_value : (of : Option Class) → is_scalar_class of ≡ true → is_value_class of ≡ true
scalar_value None is = cc
scalar_value (Some (class.Scalar operation)) is = refl
scalar_value (Some other) is = cc

load_typed : is_second (place_in (entry_of op.LOAD)) ≡ true
unfolding entry_of
load_typed = refl

folded_typed : (g : Planned) (place : ℕ) (inst : Inst) → IsNewConstant g place inst → is_second (place_in (entry_of (inst_at g.words.insts place).op)) ≡ true
folded_typed g place inst (folds scalar same may is) =
    typed_place (inst_at g.words.insts place).op (scalar_value (class_of (inst_at g.words.insts place).op) may.is_scalar) (differs op.STORE (inst_at g.words.insts place).op others.store may.is_scalar)
folded_typed g place inst (nulls same may is) = ap (λ (o : ℕ). is_second (place_in (entry_of o))) may.is_load ∙ load_typed

constant_bounded : (g : Planned) (place : ℕ) (inst : Inst) → IsNewConstant g place inst → place < length g.words.insts → list_all (is_in_bound g.words.bound) (ids inst) ≡ true
constant_bounded g place inst c within =
    let ok = is_in_bound g.words.bound in
    let old = inst_at g.words.insts place in
    let t = typed_ok ok old (folded_typed g place inst c) ((valid_sound g.words g.valid).shaped place within) (ids_bounded g place within) in
    ap (list_all ok) (constant_ids g place inst c) ∙ two_true (ok (word_at 0 old)) (ok (word_at 1 old)) t.type_ok t.own_ok

-- ---- all of them

pub bounded_changed : (g : Planned) (k : ℕ) → k < length (changed g.plan g.words.insts) → id_out_of_bound g.words.bound (inst_at (changed g.plan g.words.insts) k) ≡ false
unfolding id_out_of_bound
bounded_changed g k within = ap not all
  where
    ok : ℕ → Bool
    ok = is_in_bound g.words.bound

    by_kind : BehindLevel g k → list_all (is_in_bound g.words.bound) (ids (inst_at (changed g.plan g.words.insts) k)) ≡ true
    by_kind (new_one old inst n least most there at) = ap (λ (i : Inst). list_all ok (ids i)) at ∙ constant_bounded g old inst n most
    by_kind (written_one old inst w least most there at) = ap (λ (i : Inst). list_all ok (ids i)) at ∙ written_bounded g old inst w least most

    all : list_all (is_in_bound g.words.bound) (ids (inst_at (changed g.plan g.words.insts) k)) ≡ true
    all = elim (cases_lt k (function_at g.words.insts)) [
      | inl low ↦ let most = function_within g.words.insts in ap (λ (i : Inst). list_all ok (ids i)) (level_inst g k low) ∙ ids_bounded g k (omega (arith, low, most))
      | inr late ↦ by_kind (behind_level g k late within)
    ]
