-- One more place, as the pass over uses meets it.
use Rattle.std.proofs.Common.{◌≡◌, ℕ, zero, suc, ◌+◌, ◌<◌, Bool, not, ◌||◌, List, length, take, Option, None, Some, ap, sym, ◌∙◌, ⊎_elim, arith}
use Rattle.std.specs.Prelude.{slice_index_or}
use Rattle.std.specs.List.{list_any}
use Rattle.std.specs.Option.{option_or}
use Rattle.std.proofs.lemmas.Bool.{cases_order}
use Rattle.std.proofs.lemmas.List.Folds.{list_any_more}
use Rattle.spirv_model.specs.declared.module.Inst.{Inst}
use Rattle.spirv_model.specs.declared.module.Words.{Words}
use Rattle.valid_model.specs.Definitions.{inst_at, no_instruction}
use Rattle.check_model.specs.declared.fault.CheckFault.{CheckFault}
use Rattle.check_model.specs.Intervals.{Interval}
use Rattle.check_model.specs.EntryPoints.{is_op_function}
use Rattle.check_model.specs.OperandTypes.{operands_fit}
use Rattle.check_model.specs.Storage.{is_in_function, is_wrong_storage}
use Rattle.check_model.specs.Validity.{use_fault_of, use_fault_at, first_use_fault}
use Rattle.spv_check.specs.declared.typing.ModuleIds.{ModuleIds}
use Rattle.spv_check.specs.TypingIn.{AreModuleIds, typing_in}
use Rattle.spv_check.specs.Uses.{AreHidden, first_fault_of}
use Rattle.spv_check.proofs.Typings.{operands_told, storage_told}

-- ---- the first fault of some places

stays : (fault_at : ℕ → Option CheckFault) (place all : ℕ) (fault : CheckFault) → place < all → first_use_fault fault_at place ≡ None → fault_at place ≡ Some fault
    → first_use_fault fault_at all ≡ Some fault
stays fault_at place zero fault within none some = absurd (omega arith)
stays fault_at place (suc n) fault within none some =
    ⊎_elim
    (λ same. ap (λ (o : Option CheckFault). option_or o (fault_at n)) (ap (first_use_fault fault_at) (sym same) ∙ none) ∙ ap fault_at (sym same) ∙ some)
    (⊎_elim (λ less. ap (λ (o : Option CheckFault). option_or o (fault_at n)) (stays fault_at place n fault less none some)) (λ more. absurd (omega arith)))
    (cases_order place n)

pub first_at : (fault_at : ℕ → Option CheckFault) (place all : ℕ) (fault : CheckFault) → place < all → first_use_fault fault_at place ≡ None → fault_at place ≡ Some fault
    → Some fault ≡ first_use_fault fault_at all
first_at fault_at place all fault within none some = sym (stays fault_at place all fault within none some)

pub one_more : (fault_at : ℕ → Option CheckFault) (place : ℕ) → first_use_fault fault_at place ≡ None → fault_at place ≡ None → first_use_fault fault_at (place + 1) ≡ None
one_more fault_at place none here =
    ap (first_use_fault fault_at) {x = place + 1} {y = suc place} (omega arith) ∙ ap (λ (o : Option CheckFault). option_or o (fault_at place)) none ∙ here

-- ---- the fault at a place, as it was found

same_fault : (place : ℕ) (a a' : Option ℕ) (b b' c c' : Bool) → a ≡ a' → b ≡ b' → c ≡ c' → use_fault_of place a b c ≡ use_fault_of place a' b' c'
same_fault place a a' b b' c c' x y z = cc

pub found_at : (words : Words) (known : ModuleIds) (intervals : List Interval) (hidden : List (Option ℕ)) (place : ℕ) (inst : Inst) (inside : Bool) (seen : Option ℕ) (found : Option CheckFault)
    → AreModuleIds words known → AreHidden intervals words.insts hidden → place < length words.insts → inst ≡ inst_at words.insts place → seen ≡ slice_index_or hidden place None
    → inside ≡ is_in_function words.insts place
    → found ≡ use_fault_of place seen (not (operands_fit (typing_in known) inst)) (is_wrong_storage (typing_in known) inside inst)
    → found ≡ use_fault_at intervals words.insts place
unfolding use_fault_at
found_at words known intervals hidden place inst inside seen found told are within here at inside_is is =
    is ∙ same_fault place _ _ _ _ _ _ (at ∙ are place within)
    (ap (λ (i : Inst). not (operands_fit (typing_in known) i)) here ∙ sym (operands_told words known place told))
    (ap (λ (i : Inst). is_wrong_storage (typing_in known) inside i) here ∙ ap (λ (b : Bool). is_wrong_storage (typing_in known) b (inst_at words.insts place)) inside_is
    ∙ sym (storage_told words known place told))

-- ---- behind one more place

pub inside_more : (insts : List Inst) (place : ℕ) (before : Bool) (inst : Inst) → place < length insts → before ≡ is_in_function insts place → inst ≡ inst_at insts place
    → (before || is_op_function inst) ≡ is_in_function insts (place + 1)
unfolding is_in_function
inside_more insts place before inst within same here =
    ap (λ (b : Bool). b || is_op_function inst) same ∙ ap (λ (i : Inst). list_any is_op_function (take place insts) || is_op_function i) here
    ∙ sym (list_any_more is_op_function insts place no_instruction within)

-- ---- all faults of a list

pub same_first : (a a' : Option ℕ) (b b' : Option CheckFault) (c c' d d' : Option ℕ) → a ≡ a' → b ≡ b' → c ≡ c' → d ≡ d' → first_fault_of a b c d ≡ first_fault_of a' b' c' d'
same_first a a' b b' c c' d d' x y z w = cc
