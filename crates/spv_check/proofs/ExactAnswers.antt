-- An answer that is right where memory lasts is the only one.
use Rattle.std.proofs.Common.{◌≡◌, ℕ, List, Bool, true, false, Result, Ok, Err, refl, ap, subst, sym, ◌∙◌}
use Rattle.std.specs.Prelude.{IfErr, MatchBool}
use Rattle.basics.specs.Answer.{UnlessMemory}
use Rattle.spirv_model.specs.declared.module.Inst.{Inst}
use Rattle.spirv_model.specs.declared.module.Words.{Words}
use Rattle.spirv_model.specs.Module.{module_of}
use Rattle.check_model.specs.declared.fault.CheckFault.{CheckFault}
use Rattle.check_model.specs.declared.fault.CheckFault.TheVariants as fault
use Rattle.check_model.specs.Validity.{IsValidList, HasListFault, IsValid, HasModuleFault, of_module, is_memory}
use Rattle.check_model.proofs.FaultLaws.{not_both_of_list, one_fault_of_list, not_both_of_words, one_fault_of_words}
use Rattle.spv_check.specs.Modules.{IsMadeOf}

memory_is : (reason : CheckFault) → is_memory reason ≡ true → reason ≡ fault.Memory
memory_is fault.Memory is = refl
memory_is (fault.Words inner) is = cc
memory_is (fault.Tree inner) is = cc
memory_is (fault.Ids inner) is = cc
memory_is (fault.NotVisible id) is = cc
memory_is (fault.OperandType place) is = cc
memory_is (fault.WrongStorage place) is = cc
memory_is (fault.EntryCount count) is = cc
memory_is (fault.NotFlat location) is = cc
memory_is (fault.LocationTwice location) is = cc

refuted : (b : Bool) (P : Type 0) → (P → ⊥) → MatchBool b (Unit {0}) P → b ≡ true
refuted true P never tells = refl
refuted false P never tells = absurd (never tells)

weaker : (b : Bool) (P Q : Type 0) → (P → Q) → MatchBool b (Unit {0}) P → MatchBool b (Unit {0}) Q
weaker true P Q f tells = tt
weaker false P Q f tells = f tells

only_memory : {T : Type 0} (HasValue : T → Type 0) (HasFault : CheckFault → Type 0) (answer : Result T CheckFault) → ((reason : CheckFault) → HasFault reason → ⊥)
    → UnlessMemory is_memory HasValue HasFault answer → IfErr answer (λ reason. reason ≡ fault.Memory)
only_memory HasValue HasFault (Ok value) never tells = tt
only_memory HasValue HasFault (Err reason) never tells = memory_is reason (refuted (is_memory reason) (HasFault reason) (never reason) tells)

only_this : {T : Type 0} (HasValue : T → Type 0) (HasFault : CheckFault → Type 0) (answer : Result T CheckFault) (this : CheckFault) → ((value : T) → HasValue value → ⊥)
    → ((reason : CheckFault) → HasFault reason → reason ≡ this) → UnlessMemory is_memory HasValue HasFault answer → UnlessMemory is_memory (λ value. ⊥) (λ reason. reason ≡ this) answer
only_this HasValue HasFault (Ok value) this never one tells = never value tells
only_this HasValue HasFault (Err reason) this never one tells = weaker (is_memory reason) (HasFault reason) (reason ≡ this) (one reason) tells

-- ---- of a list and a bound

pub list_exact : (words : Words) (answer : Result Words CheckFault) → UnlessMemory is_memory (IsMadeOf words) (HasListFault words) answer → IsValidList words
    → IfErr answer (λ reason. reason ≡ fault.Memory)
list_exact words answer tells valid = only_memory (IsMadeOf words) (HasListFault words) answer (λ reason has. not_both_of_list words reason valid has) tells

pub list_only : (words : Words) (answer : Result Words CheckFault) → UnlessMemory is_memory (IsMadeOf words) (HasListFault words) answer → (this : CheckFault) → HasListFault words this
    → UnlessMemory is_memory (λ value. ⊥) (λ reason. reason ≡ this) answer
list_only words answer tells this has =
    only_this (IsMadeOf words) (HasListFault words) answer this (λ value made. not_both_of_list words this made.valid has) (λ reason other. one_fault_of_list words reason this other has) tells

-- a copy of a valid module is valid
pub valid_copy : (words : Words) (bound : ℕ) (insts : List Inst) → bound ≡ words.bound → insts ≡ words.insts → IsValidList words → IsValidList (record { bound = bound; insts = insts })
valid_copy words bound insts same_bound same valid =
    subst (λ (n : ℕ). IsValidList (record { bound = n; insts = insts })) (sym same_bound)
    (subst (λ (l : List Inst). IsValidList (record { bound = words.bound; insts = l })) (sym same) valid)

-- ---- of words

pub module_exact : (words : List ℕ) (answer : Result Words CheckFault) → UnlessMemory is_memory (IsValid words) (HasModuleFault words) answer → (read : Words) → IsValid words read
    → IfErr answer (λ reason. reason ≡ fault.Memory)
module_exact words answer tells read valid = only_memory (IsValid words) (HasModuleFault words) answer (λ reason has. not_both_of_words words read reason valid has) tells

pub module_only : (words : List ℕ) (answer : Result Words CheckFault) → UnlessMemory is_memory (IsValid words) (HasModuleFault words) answer → (this : CheckFault) → HasModuleFault words this
    → UnlessMemory is_memory (λ value. ⊥) (λ reason. reason ≡ this) answer
module_only words answer tells this has =
    only_this (IsValid words) (HasModuleFault words) answer this (λ value valid. not_both_of_words words value this valid has) (λ reason other. one_fault_of_words words reason this other has) tells

-- the answer on the list that was read is that on the words
pub of_list_read : (words : List ℕ) (read : Words) (answer : Result Words CheckFault) → module_of words ≡ Ok read → UnlessMemory is_memory (IsMadeOf read) (HasListFault read) answer
    → UnlessMemory is_memory (IsValid words) (HasModuleFault words) answer
of_list_read words read (Ok value) is made =
    record { reads = is ∙ ap (λ (m : Words). Ok m) (sym made.same); valid = subst IsValidList (sym made.same) made.valid }
of_list_read words read (Err reason) is tells = weaker (is_memory reason) (HasListFault read reason) (HasModuleFault words reason) (λ has. of_module read is has) tells
