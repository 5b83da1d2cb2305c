-- Each list and bound that can be written is a valid module or has a fault, never both, and the fault is one; so it is with words.
use Rattle.std.proofs.Common.{◌≡◌, ℕ, List, Option, None, Some, Result, Ok, Err, ◌⊎◌, inl, inr, refl, ap, subst, ◌∙◌}
use Rattle.spirv_model.specs.declared.module.Inst.{Inst}
use Rattle.spirv_model.specs.declared.module.Words.{Words}
use Rattle.spirv_model.specs.declared.module.WordsFault.{WordsFault}
use Rattle.spirv_model.specs.Module.{module_of, IsWritable}
use Rattle.spirv_model.proofs.ReadModules.{read_writable}
use Rattle.body_model.specs.declared.fault.TreeFault.{TreeFault}
use Rattle.body_model.specs.Grammar.{Derives}
use Rattle.body_model.specs.Faults.{HasFault}
use Rattle.body_model.proofs.FaultLaws.{derives_or_faulty, not_both, one_fault}
use Rattle.valid_model.specs.declared.type_fault.TypeFault.{TypeFault}
use Rattle.valid_model.specs.FirstFault.{type_fault}
use Rattle.check_model.specs.declared.fault.CheckFault.{CheckFault}
use Rattle.check_model.specs.declared.fault.CheckFault.TheVariants as fault
use Rattle.check_model.specs.Intervals.{Interval, intervals_of}
use Rattle.check_model.specs.Validity.{list_fault, IsValidList, HasListFault, of_function, of_ids, of_list, IsValid, HasModuleFault, of_words, of_module}
use Rattle.check_model.proofs.CodeIntervals.{one_intervals}

-- ---- of a list and a bound

none_or_some : {X : Type 0} (m : Option X) (x : X) → m ≡ None → m ≡ Some x → ⊥
none_or_some m x none some = cc

same_some : {X : Type 0} (m : Option X) (x y : X) → m ≡ Some x → m ≡ Some y → x ≡ y
same_some m x y a b = cc

-- the fault of a list doesn't depend on its derivation
same_fault : (insts : List Inst) (d d' : Derives insts) → list_fault (intervals_of d) insts ≡ list_fault (intervals_of d') insts
same_fault insts d d' = ap (λ (intervals : List Interval). list_fault intervals insts) (one_intervals insts d d')

pub valid_or_faulty_list : (words : Words) → IsWritable words → IsValidList words ⊎ ((reason : CheckFault) × HasListFault words reason)
valid_or_faulty_list words writable = by_function (derives_or_faulty words.insts)
  where
    by_list : (d : Derives words.insts) → type_fault words ≡ None → (m : Option CheckFault) → list_fault (intervals_of d) words.insts ≡ m → IsValidList words ⊎ ((reason : CheckFault) × HasListFault words reason)
    by_list d sound None is = inl (record { writable = writable; derivation = d; sound = sound; faultless = is })
    by_list d sound (Some reason) is = inr (reason, of_list d sound is)

    by_ids : (d : Derives words.insts) (m : Option TypeFault) → type_fault words ≡ m → IsValidList words ⊎ ((reason : CheckFault) × HasListFault words reason)
    by_ids d None is = by_list d is (list_fault (intervals_of d) words.insts) refl
    by_ids d (Some reason) is = inr (fault.Ids reason, of_ids d is)

    by_function : Derives words.insts ⊎ ((reason : TreeFault) × HasFault words.insts reason) → IsValidList words ⊎ ((reason : CheckFault) × HasListFault words reason)
    by_function (inl d) = by_ids d (type_fault words) refl
    by_function (inr has) = inr (fault.Tree has.0, of_function has.1)

pub not_both_of_list : (words : Words) (reason : CheckFault) → IsValidList words → HasListFault words reason → ⊥
not_both_of_list words reason valid (of_function {reason = inner} has) = not_both words.insts inner valid.derivation has
not_both_of_list words reason valid (of_ids {reason = inner} d is) = none_or_some (type_fault words) inner valid.sound is
not_both_of_list words reason valid (of_list d sound is) =
    none_or_some (list_fault (intervals_of d) words.insts) reason (same_fault words.insts d valid.derivation ∙ valid.faultless) is

pub one_fault_of_list : (words : Words) (reason other : CheckFault) → HasListFault words reason → HasListFault words other → reason ≡ other
one_fault_of_list words reason other (of_function {reason = a} has) (of_function {reason = b} has') = ap fault.Tree (one_fault words.insts a b has has')
one_fault_of_list words reason other (of_function {reason = a} has) (of_ids d is) = absurd (not_both words.insts a d has)
one_fault_of_list words reason other (of_function {reason = a} has) (of_list d sound is) = absurd (not_both words.insts a d has)
one_fault_of_list words reason other (of_ids d is) (of_function {reason = a} has) = absurd (not_both words.insts a d has)
one_fault_of_list words reason other (of_ids {reason = a} d is) (of_ids {reason = b} d' is') = ap fault.Ids (same_some (type_fault words) a b is is')
one_fault_of_list words reason other (of_ids {reason = a} d is) (of_list d' sound is') = absurd (none_or_some (type_fault words) a sound is)
one_fault_of_list words reason other (of_list d sound is) (of_function {reason = a} has) = absurd (not_both words.insts a d has)
one_fault_of_list words reason other (of_list d sound is) (of_ids {reason = a} d' is') = absurd (none_or_some (type_fault words) a sound is')
one_fault_of_list words reason other (of_list d sound is) (of_list d' sound' is') =
    same_some (list_fault (intervals_of d) words.insts) reason other is (same_fault words.insts d d' ∙ is')

-- ---- of words

ok_or_err : {X Y : Type 0} (r : Result X Y) (x : X) (y : Y) → r ≡ Ok x → r ≡ Err y → ⊥
ok_or_err r x y ok err = cc

same_ok : {X Y : Type 0} (r : Result X Y) (x x' : X) → r ≡ Ok x → r ≡ Ok x' → x ≡ x'
same_ok r x x' a b = cc

same_err : {X Y : Type 0} (r : Result X Y) (y y' : Y) → r ≡ Err y → r ≡ Err y' → y ≡ y'
same_err r y y' a b = cc

pub valid_or_faulty : (words : List ℕ) → ((read : Words) × IsValid words read) ⊎ ((reason : CheckFault) × HasModuleFault words reason)
valid_or_faulty words = by_words (module_of words) refl
  where
    by_list : (read : Words) → module_of words ≡ Ok read → IsValidList read ⊎ ((reason : CheckFault) × HasListFault read reason)
        → ((read : Words) × IsValid words read) ⊎ ((reason : CheckFault) × HasModuleFault words reason)
    by_list read is (inl valid) = inl (read, record { reads = is; valid = valid })
    by_list read is (inr has) = inr (has.0, of_module read is has.1)

    by_words : (r : Result Words WordsFault) → module_of words ≡ r → ((read : Words) × IsValid words read) ⊎ ((reason : CheckFault) × HasModuleFault words reason)
    by_words (Ok read) is = by_list read is (valid_or_faulty_list read (read_writable words read is))
    by_words (Err reason) is = inr (fault.Words reason, of_words is)

pub one_valid : (words : List ℕ) (read read' : Words) → IsValid words read → IsValid words read' → read ≡ read'
one_valid words read read' valid valid' = same_ok (module_of words) read read' valid.reads valid'.reads

pub not_both_of_words : (words : List ℕ) (read : Words) (reason : CheckFault) → IsValid words read → HasModuleFault words reason → ⊥
not_both_of_words words read reason valid (of_words {reason = inner} is) = ok_or_err (module_of words) read inner valid.reads is
not_both_of_words words read reason valid (of_module read' is has) =
    not_both_of_list read' reason (subst IsValidList (same_ok (module_of words) read read' valid.reads is) valid.valid) has

pub one_fault_of_words : (words : List ℕ) (reason other : CheckFault) → HasModuleFault words reason → HasModuleFault words other → reason ≡ other
one_fault_of_words words reason other (of_words {reason = a} is) (of_words {reason = b} is') = ap fault.Words (same_err (module_of words) a b is is')
one_fault_of_words words reason other (of_words {reason = a} is) (of_module read is' has) = absurd (ok_or_err (module_of words) read a is' is)
one_fault_of_words words reason other (of_module read is has) (of_words {reason = a} is') = absurd (ok_or_err (module_of words) read a is is')
one_fault_of_words words reason other (of_module read is has) (of_module read' is' has') =
    one_fault_of_list read reason other has (subst (λ (r : Words). HasListFault r other) (same_ok (module_of words) read' read is' is) has')
