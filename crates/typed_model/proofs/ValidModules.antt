-- A valid module is sound: what its words, its list and its ids ensure.
use Rattle.std.proofs.Common.{◌≡◌, ℕ, zero, suc, ◌<◌, inl, inr, Bool, true, false, not, List, [], ◌∷◌, length, refl, ap, ◌∙◌, arith, Option, None, Some, is_some}
use Rattle.std.specs.List.{list_all}
use Rattle.std.specs.Option.{option_or}
use Rattle.std.proofs.lemmas.Bool.{cases_lt}
use Rattle.basics.proofs.Bools.{first_of_both, second_of_both}
use Rattle.spirv_model.specs.declared.module.Inst.{Inst}
use Rattle.spirv_model.specs.declared.module.Words.{Words}
use Rattle.spirv_model.specs.Operands.{kinds}
use Rattle.spirv_model.specs.Module.{fits_table}
use Rattle.valid_model.specs.Definitions.{inst_at}
use Rattle.check_model.specs.declared.fault.CheckFault.{CheckFault}
use Rattle.check_model.specs.Intervals.{Interval, intervals_of}
use Rattle.check_model.specs.Typing.{typing_of}
use Rattle.check_model.specs.OperandTypes.{operands_fit}
use Rattle.check_model.specs.Visibility.{not_visible}
use Rattle.check_model.specs.Validity.{has_bad_operands, has_wrong_storage, use_fault_of, use_fault_at, first_use_fault, use_fault, list_fault, IsValidList}
use Rattle.typed_model.specs.Modules.{IsSound}

-- ---- the words of each instruction

shaped_at : (insts : List Inst) → list_all fits_table insts ≡ true → (place : ℕ) → place < length insts → is_some (kinds (inst_at insts place)) ≡ true
shaped_at [] fit place within = absurd (omega arith)
shaped_at (inst ∷ insts) fit zero within = first_of_both (fits_table inst) (list_all fits_table insts) fit
shaped_at (inst ∷ insts) fit (suc place) within = shaped_at insts (second_of_both (fits_table inst) (list_all fits_table insts) fit) place (omega arith)

-- ---- operands

none_of_both : (a b : Option CheckFault) → option_or a b ≡ None → (a ≡ None) × (b ≡ None)
none_of_both None b is = (refl, is)
none_of_both (Some fault) b is = cc

no_first : (fault : ℕ → Option CheckFault) (n place : ℕ) → first_use_fault fault n ≡ None → place < n → fault place ≡ None
no_first fault zero place none less = absurd (omega arith)
no_first fault (suc n) place none less =
    let e = none_of_both (first_use_fault fault n) (fault n) none in
    elim (cases_lt place n) [ inl early ↦ no_first fault n place e.0 early | inr late ↦ ap fault (omega arith) ∙ e.1 ]

no_unfit : (place : ℕ) (unseen : Option ℕ) (unfit misplaced : Bool) → use_fault_of place unseen unfit misplaced ≡ None → unfit ≡ false
no_unfit place (Some id) unfit misplaced is = cc
no_unfit place None true misplaced is = cc
no_unfit place None false misplaced is = refl

not_false : (b : Bool) → not b ≡ false → b ≡ true
not_false true is = refl
not_false false is = cc

pub list_fit : (intervals : List Interval) (insts : List Inst) → list_fault intervals insts ≡ None → (place : ℕ) → place < length insts → operands_fit (typing_of insts) (inst_at insts place) ≡ true
unfolding list_fault use_fault use_fault_at has_bad_operands
list_fit intervals insts none place within =
    let used = (none_of_both _ _ (none_of_both _ _ none).1).0 in
    not_false (operands_fit (typing_of insts) (inst_at insts place)) (no_unfit place _ _ _ (no_first (use_fault_at intervals insts) (length insts) place used within))

no_unseen : (place : ℕ) (unseen : Option ℕ) (unfit misplaced : Bool) → use_fault_of place unseen unfit misplaced ≡ None → unseen ≡ None
no_unseen place (Some id) unfit misplaced is = cc
no_unseen place None unfit misplaced is = refl

pub list_seen : (intervals : List Interval) (insts : List Inst) → list_fault intervals insts ≡ None → (place : ℕ) → place < length insts → not_visible intervals insts place ≡ None
unfolding list_fault use_fault use_fault_at
list_seen intervals insts none place within =
    let used = (none_of_both _ _ (none_of_both _ _ none).1).0 in
    no_unseen place _ _ _ (no_first (use_fault_at intervals insts) (length insts) place used within)

not_stored : (place : ℕ) (unseen : Option ℕ) (unfit misplaced : Bool) → use_fault_of place unseen unfit misplaced ≡ None → misplaced ≡ false
not_stored place (Some id) unfit misplaced is = cc
not_stored place None true misplaced is = cc
not_stored place None false true is = cc
not_stored place None false false is = refl

-- ---- all of it

-- what an instruction of a valid module uses is visible
pub valid_seen : (words : Words) (v : IsValidList words) (place : ℕ) → place < length words.insts → not_visible (intervals_of v.derivation) words.insts place ≡ None
valid_seen words v place within = list_seen (intervals_of v.derivation) words.insts v.faultless place within

-- its variables stand where those of their class do, and it writes nothing that is only read
pub valid_stored : (words : Words) → IsValidList words → (place : ℕ) → place < length words.insts → has_wrong_storage words.insts place ≡ false
unfolding list_fault use_fault use_fault_at
valid_stored words v place within =
    let used = (none_of_both _ _ (none_of_both _ _ v.faultless).1).0 in
    not_stored place _ _ _ (no_first (use_fault_at (intervals_of v.derivation) words.insts) (length words.insts) place used within)

pub valid_sound : (words : Words) → IsValidList words → IsSound words
valid_sound words v = record { sound = v.sound; shaped = shaped_at words.insts v.writable.fit; fit = list_fit (intervals_of v.derivation) words.insts v.faultless }
