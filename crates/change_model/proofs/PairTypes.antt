-- The values of a phi have its type, which is no pointer's.
use Rattle.std.proofs.Common.{◌≡◌, ℕ, ◌<◌, Bool, true, false, not, refl, ap, sym, ◌∙◌, Some}
use Rattle.std.specs.List.{list_all}
use Rattle.basics.proofs.Bools.{first_of_both, second_of_both}
use Rattle.spirv_model.specs.declared.module.Words.{Words}
use Rattle.spirv_model.specs.declared.class.Class.TheVariants as class
use Rattle.spirv_model.specs.declared.op.TheConstants as op
use Rattle.spirv_model.specs.Operands.{word_at, class_of}
use Rattle.valid_model.specs.Definitions.{inst_at}
use Rattle.valid_model.specs.Meanings.{meaning}
use Rattle.check_model.specs.OperandTypes.{is_pointer, incoming_fits}
use Rattle.check_model.specs.Typing.{typing_of, type_id, has_type}
use Rattle.check_model.specs.Validity.{IsValidList}
use Rattle.check_model.specs.Visibility.{Incoming, incoming}
use Rattle.typed_model.proofs.FunctionRuns.{function_within}
use Rattle.typed_model.proofs.TypeLayouts.{word_is}
use Rattle.typed_model.proofs.ValidModules.{valid_sound}
use Rattle.change_model.proofs.NamedTypes.{fit_as, phi_class}
use Rattle.change_model.proofs.PhiPairsLeft.{In, in_all}
use Rattle.change_model.proofs.TypesNamed.{means}

-- a value of a phi has the phi's type, which is no pointer
pub pair_typed : (words : Words) (v : IsValidList words) (place : ℕ) → place < v.derivation.after → (inst_at words.insts place).op ≡ op.PHI → (pair : Incoming) → In pair (incoming (inst_at words.insts place))
    → (type_id (meaning words.insts pair.value) ≡ Some (word_at 0 (inst_at words.insts place))) × (is_pointer (meaning words.insts (word_at 0 (inst_at words.insts place))) ≡ false)
pair_typed words v place high is pair has =
    let insts = words.insts in
    let phi = inst_at insts place in
    let type = word_at 0 phi in
    let typing = typing_of insts in
    let fit : list_all (incoming_fits typing type) (incoming phi) ≡ true =
    sym (fit_as typing phi (Some class.Phi) (ap class_of is ∙ phi_class)) ∙ (valid_sound words v).fit place (function_within insts v.derivation place high) in
    let one = in_all (incoming_fits typing type) pair (incoming phi) has fit in
    let of = word_is type (type_id (typing.meaning pair.value)) (first_of_both (has_type typing type pair.value) (not (is_pointer (typing.meaning type))) one) in (
      ap type_id (sym (means insts pair.value)) ∙ of,
      ap is_pointer (sym (means insts type)) ∙ shut (is_pointer (typing.meaning type)) (second_of_both (has_type typing type pair.value) (not (is_pointer (typing.meaning type))) one),
    )
  where
    shut : (b : Bool) → not b ≡ true → b ≡ false
    shut false is = refl
    shut true is = cc
