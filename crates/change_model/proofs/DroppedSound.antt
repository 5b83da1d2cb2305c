-- Ids, types, constants and decorations are sound where variables and constants are dropped.
use Rattle.std.proofs.Common.{◌≡◌, ℕ, ◌<◌, ◌==◌, Bool, true, false, length, refl, ap, ◌∙◌, None}
use Rattle.spirv_model.specs.declared.module.Inst.{Inst}
use Rattle.spirv_model.specs.declared.module.Words.{Words}
use Rattle.spirv_model.specs.declared.op.TheConstants as op
use Rattle.valid_model.specs.Definitions.{inst_at, id_out_of_bound}
use Rattle.valid_model.specs.FirstFault.{type_fault_at, type_fault}
use Rattle.check_model.specs.Validity.{IsValidList}
use Rattle.typed_model.proofs.ValidModules.{valid_sound}
use Rattle.typed_model.proofs.ValidTypes.{keeps_decorations}
use Rattle.change_model.specs.Dropping.{entry_without, dropped, dropped_words, MayDrop}
use Rattle.change_model.proofs.ConstantsSound.{keeps_all, no_fault, no_rule_fault}
use Rattle.change_model.proofs.DroppedConstants.{constants_dropped}
use Rattle.change_model.proofs.DroppedDefinitions.{once_dropped}
use Rattle.change_model.proofs.DroppedEntries.{entry_words, entry_bounded, entry_function_stays}
use Rattle.change_model.proofs.DroppedJudged.{decorations_dropped}
use Rattle.change_model.proofs.DroppedPlaces.{dropped_place, entry_same}
use Rattle.change_model.proofs.DroppedTypes.{types_dropped}

bounded_left : (words : Words) (v : IsValidList words) (gone : ℕ → Bool) → MayDrop words v gone → (k : ℕ) → k < length words.insts
    → id_out_of_bound words.bound (inst_at words.insts k) ≡ false → id_out_of_bound words.bound (entry_without gone (inst_at words.insts k)) ≡ false
bounded_left words v gone m k within inside = by_test (inst.op == op.ENTRY_POINT) refl
  where
    inst : Inst
    inst = inst_at words.insts k

    by_test : (b : Bool) → inst.op == op.ENTRY_POINT ≡ b → id_out_of_bound words.bound (entry_without gone inst) ≡ false
    by_test true is =
        let e = entry_words inst is ((valid_sound words v).shaped k within) in
        entry_bounded words.bound gone inst e (entry_function_stays words v gone m k within is e) inside
    by_test false isnt = ap (id_out_of_bound words.bound) (entry_same gone inst isnt) ∙ inside

dropped_sound_at : (words : Words) (v : IsValidList words) (gone : ℕ → Bool) → MayDrop words v gone → (place : ℕ) → place < length (dropped gone words.insts) → type_fault_at (dropped_words gone words) place ≡ None
dropped_sound_at words v gone m place within =
    let p = dropped_place gone words.insts place within in
    let old = keeps_all words v.sound p.old p.within in
    no_rule_fault (dropped_words gone words) place
    (once_dropped gone words.insts place within p ∙ old.once)
    (ap (id_out_of_bound words.bound) p.inst ∙ bounded_left words v gone m p.old p.within old.inside)
    (types_dropped words v gone m place within p old.types)
    (constants_dropped words v gone m place p old.constants)
    (decorations_dropped words v gone m place p (keeps_decorations words v.sound p.old p.within))

-- its ids, types, constants and decorations are sound
pub dropped_sound : (words : Words) (v : IsValidList words) (gone : ℕ → Bool) → MayDrop words v gone → type_fault (dropped_words gone words) ≡ None
unfolding type_fault
dropped_sound words v gone m = no_fault (type_fault_at (dropped_words gone words)) (length (dropped gone words.insts)) (dropped_sound_at words v gone m)
