-- Ids, types, constants and decorations are sound with constants for the specialization constants.
use Rattle.std.proofs.Common.{◌≡◌, ℕ, zero, suc, ◌<◌, ◌≤◌, Bool, true, false, if◌then◌else◌, length, refl, ap, ◌∙◌, arith, Option, None, Some}
use Rattle.std.specs.Option.{option_or}
use Rattle.spirv_model.specs.declared.module.Inst.{Inst}
use Rattle.spirv_model.specs.declared.module.Words.{Words}
use Rattle.spirv_model.specs.Module.{IsWritable}
use Rattle.state_model.specs.declared.parts.SpecValues.{SpecValues}
use Rattle.valid_model.specs.declared.type_fault.TypeFault.{TypeFault}
use Rattle.valid_model.specs.declared.type_fault.TypeFault.TheVariants.{BadDecoration}
use Rattle.valid_model.specs.Definitions.{inst_at, id_twice, id_out_of_bound}
use Rattle.valid_model.specs.Constants.{breaks_constants}
use Rattle.valid_model.specs.Decorations.{bad_decoration}
use Rattle.valid_model.specs.Meanings.{known_before}
use Rattle.valid_model.specs.FirstFault.{bad_type, bad_constant, fault_of, rule_fault, type_fault_at, first_fault, type_fault}
use Rattle.check_model.specs.Validity.{IsValidList}
use Rattle.stage_model.specs.Program.{program_of}
use Rattle.stage_model.specs.Start.{defined_by}
use Rattle.typed_model.proofs.ValidModules.{valid_sound}
use Rattle.typed_model.proofs.ValidTypes.{none_of_both, no_first, keeps_decorations}
use Rattle.change_model.specs.Constants.{is_spec_id, settled, constants, with_constants}
use Rattle.change_model.proofs.ConstantsFit.{settled_well, settled_unbroken, value_fits_there}
use Rattle.change_model.proofs.ConstantsShorten.{constants_shorten}
use Rattle.change_model.proofs.ConstantsStand.{settled_stands}
use Rattle.change_model.proofs.SettledDecorations.{decorations_settled}
use Rattle.change_model.proofs.SettledPlaces.{place_of, once_settled}
use Rattle.change_model.proofs.SettledRules.{types_settled, constants_settled}
use Rattle.change_model.proofs.SiftedWords.{sifted_fits}

-- ---- no rule is broken at any place of the old list

pub record KeepsAll (words : Words) (place : ℕ) : Type 0 where
  pub once : id_twice words.insts place ≡ None
  pub inside : id_out_of_bound words.bound (inst_at words.insts place) ≡ false
  pub types : bad_type words.insts place ≡ false
  pub constants : bad_constant words.insts place ≡ false

no_rule : (place : ℕ) (twice : Option ℕ) (outside misdeclared unfit : Bool) → fault_of place twice outside misdeclared unfit ≡ None → (twice ≡ None) × (outside ≡ false) × (misdeclared ≡ false) × (unfit ≡ false)
no_rule place (Some id) outside misdeclared unfit is = cc
no_rule place None true misdeclared unfit is = cc
no_rule place None false true unfit is = cc
no_rule place None false false true is = cc
no_rule place None false false false is = (refl, refl, refl, refl)

pub keeps_all : (words : Words) → type_fault words ≡ None → (place : ℕ) → place < length words.insts → KeepsAll words place
unfolding type_fault rule_fault
keeps_all words sound place within =
    let none = none_of_both (rule_fault words place) _ (no_first (type_fault_at words) (length words.insts) place sound within) in
    let r = no_rule place (id_twice words.insts place) (id_out_of_bound words.bound (inst_at words.insts place)) (bad_type words.insts place) (bad_constant words.insts place) none.0 in
    record { once = r.0; inside = r.1; types = r.2; constants = r.3 }

-- ---- none at any place of the new one

pub no_fault : (fault_at : ℕ → Option TypeFault) (n : ℕ) → ((place : ℕ) → place < n → fault_at place ≡ None) → first_fault fault_at n ≡ None
no_fault fault_at zero none = refl
no_fault fault_at (suc n) none =
    ap (λ (o : Option TypeFault). option_or o (fault_at n)) (no_fault fault_at n (λ place less. none place (omega (arith, less)))) ∙ none n (omega arith)

rules_kept : (place : ℕ) (twice : Option ℕ) (outside misdeclared unfit : Bool) → twice ≡ None → outside ≡ false → misdeclared ≡ false → unfit ≡ false → fault_of place twice outside misdeclared unfit ≡ None
rules_kept place twice outside misdeclared unfit a b c d = rw a (rw b (rw c (rw d refl)))

pub no_rule_fault : (words : Words) (place : ℕ) → id_twice words.insts place ≡ None → id_out_of_bound words.bound (inst_at words.insts place) ≡ false → bad_type words.insts place ≡ false → bad_constant words.insts place ≡ false
    → bad_decoration words.insts place ≡ false → type_fault_at words place ≡ None
unfolding rule_fault
no_rule_fault words place once inside types constants decorations =
    ap (λ (o : Option TypeFault). option_or o (if bad_decoration words.insts place then Some (BadDecoration place) else None)) (rules_kept place _ _ _ _ once inside types constants)
    ∙ ap (λ (b : Bool). if b then Some (BadDecoration place) else None) decorations

no_constant : (words : Words) (place : ℕ) → bad_constant words.insts place ≡ false → breaks_constants (known_before words.insts place) (inst_at words.insts place) ≡ false
unfolding bad_constant
no_constant words place good = good

constants_sound_at : (words : Words) → IsValidList words → (entries : SpecValues) (place : ℕ) → place < length (constants entries words.insts) → type_fault_at (with_constants entries words) place ≡ None
unfolding constants
constants_sound_at words v entries place within =
    let insts = words.insts in
    let values = defined_by (program_of insts) entries insts in
    let f : Inst → Inst = settled values in
    let s = settled_stands values in
    let p = place_of f insts place within in
    let old = keeps_all words v.sound p.old p.within in
    let types = λ (k : ℕ) (w : k < length insts). (keeps_all words v.sound k w).types in
    let well = settled_well words.bound values (inst_at insts p.old) ((valid_sound words v).shaped p.old p.within) old.inside in
    let unbroken = settled_unbroken (known_before insts p.old) values (inst_at insts p.old) (no_constant words p.old old.constants) (λ is. value_fits_there words v entries p.old p.within (no_constant words p.old old.constants) is) in
    no_rule_fault (with_constants entries words) place
    (once_settled f s insts place within p ∙ old.once)
    (ap (id_out_of_bound words.bound) p.inst ∙ well.bounded)
    (types_settled f s words types place within p)
    (constants_settled f s words types place p unbroken)
    (decorations_settled f s words v.sound place p (keeps_decorations words v.sound p.old p.within))

-- its ids, types, constants and decorations are sound
pub constants_sound : (words : Words) → IsValidList words → (entries : SpecValues) → type_fault (with_constants entries words) ≡ None
unfolding type_fault
constants_sound words v entries = no_fault (type_fault_at (with_constants entries words)) (length (constants entries words.insts)) (constants_sound_at words v entries)

-- ---- it can be written

less_again : (a b c : ℕ) → a ≤ b → b ≤ c → a ≤ c
less_again a b c first second = omega arith

pub constants_written : (words : Words) → IsValidList words → (entries : SpecValues) → IsWritable (with_constants entries words)
unfolding constants
constants_written words v entries =
    let insts = words.insts in
    let values = defined_by (program_of insts) entries insts in
    record {
      fit = sifted_fits is_spec_id (settled values) insts (λ k within stays. (settled_well words.bound values (inst_at insts k) ((valid_sound words v).shaped k within) (keeps_all words v.sound k within).inside).shaped);
      bound_least = v.writable.bound_least;
      bound_most = v.writable.bound_most;
      few = less_again _ _ _ (constants_shorten words v entries) v.writable.few;
    }
