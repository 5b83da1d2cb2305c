-- A module that names no zeros, where these stand at the locations that nobody feeds, names inputs that are fed alone.
use Rattle.std.proofs.Common.{◌≡◌, ℕ, zero, suc, ◌<◌, ◌==◌, ◌&&◌, ◌||◌, Bool, true, false, not, if◌then◌else◌, List, [], ◌∷◌, refl, ap, sym, ◌∙◌, arith, Option, None, Some}
use Rattle.std.specs.Prelude.{filter, is_some, is_none}
use Rattle.std.specs.List.{list_all, range_with_len}
use Rattle.limits.specs.declared.TheConstants.{LOCATIONS}
use Rattle.spirv_model.specs.declared.module.Words.{Words}
use Rattle.spirv_model.specs.declared.storage_class.TheConstants as storage_class
use Rattle.spirv_model.specs.declared.decoration.TheConstants.{BUILT_IN, LOCATION}
use Rattle.spirv_model.specs.Operands.{ids}
use Rattle.body_model.specs.Switches.{is_among}
use Rattle.state_model.specs.declared.iface.Iface.{Iface}
use Rattle.state_model.specs.declared.iface.Slot.{Slot}
use Rattle.valid_model.specs.declared.meaning.Meaning.{Meaning}
use Rattle.valid_model.specs.declared.meaning.Meaning.TheVariants.{Variable}
use Rattle.valid_model.specs.DecorationWords.{decoration_of}
use Rattle.valid_model.specs.Definitions.{inst_at}
use Rattle.valid_model.specs.Meanings.{meaning}
use Rattle.check_model.specs.Validity.{IsValidList}
use Rattle.typed_model.proofs.BlockParts.{clash}
use Rattle.unit_model.specs.ConstantScalars.{function_places}
use Rattle.unit_model.specs.UsedInterface.{has_slot, is_input, is_unfed, unfed, names_fed_inputs}
use Rattle.change_model.specs.PlanRules.{is_input_of, is_nothing, is_among_locations, is_zero_input}
use Rattle.change_model.specs.Pruned.{slot_of}
use Rattle.change_model.specs.Specialised.{names_no_zeros}
use Rattle.change_model.proofs.ChangedVisible.{all_weaker}
use Rattle.change_model.proofs.Settlings.{op_is}
use Rattle.change_model.proofs.SlotsThere.{location_below, located_only}

-- ---- the locations without anything

and_none : (a : Bool) → (a && false) ≡ false
and_none true = refl
and_none false = refl

-- what is left of a list has the property
among_filtered : (p : ℕ → Bool) (x : ℕ) (xs : List ℕ) → is_among x (filter p xs) ≡ (is_among x xs && p x)
among_filtered p x [] = refl
among_filtered p x (y ∷ ys) = by_tests (p y) (y == x) refl refl (among_filtered p x ys)
  where
    by_tests : (a b : Bool) → p y ≡ a → (y == x) ≡ b → is_among x (filter p ys) ≡ (is_among x ys && p x)
        → is_among x (if a then y ∷ filter p ys else filter p ys) ≡ (((y == x) || is_among x ys) && p x)
    by_tests true true has is rest =
        ap (λ (b : Bool). b || is_among x (filter p ys)) is ∙ sym (ap (λ (b : Bool). (b || is_among x ys) && p x) is ∙ ap p (sym (op_is y x is)) ∙ has)
    by_tests true false has isnt rest = ap (λ (b : Bool). b || is_among x (filter p ys)) isnt ∙ rest ∙ sym (ap (λ (b : Bool). (b || is_among x ys) && p x) isnt)
    by_tests false true hasnt is rest =
        let none : p x ≡ false = ap p (sym (op_is y x is)) ∙ hasnt in
        rest ∙ ap (λ (b : Bool). is_among x ys && b) none ∙ and_none (is_among x ys) ∙ sym (ap (λ (b : Bool). (b || is_among x ys) && p x) is ∙ none)
    by_tests false false hasnt isnt rest = rest ∙ sym (ap (λ (b : Bool). (b || is_among x ys) && p x) isnt)

among_locations : (location : ℕ) → location < LOCATIONS → is_among location (range_with_len 0 LOCATIONS) ≡ true
among_locations zero low = refl
among_locations (suc zero) low = refl
among_locations (suc (suc zero)) low = refl
among_locations (suc (suc (suc zero))) low = refl
among_locations (suc (suc (suc (suc zero)))) low = refl
among_locations (suc (suc (suc (suc (suc zero))))) low = refl
among_locations (suc (suc (suc (suc (suc (suc zero)))))) low = refl
among_locations (suc (suc (suc (suc (suc (suc (suc zero))))))) low = refl
among_locations (suc (suc (suc (suc (suc (suc (suc (suc location)))))))) low = absurd (omega (arith, low))

among_unfed : (iface : Iface) (location : ℕ) → location < LOCATIONS → is_among location (unfed iface) ≡ is_none (slot_of iface location)
among_unfed iface location low =
    among_filtered (λ location. is_none (slot_of iface location)) location (range_with_len 0 LOCATIONS)
    ∙ ap (λ (b : Bool). b && is_none (slot_of iface location)) (among_locations location low)

both_none : (a : Bool) (o : Option Slot) → (a && is_none o) ≡ true → is_some o ≡ false
both_none true None is = refl
both_none true (Some slot) is = cc
both_none false o is = cc

-- nothing stands at such a location
pub unfed_lacks : (iface : Iface) (location : ℕ) → is_among location (unfed iface) ≡ true → is_some (slot_of iface location) ≡ false
unfed_lacks iface location is =
    both_none (is_among location (range_with_len 0 LOCATIONS)) (slot_of iface location)
    (sym (among_filtered (λ location. is_none (slot_of iface location)) location (range_with_len 0 LOCATIONS)) ∙ is)

-- ---- inputs

inputs_same : (m : Meaning) → is_input m ≡ is_input_of m
inputs_same (Variable type class) = refl
inputs_same m = refl

input_is : (m : Meaning) → is_input_of m ≡ true → (type : ℕ) × (m ≡ Variable type storage_class.INPUT)
input_is (Variable type class) is = (type, ap (λ (c : ℕ). Variable type c) (op_is class storage_class.INPUT is))
input_is m is = cc

not_none : (o : Option Slot) → not (is_none o) ≡ true → not (not (is_some o)) ≡ true
not_none None is = cc
not_none (Some slot) is = refl

by_parts : (fed : Iface) (input : Bool) (location built_in : Option ℕ) → (input ≡ true → is_some location ≡ true → is_some built_in ≡ false)
    → ((n : ℕ) → location ≡ Some n → n < LOCATIONS) → not (input && is_nothing built_in && is_among_locations (unfed fed) location) ≡ true
    → not (input && is_some location && not (has_slot fed location)) ≡ true
by_parts fed false location built_in alone low is = refl
by_parts fed true None built_in alone low is = refl
by_parts fed true (Some n) (Some word) alone low is = absurd (clash true refl (alone refl refl))
by_parts fed true (Some n) None alone low is = not_none (slot_of fed n) (ap not (sym (among_unfed fed n (low n refl))) ∙ is)

fed_alone : (fed : Iface) (words : Words) → IsValidList words → (id : ℕ) → not (is_zero_input words.insts (unfed fed) id) ≡ true → not (is_unfed fed words.insts id) ≡ true
fed_alone fed words v id is =
    let place = decoration_of words.insts id LOCATION in
    ap (λ (b : Bool). not (b && is_some place && not (has_slot fed place))) (inputs_same (meaning words.insts id))
    ∙ by_parts fed (is_input_of (meaning words.insts id)) place (decoration_of words.insts id BUILT_IN)
    (λ input located. let i = input_is (meaning words.insts id) input in located_only words v id i.0 i.1 located)
    (λ n at. location_below words v id n at) is

pub unfed_unnamed : (fed : Iface) (words : Words) → IsValidList words → names_no_zeros (unfed fed) words.insts ≡ true → names_fed_inputs fed words.insts ≡ true
unfed_unnamed fed words v none =
    all_weaker (λ place. list_all (λ id. not (is_zero_input words.insts (unfed fed) id)) (ids (inst_at words.insts place)))
    (λ place. list_all (λ id. not (is_unfed fed words.insts id)) (ids (inst_at words.insts place))) (function_places words.insts)
    (λ place. all_weaker (λ id. not (is_zero_input words.insts (unfed fed) id)) (λ id. not (is_unfed fed words.insts id)) (ids (inst_at words.insts place)) (fed_alone fed words v))
    none
