-- With constants for its specialization constants a valid module is a valid module with the same interface: the first change.
use Rattle.std.proofs.Common.{◌≡◌, ℕ, zero, suc, ◌+◌, ◌-◌, ◌<◌, ◌==◌, ◌||◌, inl, inr, Bool, true, false, cond, nat_le, if◌then◌else◌, List, [], ◌∷◌, length, drop, map, refl, ap, sym, ◌∙◌, subst, arith, length-drop, Option, None, Some}
use Rattle.std.proofs.Math.Path.{fun_ext}
use Rattle.std.specs.Prelude.{filter}
use Rattle.std.specs.Option.{option_map, option_and_then, option_or}
use Rattle.std.specs.List.{list_any, range_with_len}
use Rattle.std.proofs.lemmas.Bool.{cases_lt}
use Rattle.limits.specs.declared.TheConstants.{LOCATIONS}
use Rattle.spirv_model.specs.declared.module.Inst.{Inst}
use Rattle.spirv_model.specs.declared.module.Words.{Words}
use Rattle.spirv_model.specs.declared.op.TheConstants as op
use Rattle.spirv_model.specs.declared.storage_class.TheConstants as storage_class
use Rattle.spirv_model.specs.Operands.{word_at}
use Rattle.body_model.specs.Grammar.{Derives}
use Rattle.state_model.specs.declared.iface.Slot.{Slot}
use Rattle.state_model.specs.declared.parts.SpecValues.{SpecValues}
use Rattle.valid_model.specs.ModuleFacts.{ModuleFacts, facts_of, is_entry, is_vertex}
use Rattle.valid_model.specs.FirstFault.{type_fault}
use Rattle.check_model.specs.declared.fault.CheckFault.{CheckFault}
use Rattle.check_model.specs.declared.fault.CheckFault.TheVariants as fault
use Rattle.check_model.specs.Intervals.{Interval, intervals_of}
use Rattle.check_model.specs.Visibility.{not_visible}
use Rattle.check_model.specs.EntryPoints.{entry_points, is_op_function, function_id, is_one_entry, bad_entry_count}
use Rattle.check_model.specs.Interfaces.{is_variable_at, lowest_location, is_smooth, has_smooth_input, not_flat, are_two, location_twice, stage_of, slot_of_variable, slot_at, inputs_of, outputs_of}
use Rattle.check_model.specs.Validity.{has_bad_operands, has_wrong_storage, use_fault_of, use_fault_at, first_use_fault, use_fault, list_fault, IsValidList}
use Rattle.stage_model.specs.Program.{program_of}
use Rattle.stage_model.specs.Start.{defined_by}
use Rattle.change_model.specs.Constants.{is_spec_id, settled, constants, with_constants}
use Rattle.change_model.specs.Keeping.{HasInterfaceOf, IsChange}
use Rattle.change_model.specs.Settling.{all_settled}
use Rattle.change_model.proofs.ConstantsKeep.{constants_do}
use Rattle.change_model.proofs.ConstantsShorten.{constants_shorten}
use Rattle.change_model.proofs.ConstantsSound.{constants_sound, constants_written}
use Rattle.change_model.proofs.ConstantsStand.{settled_stands}
use Rattle.change_model.proofs.SettledBlocks.{function_visible}
use Rattle.change_model.proofs.SettledBody.{labels_differ, body_settled}
use Rattle.change_model.proofs.SettledDecorations.{hidden, facts_settled}
use Rattle.change_model.proofs.SettledFunction.{first_of, settled_first, same_rest}
use Rattle.change_model.proofs.SettledOperands.{operands_settled, storage_settled, other_function}
use Rattle.change_model.proofs.SettledPlaces.{PlaceOf}
use Rattle.change_model.proofs.SettledUses.{level_place, function_place}
use Rattle.change_model.proofs.SettledVisible.{Sides, new_of, front_visible}
use Rattle.change_model.proofs.Settlings.{Settles, IsOther, by_op, is_same, found_by_op, settled_cons, settled_gone, gone_op, other_entry_point, other_variable}

-- ---- instructions of a kind of their own

filtered_by_op : (f : Inst → Inst) → Settles f → (own : ℕ) → IsOther own → op.DECORATE == own ≡ false → (p : Inst → Bool) → ((inst : Inst) → inst.op == own ≡ false → p inst ≡ false) → (insts : List Inst)
    → filter p (all_settled f insts) ≡ filter p insts
filtered_by_op f s own other isnt p none [] = refl
filtered_by_op f s own other isnt p none (inst ∷ insts) = by_test (filtered_by_op f s own other isnt p none insts) (is_spec_id inst) refl
  where
    here : filter p (all_settled f insts) ≡ filter p insts → (b : Bool) → p inst ≡ b → cond b (f inst ∷ filter p (all_settled f insts)) (filter p (all_settled f insts)) ≡ cond b (inst ∷ filter p insts) (filter p insts)
    here rest true is = ap (λ (i : Inst). i ∷ filter p (all_settled f insts)) (is_same own other p none (f inst) inst (s inst) is) ∙ ap (λ (l : List Inst). inst ∷ l) rest
    here rest false isnt = rest

    by_test : filter p (all_settled f insts) ≡ filter p insts → (b : Bool) → is_spec_id inst ≡ b → filter p (all_settled f (inst ∷ insts)) ≡ cond (p inst) (inst ∷ filter p insts) (filter p insts)
    by_test rest true is =
        ap (filter p) (settled_gone f inst insts is) ∙ rest
        ∙ ap (λ (b : Bool). cond b (inst ∷ filter p insts) (filter p insts)) (sym (none inst (ap (λ (o : ℕ). o == own) (gone_op inst is) ∙ isnt)))
    by_test rest false stays =
        ap (filter p) (settled_cons f inst insts stays)
        ∙ ap (λ (b : Bool). cond b (f inst ∷ filter p (all_settled f insts)) (filter p (all_settled f insts))) (by_op own other p none (f inst) inst (s inst))
        ∙ here rest (p inst) refl

-- ---- the entry point

entries_same : (f : Inst → Inst) → Settles f → (insts : List Inst) → bad_entry_count (all_settled f insts) ≡ bad_entry_count insts
unfolding bad_entry_count
entries_same f s insts =
    let e = filtered_by_op f s op.ENTRY_POINT other_entry_point refl is_entry (λ inst isnt. isnt) insts in
    let g : function_id (all_settled f insts) ≡ function_id insts = ap (option_map (word_at 1)) (found_by_op f s op.FUNCTION other_function refl is_op_function (λ inst isnt. isnt) insts) in
    ap (λ (l : List Inst). if is_one_entry (function_id (all_settled f insts)) l then None else Some (length l)) e
    ∙ ap (λ (o : Option ℕ). if is_one_entry o (entry_points insts) then None else Some (length (entry_points insts))) g

-- ---- the interface, by facts without numbers of specialization constants

no_variable_at : (facts : ModuleFacts) (storage location : ℕ) (inst : Inst) → inst.op == op.VARIABLE ≡ false → is_variable_at facts storage location inst ≡ false
no_variable_at facts storage location inst isnt = rw isnt refl

flat_by : ModuleFacts → List Inst → Option ℕ
flat_by facts insts = if is_vertex facts then None else lowest_location (has_smooth_input facts insts)

flat_is : (insts : List Inst) → not_flat insts ≡ flat_by (hidden (facts_of insts)) insts
unfolding not_flat flat_by hidden
flat_is insts = refl

smooth_same : (f : Inst → Inst) → Settles f → (facts : ModuleFacts) (insts : List Inst) → has_smooth_input facts (all_settled f insts) ≡ has_smooth_input facts insts
smooth_same f s facts insts = fun_ext (λ location.
    ap (list_any (is_smooth facts)) (filtered_by_op f s op.VARIABLE other_variable refl (is_variable_at facts storage_class.INPUT location) (no_variable_at facts storage_class.INPUT location) insts))

flat_same : (f : Inst → Inst) → Settles f → (words : Words) → type_fault words ≡ None → not_flat (all_settled f words.insts) ≡ not_flat words.insts
unfolding flat_by
flat_same f s words sound =
    let insts = words.insts in let new = all_settled f insts in
    flat_is new ∙ ap (λ (h : ModuleFacts). flat_by h new) (facts_settled f s words sound)
    ∙ ap (λ (t : ℕ → Bool). if is_vertex (hidden (facts_of insts)) then None else lowest_location t) (smooth_same f s (hidden (facts_of insts)) insts)
    ∙ sym (flat_is insts)

twice_by : ModuleFacts → List Inst → Option ℕ
twice_by facts insts = lowest_location (λ location. are_two facts insts storage_class.INPUT location || are_two facts insts storage_class.OUTPUT location)

twice_is : (insts : List Inst) → location_twice insts ≡ twice_by (hidden (facts_of insts)) insts
unfolding location_twice twice_by hidden
twice_is insts = refl

two_same : (f : Inst → Inst) → Settles f → (facts : ModuleFacts) (insts : List Inst) (storage location : ℕ) → are_two facts (all_settled f insts) storage location ≡ are_two facts insts storage location
two_same f s facts insts storage location =
    ap (λ (l : List Inst). nat_le 2 (length l)) (filtered_by_op f s op.VARIABLE other_variable refl (is_variable_at facts storage location) (no_variable_at facts storage location) insts)

twice_same : (f : Inst → Inst) → Settles f → (words : Words) → type_fault words ≡ None → location_twice (all_settled f words.insts) ≡ location_twice words.insts
unfolding twice_by
twice_same f s words sound =
    let insts = words.insts in let new = all_settled f insts in
    let h = hidden (facts_of insts) in
    twice_is new ∙ ap (λ (h : ModuleFacts). twice_by h new) (facts_settled f s words sound)
    ∙ ap lowest_location (fun_ext (λ location.
    ap (λ (b : Bool). b || are_two h new storage_class.OUTPUT location) (two_same f s h insts storage_class.INPUT location)
    ∙ ap (λ (b : Bool). are_two h insts storage_class.INPUT location || b) (two_same f s h insts storage_class.OUTPUT location)))
    ∙ sym (twice_is insts)

slots_by : ModuleFacts → List Inst → ℕ → List (Option Slot)
slots_by facts insts storage = map (slot_at facts insts storage) (range_with_len 0 LOCATIONS)

inputs_are : (insts : List Inst) → inputs_of insts ≡ record { slots = slots_by (hidden (facts_of insts)) insts storage_class.INPUT }
unfolding inputs_of slots_by hidden
inputs_are insts = refl

outputs_are : (insts : List Inst) → outputs_of insts ≡ record { slots = slots_by (hidden (facts_of insts)) insts storage_class.OUTPUT }
unfolding outputs_of slots_by hidden
outputs_are insts = refl

slots_same : (f : Inst → Inst) → Settles f → (words : Words) → type_fault words ≡ None → (storage : ℕ)
    → slots_by (hidden (facts_of (all_settled f words.insts))) (all_settled f words.insts) storage ≡ slots_by (hidden (facts_of words.insts)) words.insts storage
unfolding slots_by
slots_same f s words sound storage =
    let insts = words.insts in let new = all_settled f insts in
    let h = hidden (facts_of insts) in
    ap (λ (h : ModuleFacts). map (slot_at h new storage) (range_with_len 0 LOCATIONS)) (facts_settled f s words sound)
    ∙ ap (λ (t : ℕ → Option Slot). map t (range_with_len 0 LOCATIONS)) (fun_ext (λ location.
    ap (option_and_then (slot_of_variable h)) (found_by_op f s op.VARIABLE other_variable refl (is_variable_at h storage location) (no_variable_at h storage location) insts)))

vertex_is : (insts : List Inst) → is_vertex (facts_of insts) ≡ is_vertex (hidden (facts_of insts))
unfolding hidden
vertex_is insts = refl

stage_same : (f : Inst → Inst) → Settles f → (words : Words) → type_fault words ≡ None → stage_of (all_settled f words.insts) ≡ stage_of words.insts
unfolding stage_of
stage_same f s words sound = rw (vertex_is (all_settled f words.insts) ∙ ap is_vertex (facts_settled f s words sound) ∙ sym (vertex_is words.insts)) refl

pub interface_settled : (f : Inst → Inst) → Settles f → (words : Words) → type_fault words ≡ None → HasInterfaceOf (all_settled f words.insts) words.insts
interface_settled f s words sound = record {
  stage = stage_same f s words sound;
  inputs = inputs_are (all_settled f words.insts) ∙ ap (λ (l : List (Option Slot)). record { slots = l }) (slots_same f s words sound storage_class.INPUT) ∙ sym (inputs_are words.insts);
  outputs = outputs_are (all_settled f words.insts) ∙ ap (λ (l : List (Option Slot)). record { slots = l }) (slots_same f s words sound storage_class.OUTPUT) ∙ sym (outputs_are words.insts);
}

-- ---- uses

pub record NoUseFault (intervals : List Interval) (insts : List Inst) (place : ℕ) : Type 0 where
  pub visible : not_visible intervals insts place ≡ None
  pub operands : has_bad_operands insts place ≡ false
  pub storage : has_wrong_storage insts place ≡ false

pub no_use_fault : (intervals : List Interval) (insts : List Inst) (place : ℕ) → use_fault_at intervals insts place ≡ None → NoUseFault intervals insts place
unfolding use_fault_at
no_use_fault intervals insts place is = by_cases (not_visible intervals insts place) (has_bad_operands insts place) (has_wrong_storage insts place) refl refl refl is
  where
    by_cases : (a : Option ℕ) (b c : Bool) → not_visible intervals insts place ≡ a → has_bad_operands insts place ≡ b → has_wrong_storage insts place ≡ c → use_fault_of place a b c ≡ None → NoUseFault intervals insts place
    by_cases (Some id) b c seen fit stored is = cc
    by_cases None true c seen fit stored is = cc
    by_cases None false true seen fit stored is = cc
    by_cases None false false seen fit stored is = record { visible = seen; operands = fit; storage = stored }

pub use_faultless : (intervals : List Interval) (insts : List Inst) (place : ℕ) → NoUseFault intervals insts place → use_fault_at intervals insts place ≡ None
unfolding use_fault_at
use_faultless intervals insts place n = rw n.visible (rw n.operands (rw n.storage refl))

none_of_both : (a b : Option CheckFault) → option_or a b ≡ None → (a ≡ None) × (b ≡ None)
none_of_both None b is = (refl, is)
none_of_both (Some reason) b is = cc

pub no_first : (fault_at : ℕ → Option CheckFault) (n place : ℕ) → first_use_fault fault_at n ≡ None → place < n → fault_at place ≡ None
no_first fault_at zero place none less = absurd (omega arith)
no_first fault_at (suc n) place none less =
    let e = none_of_both (first_use_fault fault_at n) (fault_at n) none in
    elim (cases_lt place n) [ inl early ↦ no_first fault_at n place e.0 early | inr late ↦ ap fault_at (omega arith) ∙ e.1 ]

pub none_at_all : (fault_at : ℕ → Option CheckFault) (n : ℕ) → ((place : ℕ) → place < n → fault_at place ≡ None) → first_use_fault fault_at n ≡ None
none_at_all fault_at zero none = refl
none_at_all fault_at (suc n) none =
    ap (λ (o : Option CheckFault). option_or o (fault_at n)) (none_at_all fault_at n (λ place less. none place (omega (arith, less)))) ∙ none n (omega arith)

use_at_place : (f : Inst → Inst) (words : Words) (d : Derives words.insts) (both : Sides f words.insts d) → type_fault words ≡ None → (place : ℕ) (p : PlaceOf f words.insts place)
    → not_visible (intervals_of (new_of f words.insts d both)) (all_settled f words.insts) place ≡ not_visible (intervals_of d) words.insts p.old
    → use_fault_at (intervals_of d) words.insts p.old ≡ None → use_fault_at (intervals_of (new_of f words.insts d both)) (all_settled f words.insts) place ≡ None
use_at_place f words d both sound place p visible good =
    let n = no_use_fault (intervals_of d) words.insts p.old good in
    use_faultless (intervals_of (new_of f words.insts d both)) (all_settled f words.insts) place
    (record { visible = visible ∙ n.visible; operands = operands_settled f both.stands words sound place p n.operands; storage = storage_settled f both.stands words sound place p n.storage })

uses_settled : (f : Inst → Inst) (words : Words) (d : Derives words.insts) (both : Sides f words.insts d) → type_fault words ≡ None → use_fault (intervals_of d) words.insts ≡ None
    → use_fault (intervals_of (new_of f words.insts d both)) (all_settled f words.insts) ≡ None
unfolding use_fault
uses_settled f words d both sound good =
    let insts = words.insts in let new = all_settled f insts in
    none_at_all (use_fault_at (intervals_of (new_of f insts d both)) new) (length new) (λ place within.
    elim (cases_lt place (settled_first f insts d)) [
      | inl early ↦
          let p = level_place f both.stands insts d place early in
          use_at_place f words d both sound place p.0 (front_visible f insts d both place early p.0 p.1) (no_first (use_fault_at (intervals_of d) insts) (length insts) p.0.old good p.0.within)
      | inr late ↦
          let far = place - settled_first f insts d in
          let is : settled_first f insts d + far ≡ place = omega (arith, late) in
          let e = length-drop (first_of insts d) insts in let g = length-drop (settled_first f insts d) new in
          let h : length (drop (settled_first f insts d) new) ≡ length (drop (first_of insts d) insts) = ap length (same_rest f both.stands insts d) in
          let there : first_of insts d + far < length insts = omega (arith, e, g, h, within, late) in
          let p = function_place f both.stands insts d far there in
          subst (λ (n : ℕ). use_fault_at (intervals_of (new_of f insts d both)) new n ≡ None) is
          (use_at_place f words d both sound (settled_first f insts d + far) p.0 (function_visible f insts d both far there p.0 p.1) (no_first (use_fault_at (intervals_of d) insts) (length insts) p.0.old good p.0.within))
    ])

-- ---- the whole list

pub none_of : (a b c e : Option CheckFault) → option_or a (option_or b (option_or c e)) ≡ None → (a ≡ None) × (b ≡ None) × (c ≡ None) × (e ≡ None)
none_of None None None e is = (refl, refl, refl, is)
none_of (Some reason) b c e is = cc
none_of None (Some reason) c e is = cc
none_of None None (Some reason) e is = cc

pub all_none : (a b c e : Option CheckFault) → a ≡ None → b ≡ None → c ≡ None → e ≡ None → option_or a (option_or b (option_or c e)) ≡ None
all_none a b c e p q r t = rw p (rw q (rw r t))

pub faultless_settled : (f : Inst → Inst) (words : Words) (d : Derives words.insts) (both : Sides f words.insts d) → type_fault words ≡ None → list_fault (intervals_of d) words.insts ≡ None
    → list_fault (intervals_of (new_of f words.insts d both)) (all_settled f words.insts) ≡ None
unfolding list_fault
faultless_settled f words d both sound good =
    let insts = words.insts in let new = all_settled f insts in
    let n = none_of (option_map fault.EntryCount (bad_entry_count insts)) (use_fault (intervals_of d) insts) (option_map fault.NotFlat (not_flat insts)) (option_map fault.LocationTwice (location_twice insts)) good in
    all_none (option_map fault.EntryCount (bad_entry_count new)) (use_fault (intervals_of (new_of f insts d both)) new) (option_map fault.NotFlat (not_flat new)) (option_map fault.LocationTwice (location_twice new))
    (ap (option_map fault.EntryCount) (entries_same f both.stands insts) ∙ n.0)
    (uses_settled f words d both sound n.1)
    (ap (option_map fault.NotFlat) (flat_same f both.stands words sound) ∙ n.2)
    (ap (option_map fault.LocationTwice) (twice_same f both.stands words sound) ∙ n.3)

-- the list with constants is a valid module
pub constants_valid : (words : Words) → IsValidList words → (entries : SpecValues) → IsValidList (with_constants entries words)
unfolding constants
constants_valid words v entries =
    let values = defined_by (program_of words.insts) entries words.insts in
    let f : Inst → Inst = settled values in
    let sound = constants_sound words v entries in
    let both : Sides f words.insts v.derivation = record { stands = settled_stands values; body = body_settled f (settled_stands values) words.insts v.derivation (labels_differ (with_constants entries words) sound) } in
    record {
      writable = constants_written words v entries;
      derivation = new_of f words.insts v.derivation both;
      sound = sound;
      faultless = faultless_settled f words v.derivation both v.sound v.faultless;
    }

constants_interface : (words : Words) → IsValidList words → (entries : SpecValues) → HasInterfaceOf (constants entries words.insts) words.insts
unfolding constants
constants_interface words v entries =
    let values = defined_by (program_of words.insts) entries words.insts in interface_settled (settled values) (settled_stands values) words v.sound

-- With constants for its specialization constants a module is a valid module that does the same, whatever entries are given then.
pub constants_change : (zeros : List ℕ) (words : Words) → IsValidList words → (entries any : SpecValues) → IsChange zeros (with_constants entries words) any words entries
constants_change zeros words v entries any = record {
  valid = constants_valid words v entries;
  keeps = record {
    does = λ inputs buffers are. constants_do words v entries any inputs buffers;
    words = constants_shorten words v entries;
  };
  interface = constants_interface words v entries;
}
