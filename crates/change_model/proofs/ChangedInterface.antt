-- The list that a plan makes has the interface of the one before, one entry point, and no further fault of locations.
use Rattle.std.proofs.Common.{◌≡◌, ℕ, ◌==◌, ◌&&◌, ◌||◌, Bool, true, false, if◌then◌else◌, List, length, map, refl, ap, sym, ◌∙◌, Option, None, Some}
use Rattle.std.proofs.Math.Path.{fun_ext}
use Rattle.std.specs.Prelude.{not, nat_le, filter, is_some}
use Rattle.std.specs.Option.{option_and_then}
use Rattle.std.specs.List.{find, list_any, range_with_len}
use Rattle.limits.specs.declared.TheConstants.{LOCATIONS}
use Rattle.spirv_model.specs.declared.module.Inst.{Inst}
use Rattle.spirv_model.specs.declared.op.TheConstants as op
use Rattle.spirv_model.specs.declared.decoration.TheConstants.{LOCATION, FLAT}
use Rattle.spirv_model.specs.declared.execution_model.TheConstants.{VERTEX}
use Rattle.spirv_model.specs.declared.storage_class.TheConstants as storage_class
use Rattle.spirv_model.specs.Operands.{word_at}
use Rattle.state_model.specs.declared.iface.Slot.{Slot}
use Rattle.valid_model.specs.declared.meaning.Shape.{Shape}
use Rattle.valid_model.specs.declared.meaning.Shape.TheVariants.{Int, IntVector, Pointer}
use Rattle.valid_model.specs.declared.meaning.Meaning.{Meaning}
use Rattle.valid_model.specs.declared.meaning.Meaning.TheVariants.{Absent, Shape as OfShape, Constant, Variable, Value as OfValue, Label, Other}
use Rattle.valid_model.specs.EarlierFacts.{is_variable_of}
use Rattle.valid_model.specs.ModuleFacts.{ModuleFacts, facts_of, is_vertex, is_word}
use Rattle.valid_model.specs.Shapes.{pointee_id, pointee, held_type}
use Rattle.check_model.specs.Interfaces.{is_variable_at, lowest_location, is_smooth, has_smooth_input, not_flat, are_two, location_twice, stage_of, slot_in, slot_of_variable, slot_at, inputs_of, outputs_of}
use Rattle.change_model.specs.Plans.{changed}
use Rattle.change_model.specs.Keeping.{HasInterfaceOf}
use Rattle.change_model.proofs.ChangedShapes.{shape_in, SaySame, facts_changed}
use Rattle.change_model.proofs.ChangedVariables.{IsOfLevel, variable_found, variable_filtered, other_class}
use Rattle.change_model.proofs.Planned.{Planned}

-- ---- variables by location

variable_same : (new old : ModuleFacts) → SaySame new old → (class location : ℕ) → is_variable_at new class location ≡ is_variable_at old class location
variable_same new old s class location = ap (λ (d : ℕ → ℕ → Option ℕ). λ (inst : Inst). is_variable_of class inst && is_word location (d (word_at 1 inst) LOCATION)) s.decoration

both_false : (a b c : Bool) → b ≡ false → (a && b && c) ≡ false
both_false true b c is = ap (λ (x : Bool). x && c) is
both_false false b c is = refl

location_of_level : (facts : ModuleFacts) (class location : ℕ) → storage_class.FUNCTION == class ≡ false → IsOfLevel (is_variable_at facts class location)
location_of_level facts class location isnt = record {
  only = λ inst none. ap (λ (b : Bool). b && (word_at 2 inst == class) && is_word location (facts.decoration (word_at 1 inst) LOCATION)) none;
  other = λ inst is. both_false (inst.op == op.VARIABLE) (word_at 2 inst == class) (is_word location (facts.decoration (word_at 1 inst) LOCATION)) (other_class (word_at 2 inst) class isnt is);
}

-- ---- what variables hold

-- what a type of this shape says
abbrev slot_by : Option Shape → Option Slot
slot_by (Some (Int signed)) = slot_in (OfShape (Int signed))
slot_by (Some (IntVector count signed)) = slot_in (OfShape (IntVector count signed))
slot_by shape = None

slot_shape : (m : Meaning) → slot_in m ≡ slot_by (shape_in m)
slot_shape Absent = refl
slot_shape (OfShape (Int signed)) = refl
slot_shape (OfShape (IntVector count signed)) = refl
slot_shape (OfShape shape) = refl
slot_shape (Constant type) = refl
slot_shape (Variable type class) = refl
slot_shape (OfValue type) = refl
slot_shape Label = refl
slot_shape Other = refl

abbrev pointee_by : Option Shape → Option ℕ
pointee_by (Some (Pointer class to)) = Some to
pointee_by shape = None

pointee_shape : (m : Meaning) → pointee_id m ≡ pointee_by (shape_in m)
pointee_shape Absent = refl
pointee_shape (OfShape (Pointer class to)) = refl
pointee_shape (OfShape shape) = refl
pointee_shape (Constant type) = refl
pointee_shape (Variable type class) = refl
pointee_shape (OfValue type) = refl
pointee_shape Label = refl
pointee_shape Other = refl

pointee_slot : (new old : ModuleFacts) → SaySame new old → (to : Option ℕ) → slot_in (pointee new to) ≡ slot_in (pointee old to)
pointee_slot new old s None = refl
pointee_slot new old s (Some to) = slot_shape (new.meaning to) ∙ ap slot_by (s.shape to) ∙ sym (slot_shape (old.meaning to))

pub held_slot : (new old : ModuleFacts) → SaySame new old → (type : ℕ) → slot_in (held_type new type) ≡ slot_in (held_type old type)
held_slot new old s type =
    ap (λ (to : Option ℕ). slot_in (pointee new to)) (pointee_shape (new.meaning type) ∙ ap pointee_by (s.shape type) ∙ sym (pointee_shape (old.meaning type)))
    ∙ pointee_slot new old s (pointee_id (old.meaning type))

-- ---- the interface

slots_of : ModuleFacts → List Inst → ℕ → List (Option Slot)
slots_of facts insts class = map (slot_at facts insts class) (range_with_len 0 LOCATIONS)

slots_same : (g : Planned) (class : ℕ) → storage_class.FUNCTION == class ≡ false → slots_of (facts_of (changed g.plan g.words.insts)) (changed g.plan g.words.insts) class ≡ slots_of (facts_of g.words.insts) g.words.insts class
unfolding slots_of
slots_same g class isnt =
    let list = changed g.plan g.words.insts in
    let n = facts_of list in let o = facts_of g.words.insts in
    let s = facts_changed g in
    ap (λ (t : ℕ → Option Slot). map t (range_with_len 0 LOCATIONS)) (fun_ext (λ location.
    ap (λ (t : Inst → Bool). option_and_then (slot_of_variable n) (find t list)) (variable_same n o s class location)
    ∙ ap (option_and_then (slot_of_variable n)) (variable_found g (is_variable_at o class location) (location_of_level o class location isnt))
    ∙ ap (λ (t : Inst → Option Slot). option_and_then t (find (is_variable_at o class location) g.words.insts)) (fun_ext (λ inst. held_slot n o s (word_at 0 inst)))))

inputs_are : (insts : List Inst) → inputs_of insts ≡ record { slots = slots_of (facts_of insts) insts storage_class.INPUT }
unfolding inputs_of slots_of
inputs_are insts = refl

outputs_are : (insts : List Inst) → outputs_of insts ≡ record { slots = slots_of (facts_of insts) insts storage_class.OUTPUT }
unfolding outputs_of slots_of
outputs_are insts = refl

vertex_same : (g : Planned) → is_vertex (facts_of (changed g.plan g.words.insts)) ≡ is_vertex (facts_of g.words.insts)
vertex_same g = let s = facts_changed g in ap (is_word VERTEX) s.model

stage_changed : (g : Planned) → stage_of (changed g.plan g.words.insts) ≡ stage_of g.words.insts
unfolding stage_of
stage_changed g = rw (vertex_same g) refl

-- stage, inputs and outputs are the same
pub interface_changed : (g : Planned) → HasInterfaceOf (changed g.plan g.words.insts) g.words.insts
interface_changed g = record {
  stage = stage_changed g;
  inputs = inputs_are (changed g.plan g.words.insts) ∙ ap (λ (l : List (Option Slot)). record { slots = l }) (slots_same g storage_class.INPUT refl) ∙ sym (inputs_are g.words.insts);
  outputs = outputs_are (changed g.plan g.words.insts) ∙ ap (λ (l : List (Option Slot)). record { slots = l }) (slots_same g storage_class.OUTPUT refl) ∙ sym (outputs_are g.words.insts);
}

-- ---- locations

variables_same : (g : Planned) (class location : ℕ) → storage_class.FUNCTION == class ≡ false
    → filter (is_variable_at (facts_of (changed g.plan g.words.insts)) class location) (changed g.plan g.words.insts) ≡ filter (is_variable_at (facts_of g.words.insts) class location) g.words.insts
variables_same g class location isnt =
    ap (λ (t : Inst → Bool). filter t (changed g.plan g.words.insts)) (variable_same (facts_of (changed g.plan g.words.insts)) (facts_of g.words.insts) (facts_changed g) class location)
    ∙ variable_filtered g (is_variable_at (facts_of g.words.insts) class location) (location_of_level (facts_of g.words.insts) class location isnt)

smooth_same : (new old : ModuleFacts) → SaySame new old → is_smooth new ≡ is_smooth old
smooth_same new old s = ap (λ (d : ℕ → ℕ → Option ℕ). λ (inst : Inst). not (is_some (d (word_at 1 inst) FLAT))) s.decoration

pub flat_changed : (g : Planned) → not_flat (changed g.plan g.words.insts) ≡ not_flat g.words.insts
unfolding not_flat
flat_changed g =
    let list = changed g.plan g.words.insts in
    let n = facts_of list in let o = facts_of g.words.insts in
    ap (λ (b : Bool). if b then None else lowest_location (has_smooth_input n list)) (vertex_same g)
    ∙ ap (λ (t : ℕ → Bool). if is_vertex o then None else lowest_location t) (fun_ext (λ location.
    ap (λ (t : Inst → Bool). list_any t (filter (is_variable_at n storage_class.INPUT location) list)) (smooth_same n o (facts_changed g))
    ∙ ap (list_any (is_smooth o)) (variables_same g storage_class.INPUT location refl)))

pub locations_changed : (g : Planned) → location_twice (changed g.plan g.words.insts) ≡ location_twice g.words.insts
unfolding location_twice
locations_changed g =
    let list = changed g.plan g.words.insts in
    let n = facts_of list in let o = facts_of g.words.insts in
    let two : (class location : ℕ) → storage_class.FUNCTION == class ≡ false → are_two n list class location ≡ are_two o g.words.insts class location = λ class location isnt.
    ap (λ (l : List Inst). nat_le 2 (length l)) (variables_same g class location isnt) in
    ap lowest_location (fun_ext (λ location.
    ap (λ (b : Bool). b || are_two n list storage_class.OUTPUT location) (two storage_class.INPUT location refl)
    ∙ ap (λ (b : Bool). are_two o g.words.insts storage_class.INPUT location || b) (two storage_class.OUTPUT location refl)))
