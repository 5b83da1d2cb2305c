-- The interface of a module: its inputs and outputs by location, its specialization ids, and the faults NotFlat and
-- LocationTwice (SPIR-V specification, section 3.20 "Decoration"; Vulkan specification, section "Shader Interfaces").
use Rattle.std.specs.Prelude.{◌≡◌, ℕ, ◌<◌, Bool, not, ◌&&◌, ◌||◌, nat_le, if◌then◌else◌, List, length, map, filter, slice_index, Option, None, Some}
use Rattle.std.specs.List.{find, list_any, range_with_len}
use Rattle.std.specs.Option.{option_and_then}
use Rattle.limits.specs.declared.TheConstants.{LOCATIONS}
use Rattle.spirv_model.specs.declared.module.Inst.{Inst}
use Rattle.spirv_model.specs.declared.decoration.TheConstants.{LOCATION, FLAT}
use Rattle.spirv_model.specs.declared.storage_class.TheConstants as storage_class
use Rattle.spirv_model.specs.Operands.{word_at}
use Rattle.state_model.specs.declared.iface.Slot.{Slot}
use Rattle.state_model.specs.declared.iface.Iface.{Iface}
use Rattle.valid_model.specs.declared.meaning.Meaning.{Meaning}
use Rattle.valid_model.specs.declared.meaning.Meaning.TheVariants.{Shape as OfShape}
use Rattle.valid_model.specs.declared.meaning.Shape.TheVariants.{Int, IntVector}
use Rattle.valid_model.specs.EarlierFacts.{has_spec_id, is_variable_of}
use Rattle.valid_model.specs.ModuleFacts.{ModuleFacts, facts_of, is_decorated, is_vertex, is_word}
use Rattle.valid_model.specs.Shapes.{held_type}
use Rattle.body_model.specs.Switches.{is_among}
use Rattle.check_model.specs.declared.stage.Stage.{Stage}
use Rattle.check_model.specs.declared.stage.Stage.TheVariants.{Vertex, Fragment}

-- the instruction is a variable of this class at this location
abbrev pub is_variable_at : ModuleFacts → ℕ → ℕ → Inst → Bool
is_variable_at facts class location inst = is_variable_of class inst && is_word location (facts.decoration (word_at 1 inst) LOCATION)

abbrev pub variables_at : ModuleFacts → List Inst → ℕ → ℕ → List Inst
variables_at facts insts class location = filter (is_variable_at facts class location) insts

-- ---- faults

-- the lowest location with a property
abbrev pub lowest_location : (ℕ → Bool) → Option ℕ
lowest_location p = find p (range_with_len 0 LOCATIONS)

-- an input there isn't Flat
abbrev pub is_smooth : ModuleFacts → Inst → Bool
is_smooth facts inst = not (is_decorated facts (word_at 1 inst) FLAT)

abbrev pub has_smooth_input : ModuleFacts → List Inst → ℕ → Bool
has_smooth_input facts insts location = list_any (is_smooth facts) (variables_at facts insts storage_class.INPUT location)

-- the lowest location of an input of a fragment module that isn't Flat
unfoldable pub not_flat : List Inst → Option ℕ
not_flat insts = if is_vertex (facts_of insts) then None else lowest_location (has_smooth_input (facts_of insts) insts)

-- two variables of the class are there
abbrev pub are_two : ModuleFacts → List Inst → ℕ → ℕ → Bool
are_two facts insts class location = nat_le 2 (length (variables_at facts insts class location))

-- the lowest location that two inputs or two outputs have
unfoldable pub location_twice : List Inst → Option ℕ
location_twice insts =
    lowest_location (λ location. are_two (facts_of insts) insts storage_class.INPUT location || are_two (facts_of insts) insts storage_class.OUTPUT location)

-- ---- what a valid module has

-- the stage of a module, by its first entry point
unfoldable pub stage_of : List Inst → Stage
stage_of insts = if is_vertex (facts_of insts) then Vertex else Fragment

-- an integer or a vector of integers, as the slot of an interface
abbrev pub slot_in : Meaning → Option Slot
slot_in (OfShape (Int signed)) = Some (record { comps = 1; signed = signed })
slot_in (OfShape (IntVector count signed)) = Some (record { comps = count; signed = signed })
slot_in meaning = None

abbrev pub slot_of_variable : ModuleFacts → Inst → Option Slot
slot_of_variable facts inst = slot_in (held_type facts (word_at 0 inst))

-- what the variable of this class at a location holds
abbrev pub slot_at : ModuleFacts → List Inst → ℕ → ℕ → Option Slot
slot_at facts insts class location = option_and_then (slot_of_variable facts) (find (is_variable_at facts class location) insts)

abbrev pub interface : List Inst → ℕ → Iface
interface insts class = record { slots = map (slot_at (facts_of insts) insts class) (range_with_len 0 LOCATIONS) }

unfoldable pub inputs_of : List Inst → Iface
inputs_of insts = interface insts storage_class.INPUT

unfoldable pub outputs_of : List Inst → Iface
outputs_of insts = interface insts storage_class.OUTPUT

-- the numbers by which specialization constants are set, in ascending order
pub record AreSpecIds (insts : List Inst) (ids : List ℕ) : Type 0 where
  pub ascending : (i j : ℕ) → i < j → j < length ids → slice_index ids i < slice_index ids j
  pub declared : (id : ℕ) → is_among id ids ≡ list_any (has_spec_id id) insts
