-- What the ids of a module tell, as the facts that interfaces are judged by.
use Rattle.std.specs.Prelude.{ℕ, Bool, false, ◌==◌, ◌&&◌, ◌||◌, List, map, Option, None, Some}
use Rattle.std.specs.List.{find, range_with_len}
use Rattle.std.specs.Option.{option_and_then, option_map}
use Rattle.limits.specs.declared.TheConstants.{LOCATIONS}
use Rattle.spirv_model.specs.declared.module.Inst.{Inst}
use Rattle.spirv_model.specs.declared.storage_class.TheConstants.{INPUT, OUTPUT}
use Rattle.spirv_model.specs.declared.execution_model.TheConstants.{VERTEX, FRAGMENT}
use Rattle.spirv_model.specs.Operands.{word_at}
use Rattle.valid_model.specs.declared.meaning.Meaning.{Meaning}
use Rattle.valid_model.specs.Shapes.{held_type}
use Rattle.valid_model.specs.ModuleFacts.{ModuleFacts, is_word}
use Rattle.state_model.specs.declared.iface.Iface.{Iface}
use Rattle.state_model.specs.declared.iface.Slot.{Slot}
use Rattle.check_model.specs.Interfaces.{are_two, is_variable_at, lowest_location, slot_in}
use Rattle.spv_types.specs.declared.ids.Ids.{Ids}
use Rattle.spv_types.specs.Answers.{decoration_at, meaning_at}

-- decorations and meanings; interfaces ask for nothing else of an id
abbrev pub facts_by : (ℕ → ℕ → Option ℕ) → (ℕ → Meaning) → ModuleFacts
facts_by decoration meaning = record {
  decoration = decoration;
  offset = λ id member. None;
  opcode = λ id. None;
  model = None;
  meaning = meaning;
}

abbrev pub facts_told : Ids → ModuleFacts
facts_told ids = facts_by (decoration_at ids) (meaning_at ids)

-- the lowest location that two inputs or two outputs have
abbrev pub shared_location : ModuleFacts → List Inst → Option ℕ
shared_location facts insts = lowest_location (λ location. are_two facts insts INPUT location || are_two facts insts OUTPUT location)

-- the type of the variable of this class at a location
abbrev pub type_at : ModuleFacts → List Inst → ℕ → ℕ → Option ℕ
type_at facts insts class location = option_map (word_at 0) (find (is_variable_at facts class location) insts)

-- what it holds
abbrev pub slot_told : ModuleFacts → List Inst → ℕ → ℕ → Option Slot
slot_told facts insts class location = option_and_then (λ type. slot_in (held_type facts type)) (type_at facts insts class location)

-- the inputs or the outputs, by location
abbrev pub interface_told : ModuleFacts → List Inst → ℕ → Iface
interface_told facts insts class = record { slots = map (slot_told facts insts class) (range_with_len 0 LOCATIONS) }

-- an entry point with these words is one of the two stages, into this function
abbrev pub is_shader_entry_in : (function model target : Option ℕ) → Bool
is_shader_entry_in function None target = false
is_shader_entry_in function (Some model) None = false
is_shader_entry_in function (Some model) (Some target) = ((model == VERTEX) || (model == FRAGMENT)) && is_word target function
