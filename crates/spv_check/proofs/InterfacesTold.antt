-- What is told of interfaces is what the words say.
use Rattle.std.proofs.Common.{◌≡◌, ℕ, List, map, Option, None, Some, refl, ap, ◌∙◌}
use Rattle.std.specs.List.{range_with_len, find}
use Rattle.std.specs.Option.{option_map, option_and_then}
use Rattle.limits.specs.declared.TheConstants.{LOCATIONS}
use Rattle.spirv_model.specs.declared.module.Inst.{Inst}
use Rattle.spirv_model.specs.declared.module.Words.{Words}
use Rattle.spirv_model.specs.Operands.{word_at}
use Rattle.state_model.specs.declared.iface.Slot.{Slot}
use Rattle.state_model.specs.declared.iface.Iface.{Iface}
use Rattle.valid_model.specs.DecorationWords.{decoration_of}
use Rattle.valid_model.specs.Meanings.{meaning}
use Rattle.valid_model.specs.Shapes.{held_type}
use Rattle.valid_model.specs.ModuleFacts.{ModuleFacts, facts_of}
use Rattle.check_model.specs.Interfaces.{lowest_location, has_smooth_input, location_twice, is_variable_at, slot_at, slot_in, slot_of_variable, interface}
use Rattle.spv_types.specs.declared.ids.Ids.{Ids}
use Rattle.spv_types.specs.Answers.{AreIdsOf}
use Rattle.spv_check.specs.FactsTold.{facts_by, facts_told, shared_location, slot_told, interface_told}

told : (words : Words) (ids : Ids) → AreIdsOf words ids → facts_told ids ≡ facts_by (decoration_of words.insts) (meaning words.insts)
told words ids are = λ i. facts_by (λ id decoration. are.decorations id decoration i) (λ id. are.meanings id i)

pub smooth_told : (words : Words) (ids : Ids) → AreIdsOf words ids
    → lowest_location (has_smooth_input (facts_told ids) words.insts) ≡ lowest_location (has_smooth_input (facts_of words.insts) words.insts)
unfolding facts_of
smooth_told words ids are = ap (λ (facts : ModuleFacts). lowest_location (has_smooth_input facts words.insts)) (told words ids are)

pub twice_told : (words : Words) (ids : Ids) → AreIdsOf words ids → shared_location (facts_told ids) words.insts ≡ location_twice words.insts
unfolding facts_of location_twice
twice_told words ids are = ap (λ (facts : ModuleFacts). shared_location facts words.insts) (told words ids are)

slot_by : (facts : ModuleFacts) (found : Option Inst) → option_and_then (λ type. slot_in (held_type facts type)) (option_map (word_at 0) found) ≡ option_and_then (slot_of_variable facts) found
slot_by facts None = refl
slot_by facts (Some inst) = refl

slots : (facts : ModuleFacts) (insts : List Inst) (class : ℕ) → slot_told facts insts class ≡ slot_at facts insts class
slots facts insts class = λ i location. slot_by facts (find (is_variable_at facts class location) insts) i

abbrev iface_by : (ℕ → Option Slot) → Iface
iface_by slot = record { slots = map slot (range_with_len 0 LOCATIONS) }

pub interface_is : (words : Words) (ids : Ids) (class : ℕ) → AreIdsOf words ids → interface_told (facts_told ids) words.insts class ≡ interface words.insts class
unfolding facts_of
interface_is words ids class are =
    ap (λ (facts : ModuleFacts). interface_told facts words.insts class) (told words ids are)
    ∙ ap (λ (slot : ℕ → Option Slot). iface_by slot) (slots (facts_by (decoration_of words.insts) (meaning words.insts)) words.insts class)
