-- What decorations say of ids and of members (SPIR-V specification, section 3.20 "Decoration").
use Rattle.std.specs.Prelude.{ℕ, Bool, ◌&&◌, ◌||◌, ◌==◌, List, Option, None, Some, length}
use Rattle.std.specs.List.{find}
use Rattle.std.specs.Option.{option_map}
use Rattle.spirv_model.specs.declared.decoration.TheConstants.{SPEC_ID, BLOCK, ARRAY_STRIDE, BUILT_IN, FLAT, LOCATION, BINDING, DESCRIPTOR_SET, OFFSET}
use Rattle.spirv_model.specs.declared.module.Inst.{Inst}
use Rattle.spirv_model.specs.Operands.{word_at}
use Rattle.spirv_model.specs.declared.op.TheConstants as op

-- a decoration that has no word, or one
abbrev pub has_no_word : ℕ → Bool
has_no_word decoration = (decoration == BLOCK) || (decoration == FLAT)

abbrev pub has_one_word : ℕ → Bool
has_one_word decoration =
    (decoration == SPEC_ID) || (decoration == ARRAY_STRIDE) || (decoration == BUILT_IN) || (decoration == LOCATION) || (decoration == BINDING)
    || (decoration == DESCRIPTOR_SET)

-- a decoration that is listed, with as many words as it has
abbrev pub is_listed : ℕ → ℕ → Bool
is_listed decoration words = (has_no_word decoration && (words == 2)) || (has_one_word decoration && (words == 3))

-- OpDecorate with a listed decoration and as many words as that has
abbrev pub is_decorate : Inst → Bool
is_decorate inst = (inst.op == op.DECORATE) && is_listed (word_at 1 inst) (length inst.words)

-- OpMemberDecorate with Offset and its word
abbrev pub is_offset : Inst → Bool
is_offset inst = (inst.op == op.MEMBER_DECORATE) && (word_at 2 inst == OFFSET) && (length inst.words == 4)

-- the instruction gives the id this decoration
abbrev pub decorates : ℕ → ℕ → Inst → Bool
decorates id decoration inst = is_decorate inst && (word_at 0 inst == id) && (word_at 1 inst == decoration)

-- the instruction gives the member its place in the structure
abbrev pub places_member : ℕ → ℕ → Inst → Bool
places_member id member inst = is_offset inst && (word_at 0 inst == id) && (word_at 1 inst == member)

-- the word that an id's decoration has, where the id has it
unfoldable pub decoration_of : List Inst → ℕ → ℕ → Option ℕ
decoration_of insts id decoration = option_map (word_at 2) (find (decorates id decoration) insts)

-- the offset of a structure's member, in bytes, where it has one
unfoldable pub offset_of : List Inst → ℕ → ℕ → Option ℕ
offset_of insts id member = option_map (word_at 3) (find (places_member id member) insts)

abbrev pub both : Option ℕ → Option ℕ → Option (ℕ × ℕ)
both (Some set) (Some binding) = Some (set, binding)
both set binding = None

-- set and binding, where an id has both
abbrev pub slot_of : List Inst → ℕ → Option (ℕ × ℕ)
slot_of insts id = both (decoration_of insts id DESCRIPTOR_SET) (decoration_of insts id BINDING)
