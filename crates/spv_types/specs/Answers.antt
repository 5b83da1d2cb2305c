-- What the table of a module's ids tells.
use Rattle.std.specs.Prelude.{◌≡◌, ℕ, Bool, Option, None, Some, Result, is_some}
use Rattle.basics.specs.Answer.{UnlessMemory}
use Rattle.spirv_model.specs.declared.decoration.TheConstants.{BINDING, DESCRIPTOR_SET, FLAT}
use Rattle.spirv_model.specs.declared.module.Words.{Words}
use Rattle.valid_model.specs.declared.meaning.Meaning.{Meaning}
use Rattle.valid_model.specs.declared.meaning.IdFacts.{IdFacts}
use Rattle.valid_model.specs.declared.type_fault.TypeFault.{TypeFault}
use Rattle.valid_model.specs.Definitions.{definition}
use Rattle.valid_model.specs.Knowledge.{size_in}
use Rattle.valid_model.specs.Meanings.{known_by, meaning}
use Rattle.valid_model.specs.DecorationWords.{both, decoration_of, offset_of}
use Rattle.valid_model.specs.FirstFault.{type_fault, is_memory}
use Rattle.spv_types.specs.declared.ids.Ids.{Ids}
use Rattle.spv_types.specs.Pairs.{at_pair}
use Rattle.spv_types.specs.Tables.{in_places, in_table}

abbrev pub meaning_or : Meaning → Option IdFacts → Meaning
meaning_or default None = default
meaning_or default (Some known) = known.meaning

-- the meaning that is told of an id
abbrev pub meaning_at : Ids → ℕ → Meaning
meaning_at ids id = meaning_or ids.absent (in_table ids.table id)

-- the place of its definition, and the words of a type's values, as they are told
abbrev pub place_at : Ids → ℕ → Option ℕ
place_at ids id = in_places ids.places id

abbrev pub size_at : Ids → ℕ → ℕ
size_at ids id = size_in (in_table ids.table id)

-- the word of an id's decoration, its slot, and the offset of a member, as they are told
abbrev pub decoration_at : Ids → ℕ → ℕ → Option ℕ
decoration_at ids id decoration = at_pair ids.decorations.words id decoration

abbrev pub slot_at : Ids → ℕ → Option (ℕ × ℕ)
slot_at ids id = both (decoration_at ids id DESCRIPTOR_SET) (decoration_at ids id BINDING)

abbrev pub offset_at : Ids → ℕ → ℕ → Option ℕ
offset_at ids id member = at_pair ids.decorations.offsets id member

-- whether an id is told to have the decoration Flat
abbrev pub is_flat_at : Ids → ℕ → Bool
is_flat_at ids id = is_some (decoration_at ids id FLAT)

-- the ids of a module without faults
pub record AreIdsOf (words : Words) (ids : Ids) : Type 0 where
  pub sound : type_fault words ≡ None
  pub meanings : (id : ℕ) → meaning_at ids id ≡ meaning words.insts id
  pub places : (id : ℕ) → place_at ids id ≡ definition words.insts id
  pub sizes : (id : ℕ) → size_at ids id ≡ size_in (known_by words.insts id)
  pub decorations : (id decoration : ℕ) → decoration_at ids id decoration ≡ decoration_of words.insts id decoration
  pub offsets : (id member : ℕ) → offset_at ids id member ≡ offset_of words.insts id member

-- the ids of a module, or its fault
abbrev pub AnswersIds : Words → Result Ids TypeFault → Type 0
AnswersIds words answer = UnlessMemory is_memory (AreIdsOf words) (λ fault. type_fault words ≡ Some fault) answer
